use Rattle.script_text.proofs.Cited.{◌≡◌, drop, bytes_eq, position_from, known_names}
use Rattle.script_text.proofs.owners.find_owner.Given as goal

-- as many applications were looked at as there were, and the first of this name that is still to come has its number
abbrev pub invariant-loop-owner : goal.invariant-loop-owner
invariant-loop-owner l = (l.number ≡ l.owner-index)
    × (position_from (bytes_eq l.wanted) l.number (known_names (drop l.owner-index l.owners))
    ≡ position_from (bytes_eq l.wanted) 0 (known_names l.owners))
