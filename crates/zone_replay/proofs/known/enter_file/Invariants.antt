use Rattle.zone_replay.proofs.Cited.{◌≡◌, ℕ, None, drop, get, option_or, nat_cmp, no_number, owner_in}
use Rattle.zone_replay.proofs.known.enter_file.Given as goal

-- what was entered, before what is still to come
abbrev pub invariant-loop-index : goal.invariant-loop-index
invariant-loop-index l = ((n : ℕ) → option_or (get nat_cmp l.owners n)
    (owner_in n l.file.number (drop l.index l.file.map.references))
    ≡ option_or (get nat_cmp l.initial.owners n) (owner_in n l.file.number l.file.map.references))
    × (get nat_cmp l.initial.owners no_number ≡ None → get nat_cmp l.owners no_number ≡ None)
