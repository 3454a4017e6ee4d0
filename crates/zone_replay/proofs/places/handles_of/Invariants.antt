use Rattle.zone_replay.proofs.Cited.{◌≡◌, ℕ, drop, get, nat_cmp, number_from, leads_to, handle_number, tag_by}
use Rattle.zone_replay.proofs.Entering.{known_or}
use Rattle.zone_replay.proofs.places.handles_of.Given as goal

-- what was entered, before what is still to come
abbrev pub invariant-loop-number : goal.invariant-loop-number
invariant-loop-number l = (key : ℕ) → known_or (tag_by l.names l.owners) (get nat_cmp l.tags key)
    (number_from l.number (leads_to key) (drop l.number l.anchors)) ≡ tag_by l.names l.owners (handle_number l.anchors key)
