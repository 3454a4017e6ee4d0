use Rattle.zone_replay.proofs.Cited.{◌≡◌, ℕ, None, map, drop, get, option_or, nat_cmp, no_number, view_open, owner_of}
use Rattle.zone_replay.proofs.known.owners_of.Given as goal

-- what was entered, before what is still to come
abbrev pub invariant-loop-file : goal.invariant-loop-file
invariant-loop-file l = ((n : ℕ) → option_or (get nat_cmp l.owners n)
    (owner_of n (map view_open (drop l.file-index l.files))) ≡ owner_of n (map view_open l.files))
    × (get nat_cmp l.owners no_number ≡ None)
