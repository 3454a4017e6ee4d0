use Rattle.zone_replay.proofs.Cited.{◌≡◌, ℕ, None, map, drop, get, nat_cmp, no_number, lent_binding, first_of, name_of, named_by}
use Rattle.zone_replay.proofs.known.names_of.Given as goal

-- the first of what was entered and of what is still to come
abbrev pub invariant-loop-one : goal.invariant-loop-one
invariant-loop-one l = ((n : ℕ) → first_of n (named_by (get nat_cmp l.names n))
    (map lent_binding (drop l.one-index l.bound)) ≡ name_of n (map lent_binding l.bound))
    × (get nat_cmp l.names no_number ≡ None)
