use Rattle.zone_replay.proofs.Cited.{◌≡◌, map, drop, bound_to, lent_binding}
use Rattle.zone_replay.proofs.named.number_in.Given as goal

-- the name is bound among all where it is bound among those that are still to come
abbrev pub invariant-loop-one : goal.invariant-loop-one
invariant-loop-one l =
    bound_to l.name (map lent_binding (drop l.one-index l.bound)) ≡ bound_to l.name (map lent_binding l.bound)
