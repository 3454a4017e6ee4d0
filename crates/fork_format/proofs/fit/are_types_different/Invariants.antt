use Rattle.fork_format.proofs.Cited.{◌≡◌, map, drop, Group, are_distinct, view_group}
use Rattle.fork_format.proofs.fit.are_types_different.Given as goal

abbrev pub invariant-loop-i : goal.invariant-loop-i
invariant-loop-i l = are_distinct (map (λ (g : Group). g.kind) (map view_group (drop l.i l.groups)))
    ≡ are_distinct (map (λ (g : Group). g.kind) (map view_group l.groups))
