use Rattle.fork_format.proofs.Cited.{◌≡◌, ℕ, not, map, drop, ◌==◌, list_all, Group, view_group}
use Rattle.fork_format.proofs.fit.is_type_new.Given as goal

abbrev pub invariant-loop-group : goal.invariant-loop-group
invariant-loop-group l = list_all (λ (m : ℕ). not (m == l.kind))
    (map (λ (g : Group). g.kind) (map view_group (drop l.group-index l.groups)))
    ≡ list_all (λ (m : ℕ). not (m == l.kind)) (map (λ (g : Group). g.kind) (map view_group l.groups))
