use Rattle.res_map.proofs.Cited.{◌≡◌, ◌++◌, map, drop, Group, view_group}
use Rattle.res_map.proofs.reading.read_types.Given as goal

-- the types so far, with those to come, are all
abbrev pub invariant-loop-group : goal.invariant-loop-group
invariant-loop-group l = l.types.items
    ++ map (λ (g : Group). g.kind) (map view_group (drop l.group-index l.groups))
    ≡ map (λ (g : Group). g.kind) (map view_group l.groups)
