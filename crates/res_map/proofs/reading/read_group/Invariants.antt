use Rattle.res_map.proofs.Cited.{◌≡◌, ◌++◌, map, drop, view_ref, read_reference, view_reference}
use Rattle.res_map.proofs.reading.read_group.Given as goal

-- the references so far, with those to come, are all
abbrev pub invariant-loop-r : goal.invariant-loop-r
invariant-loop-r l = map view_reference l.refs.items
    ++ map (read_reference l.kind) (map view_ref (drop l.r-index l.group.refs.items))
    ≡ map view_reference l.fn.refs.items ++ map (read_reference l.kind) (map view_ref l.group.refs.items)
