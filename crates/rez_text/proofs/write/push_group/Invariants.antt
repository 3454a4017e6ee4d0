use Rattle.rez_text.proofs.Cited.{◌≡◌, ◌++◌, drop, map, flat_map, view_ref, statement}
use Rattle.rez_text.proofs.write.push_group.Given as goal

-- the statements so far, with those to come, are all
abbrev pub invariant-loop-r : goal.invariant-loop-r
invariant-loop-r l = l.out.items ++ flat_map (statement l.lettering l.kind) (map view_ref (drop l.r-index l.group.refs.items))
    ≡ l.fn.out.items ++ flat_map (statement l.lettering l.kind) (map view_ref l.group.refs.items)
