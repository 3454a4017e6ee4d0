use Rattle.rez_typed.proofs.Cited.{◌≡◌, ◌++◌, None, drop, map, view_ref, typed_refs, forms_in}
use Rattle.rez_typed.proofs.source.push_refs.Given as goal

-- the statements so far, with those to come, are all
abbrev pub invariant-loop-r : goal.invariant-loop-r
invariant-loop-r l =
    l.out.items ++ typed_refs l.style l.kind (forms_in l.forms) l.force (map view_ref (drop l.r-index l.refs))
    ≡ l.fn.out.items ++ typed_refs l.style l.kind (forms_in l.forms) None (map view_ref l.refs)
