use Rattle.fork_format.proofs.Cited.{◌≡◌, ◌∙◌, ◌+◌, sym, ap, map, drop, List, None, Some, Ref, Group, refs_of, behind, view_ref, view_group}
use Rattle.fork_format.proofs.Extending.{behind-stops, behind-goes_on}
use Rattle.fork_format.proofs.Rest.{rest-map}
use Rattle.fork_format.proofs.fit.ends_of.Goals as goal

pub returns-in_default-clause-behind : goal.returns-in_default-clause-behind
returns-in_default-clause-behind c =
    let xs : List Ref = map view_ref c.group-item.result.refs.items in
    let ys : List Group = map view_group (drop (c.loop-group.group-index + 1) c.args.groups.now) in
    let none : behind c.loop-group.ends xs ≡ None = ap (λ l. behind c.loop-group.ends (map view_ref l))
    (sym c.as_slice.ensures.value) ∙ sym c.in_default.ensures.behind in
    sym (behind-stops c.loop-group.ends xs (refs_of ys) none)
    ∙ ap (λ l. behind c.loop-group.ends (refs_of l)) (sym
    (rest-map view_group c.args.groups.now c.loop-group.group-index c.group-item.result c.loop-group-test.true
    c.group-item.is)) ∙ c.loop-group.invariant.behind

pub loop-group-preserved : goal.loop-group-preserved
loop-group-preserved c =
    let xs : List Ref = map view_ref c.group-item.result.refs.items in
    let ys : List Group = map view_group (drop (c.loop-group.group-index + 1) c.args.groups.now) in
    let some : behind c.loop-group.ends xs ≡ Some c.in-Some.behind =
    ap (λ l. behind c.loop-group.ends (map view_ref l)) (sym c.as_slice.ensures.value)
    ∙ sym c.in-Some.ensures.behind in
    record {
      datum = c.in-Some.ensures.datum;
      name = c.in-Some.ensures.name;
      behind = sym (behind-goes_on c.loop-group.ends c.in-Some.behind xs (refs_of ys) some)
          ∙ ap (λ l. behind c.loop-group.ends (refs_of l)) (sym
          (rest-map view_group c.args.groups.now c.loop-group.group-index c.group-item.result
          c.loop-group-test.true c.group-item.is)) ∙ c.loop-group.invariant.behind;
    }
