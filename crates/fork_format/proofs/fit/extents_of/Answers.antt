use Rattle.fork_format.proofs.Cited.{◌≡◌, ◌∙◌, refl, sym, ap, map, List, true, None, Group, refs_of, are_distinct, refs_offset, refs_end}
use Rattle.fork_format.proofs.Cited.{behind, no_starts, view_group, view}
use Rattle.fork_format.specs.declared.content.Group.{Group as StoredGroup}
use Rattle.fork_format.proofs.Extending.{fits-found, extents-found, refs_end-found, behind-found, parts-fit}
use Rattle.fork_format.proofs.fit.extents_of.Goals as goal

pub returns-in_default-clause-fits : goal.returns-in_default-clause-fits
returns-in_default-clause-fits c =
    let none : refs_end (refs_offset (view c.args.content.now).groups) (view c.args.content.now).groups ≡ None =
    ap (λ (l : List StoredGroup). refs_end (refs_offset (map view_group l)) (map view_group l))
    (sym c.as_slice-groups.ensures.value) ∙ sym c.in_default.ensures.end in
    (λ h. cc, λ h. absurd (refs_end-found (view c.args.content.now) h none))

pub returns-in_default-ends_of-clause-fits : goal.returns-in_default-ends_of-clause-fits
returns-in_default-ends_of-clause-fits c =
    let none : behind no_starts (refs_of (view c.args.content.now).groups) ≡ None =
    ap (λ (l : List StoredGroup). behind no_starts (refs_of (map view_group l))) (sym c.as_slice-groups.ensures.value)
    ∙ sym c.in_default-ends_of.ensures.behind in
    (λ h. cc, λ h. absurd (behind-found (view c.args.content.now) h none))

pub returns-clause-found : goal.returns-clause-found
returns-clause-found c =
    extents-found _ (view c.args.content.now).groups c.in-Some-ends_of.ends
    (ap (λ (l : List StoredGroup). refs_end (refs_offset (map view_group l)) (map view_group l))
    (sym c.as_slice-groups.ensures.value) ∙ sym c.in-Some.ensures.end)
    (ap (λ (l : List StoredGroup). behind no_starts (refs_of (map view_group l)))
    (sym c.as_slice-groups.ensures.value) ∙ sym c.in-Some-ends_of.ensures.behind)
    refl refl c.in-Some-ends_of.ensures.name

pub returns-clause-fits : goal.returns-clause-fits
returns-clause-fits c =
    let different : are_distinct (map (λ (g : Group). g.kind) (view c.args.content.now).groups) ≡ true =
    ap (λ (l : List StoredGroup). are_distinct (map (λ (g : Group). g.kind) (map view_group l)))
    (sym c.as_slice-groups.ensures.value) ∙ sym c.are_types_different.ensures
    ∙ c.if-not-are_types_different.false in (
      λ h. parts-fit (view c.args.content.now) (fits-found (view c.args.content.now) c.in-Some.refs_end
          c.in-Some-ends_of.ends
          (ap (λ (l : List StoredGroup). refs_end (refs_offset (map view_group l)) (map view_group l))
          (sym c.as_slice-groups.ensures.value) ∙ sym c.in-Some.ensures.end)
          (ap (λ (l : List StoredGroup). behind no_starts (refs_of (map view_group l)))
          (sym c.as_slice-groups.ensures.value) ∙ sym c.in-Some-ends_of.ensures.behind)
          different),
      λ h. refl,
    )
