use Rattle.rez_templates.proofs.Cited.{◌≡◌, with_items, drafted_of}
use Rattle.rez_templates.proofs.draft.Draft.add_items.Given as goal

-- the items to come lead to what all lead to
abbrev pub invariant-loop-rest : goal.invariant-loop-rest
invariant-loop-rest l =
    with_items l.left l.rest (drafted_of l.self) ≡ with_items l.most l.bytes (drafted_of l.fn.self)

abbrev pub decreases-loop-rest : goal.decreases-loop-rest
decreases-loop-rest l = l.left
