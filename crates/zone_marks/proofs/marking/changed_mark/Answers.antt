use Rattle.zone_marks.proofs.Cited.{inl, inr, arith}
use Rattle.zone_marks.proofs.Marks.Lowering.{begins-lowered, lowered-order, mark-apart, mark-lowered, told-unknown}
use Rattle.zone_marks.proofs.marking.changed_mark.Goals as goal

pub returns-then-hi-mark-clause-mark : goal.returns-then-hi-mark-clause-mark
returns-then-hi-mark-clause-mark c = λ old z i. mark-apart _ _ _ _ z _ _ _ (elim c.then-hi-mark.either [
  | inl h ↦ inl h
  | inr w ↦ inr w.1
]) c.requires.lowered i

pub measured_mark-requires-clause-begins : goal.measured_mark-requires-clause-begins
measured_mark-requires-clause-begins c =
    let r = c.requires.mark in
    begins-lowered _ _ _ _ r.1 _ _ c.lowered_mark-mark.ensures r.2.begins

pub measured_mark-requires-clause-order : goal.measured_mark-requires-clause-order
measured_mark-requires-clause-order c =
    lowered-order _ _ _ _ _ _ c.requires.mark.2.order c.lowered_mark-mark.ensures c.requires.lowered

pub returns-in-Nothing-clause-mark : goal.returns-in-Nothing-clause-mark
returns-in-Nothing-clause-mark c = λ old z i. mark-lowered _ _ _ _ z _ _ _ _ i c.lowered_mark-mark.ensures
    c.requires.lowered (omega arith) (λ a b. (omega arith)) (told-unknown _)
