use Rattle.segments.proofs.Cited.{FitsSigned, rules, w16, to_z-of_z, program}
use Rattle.segments.proofs.Loading.{called_there, called_first}
use Rattle.segments.proofs.table.JumpTable.call.Goals as goal

pub returns-then-entry-clause-answer : goal.returns-then-entry-clause-answer
returns-then-entry-clause-answer g c =
    let fits : FitsSigned w16 c.in-Some-segment.segment = search rules in
    called_there c.args.index (program c.args.self.now c.args.resources.now c.args.heap.now.memory) c.in-Some.entry
    c.in-Some-segment.segment c.call_loaded.result _ c.in-Some.ensures c.in-Some-segment.is c.if-entry.true
    (rw (to_z-of_z w16 c.in-Some-segment.segment fits) at c.call_loaded.ensures.answer c.args.self.now)

pub returns-else-entry-clause-answer : goal.returns-else-entry-clause-answer
returns-else-entry-clause-answer g c =
    let fits : FitsSigned w16 c.in-Some-segment.segment = search rules in
    called_first c.args.index (program c.args.self.now c.args.resources.now c.args.heap.now.memory) c.in-Some.entry
    c.in-Some-segment.segment c.call_loading.result _ c.in-Some.ensures c.in-Some-segment.is c.if-entry.false
    (rw (to_z-of_z w16 c.in-Some-segment.segment fits) at c.call_loading.ensures.answer)
