use Rattle.res_calls.specs.Rows as rows
use Rattle.res_calls.proofs.Cited.{managers}
use Rattle.res_calls.proofs.Noting.{is_noted}
use Rattle.res_calls.proofs.files.Resources.close_res_file.Goals as goal

pub returns-clause-answer : goal.returns-clause-answer
returns-clause-answer g c = is_noted (λ (u : Unit {0}). u) (rows.close_res_file c.args.number)
    (managers c.args.self.now c.args.heap.now.memory) _ _ _ _ _ c.close-answer.ensures.answer c.note.ensures.answer
    c.note.ensures.noted
