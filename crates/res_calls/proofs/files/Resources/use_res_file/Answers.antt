use Rattle.res_calls.specs.Rows as rows
use Rattle.res_calls.proofs.Cited.{managers}
use Rattle.res_calls.proofs.Noting.{is_noted}
use Rattle.res_calls.proofs.files.Resources.use_res_file.Goals as goal

pub returns-clause-answer : goal.returns-clause-answer
returns-clause-answer c = λ m. is_noted (λ (u : Unit {0}). u) (rows.use_res_file c.args.number)
    (managers c.args.self.now m) _ _ _ _ m (c.use_file-answer.ensures.answer m) c.note.ensures.answer c.note.ensures.noted
