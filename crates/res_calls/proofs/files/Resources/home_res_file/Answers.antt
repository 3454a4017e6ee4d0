use Rattle.res_calls.proofs.Cited.{ℕ, managers}
use Rattle.res_calls.specs.Rows as rows
use Rattle.res_calls.proofs.Noting.{is_noted}
use Rattle.res_calls.proofs.files.Resources.home_res_file.Goals as goal

pub returns-clause-answer : goal.returns-clause-answer
returns-clause-answer c = λ m. is_noted (λ (n : ℕ). n) (rows.home_res_file c.args.handle)
    (managers c.args.self.now m) _ _ _ _ m
    (c.home_of-answer.ensures.answer m) c.note.ensures.answer c.note.ensures.noted
