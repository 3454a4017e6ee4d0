use Rattle.res_calls.proofs.Cited.{managers}
use Rattle.std.specs.Prelude.{ℕ}
use Rattle.res_calls.specs.Rows as rows
use Rattle.res_calls.proofs.Noting.{is_noted}
use Rattle.res_calls.proofs.files.Resources.get_res_file_attrs.Goals as goal

pub returns-clause-answer : goal.returns-clause-answer
returns-clause-answer c = λ m. is_noted (λ (n : ℕ). n) (rows.get_res_file_attrs c.args.number) (managers c.args.self.now m)
    _ _ _ _ m (c.attrs_of_file-answer.ensures.answer m) c.note.ensures.answer c.note.ensures.noted
