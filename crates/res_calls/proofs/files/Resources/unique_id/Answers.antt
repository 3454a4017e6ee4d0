use Rattle.res_calls.proofs.Cited.{big_number, managers}
use Rattle.std.specs.Prelude.{ℕ}
use Rattle.res_calls.specs.Rows as rows
use Rattle.res_calls.proofs.Noting.{is_noted}
use Rattle.res_calls.proofs.files.Resources.unique_id.Goals as goal

pub returns-clause-answer : goal.returns-clause-answer
returns-clause-answer c = λ m. is_noted (λ (n : ℕ). n) (rows.unique_id rows.EachFile (big_number 4 c.args.ty.0))
    (managers c.args.self.now m) _ _ _ _ m (c.free_id-answer.ensures.answer m) c.note.ensures.answer c.note.ensures.noted
