use Rattle.res_calls.proofs.Cited.{big_number, OsType, managers}
use Rattle.res_calls.specs.Rows as rows
use Rattle.res_calls.proofs.Noting.{is_noted}
use Rattle.res_calls.proofs.files.Resources.get1_ind_type.Goals as goal

pub returns-clause-answer : goal.returns-clause-answer
returns-clause-answer c = λ m. is_noted (λ (t : OsType). big_number 4 t.0) (rows.get_ind_type rows.Current c.args.n)
    (managers c.args.self.now m) _ _ _ _ m (c.ind_type-answer.ensures.answer m) c.note.ensures.answer c.note.ensures.noted
