use Rattle.res_calls.proofs.Cited.{Attrs, managers}
use Rattle.res_calls.specs.Rows as rows
use Rattle.res_calls.proofs.Noting.{is_noted}
use Rattle.res_calls.proofs.files.Resources.get_res_attrs.Goals as goal

pub returns-clause-answer : goal.returns-clause-answer
returns-clause-answer c = λ m. is_noted (λ (a : Attrs). a.0) (rows.get_res_attrs c.args.handle)
    (managers c.args.self.now m) _ _ _ _ m
    (c.attrs_at-answer.ensures.answer m) c.note.ensures.answer c.note.ensures.noted
