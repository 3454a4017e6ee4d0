use Rattle.res_calls.specs.Changing as changing
use Rattle.res_calls.proofs.Cited.{managers}
use Rattle.res_calls.proofs.Noting.{is_noted}
use Rattle.res_calls.proofs.files.Resources.set_res_file_attrs.Goals as goal

pub returns-clause-answer : goal.returns-clause-answer
returns-clause-answer c = λ m. is_noted (λ (u : Unit {0}). u) (changing.set_res_file_attrs c.args.number c.args.attrs)
    (managers c.args.self.now m) _ _ _ _ m (c.set_attrs_of_file-answer.ensures.answer m) c.note.ensures.answer
    c.note.ensures.noted
