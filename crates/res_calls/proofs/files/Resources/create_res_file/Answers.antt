use Rattle.res_calls.specs.Changing as changing
use Rattle.res_calls.proofs.Cited.{managers}
use Rattle.res_calls.proofs.Noting.{is_noted}
use Rattle.res_calls.proofs.files.Resources.create_res_file.Goals as goal

pub returns-clause-answer : goal.returns-clause-answer
returns-clause-answer c = λ m. is_noted (λ (u : Unit {0}). u) (changing.create_res_file c.args.name.now.0.items)
    (managers c.args.self.now m) _ _ _ _ m (c.create-answer.ensures.answer m) c.note.ensures.answer
    c.note.ensures.noted
