use Rattle.res_calls.proofs.Cited.{w16, to_z-of_z, managers}
use Rattle.res_calls.specs.Changing as changing
use Rattle.res_calls.proofs.Noting.{is_noted}
use Rattle.res_calls.proofs.files.Resources.set_res_info.Goals as goal

pub returns-clause-answer : goal.returns-clause-answer
returns-clause-answer c = λ m. is_noted (λ (u : Unit {0}). u)
    (changing.set_res_info c.args.handle c.args.id c.args.name.now.0.items)
    (managers c.args.self.now m) _ _ _ _ m
    (rw (to_z-of_z w16 c.args.id c.ranges.id) at c.set_info-answer.ensures.answer m)
    c.note.ensures.answer c.note.ensures.noted
