use Rattle.res_calls.proofs.Cited.{ℕ, managers}
use Rattle.res_calls.specs.Rows as rows
use Rattle.res_calls.proofs.Noting.{is_noted}
use Rattle.res_calls.proofs.files.Resources.open_res_file.Goals as goal

pub returns-clause-answer : goal.returns-clause-answer
returns-clause-answer g c = is_noted (λ (n : ℕ). n) (rows.open_res_file c.args.name.now.0.items)
    (managers c.args.self.now c.args.heap.now.memory) _ _ _ _ _ c.open_named-answer.ensures.answer c.note.ensures.answer
    c.note.ensures.noted
