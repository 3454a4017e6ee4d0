use Rattle.res_calls.proofs.Cited.{map, refl, stored_in, view_file, view_open}
use Rattle.res_calls.proofs.LastOpened.{last_updated, last_refused}
use Rattle.res_calls.proofs.PuttingBack.{kept_next}
use Rattle.res_calls.proofs.WritingAnew.{same_resources}
use Rattle.res_calls.proofs.leaving.update_last.Goals as goal

pub returns-in-Ok-clause-answer : goal.returns-in-Ok-clause-answer
returns-in-Ok-clause-answer g c = λ r.
    last_updated c.args.heap.now.memory (map view_open c.args.chain.now.items)
    (stored_in c.args.files.now.items c.args.chain.now.items r)
    (stored_in c.renew_at.new.files.items c.renew_at.new.chain.items r)
    (λ s e. c.in-Ok.ensures.answer r s e)

pub returns-in-Err-Code-clause-answer : goal.returns-in-Err-Code-clause-answer
returns-in-Err-Code-clause-answer g c = λ r.
    last_refused c.args.heap.now.memory (map view_open c.args.chain.now.items) c.in-Err-Code.code
    (stored_in c.args.files.now.items c.args.chain.now.items r)
    (stored_in c.renew_at.new.files.items c.renew_at.new.chain.items r)
    (λ s e. rw c.in-Err-Code.field-0-is at c.in-Err-Code.ensures.answer r s e)
    (same_resources c.args.files.now.items c.renew_at.new.files.items c.args.chain.now.items
    c.renew_at.new.chain.items r (c.in-Err-Code.ensures.files refl) (c.in-Err-Code.ensures.chain refl))

pub returns-in-Ok-clause-undone : goal.returns-in-Ok-clause-undone
returns-in-Ok-clause-undone g c =
    kept_next c.args.undo.now.items c.keep.new.undo.items c.in-Ok.replaced (map view_file c.args.files.now.items)
    (map view_file c.renew_at.new.files.items) (rw c.reserve.ensures.items at c.keep.ensures) c.in-Ok.ensures.replaced
