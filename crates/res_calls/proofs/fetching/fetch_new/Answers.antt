use Rattle.res_calls.proofs.Cited.{◌≡◌, map, Some, sym, subst, Reference, Found, Tells, HostMemory, view_lent, with_reference}
use Rattle.res_calls.proofs.Cited.{with_handle, found_at, chained, view_open, managers, handle_gone}
use Rattle.res_calls.proofs.Fetches.{of_found, new_unread, new_fetched}
use Rattle.res_calls.proofs.fetching.fetch_new.Given.{Over}
use Rattle.res_calls.proofs.fetching.fetch_new.Goals.{After-make_handle}
use Rattle.res_calls.proofs.fetching.fetch_new.Goals as goal

-- the reference, and the number of its file
here : (g : Over) (c : After-make_handle g) (f : Found)
    → found_at c.args.at (map view_open c.args.files.now.items) ≡ Some f
    → f.reference.here ≡ view_lent c.entry_at-entry.result
here g c f e = of_found (λ f. f.reference.here) (found_at c.args.at (map view_open c.args.files.now.items)) f
    (view_lent c.entry_at-entry.result) e (rw c.deref-2.ensures.value at c.entry_at-entry.ensures)

number : (g : Over) (c : After-make_handle g) (f : Found)
    → found_at c.args.at (map view_open c.args.files.now.items) ≡ Some f
    → f.file.here.number ≡ c.number_at-guarded.result
number g c f e = of_found (λ f. f.file.here.number) (found_at c.args.at (map view_open c.args.files.now.items)) f
    c.number_at-guarded.result e (rw c.deref.ensures.value at c.number_at-guarded.ensures)

pub returns-in-Err-clause-answer : goal.returns-in-Err-clause-answer
returns-in-Err-clause-answer g c = λ r f e.
    let d = (goal.at.returns-in-Err-clause-answer g c).After-make_handle in
    new_unread c.args.loading f (managers (chained c.args.files.now.items r) c.args.heap.now.memory)
    (view_lent c.entry_at-entry.result) c.number_at-guarded.result (here g d f e) (number g d f e) c.in-Err.refusal
    c.make_handle.new.heap.memory c.in-Err.ensures.answer

pub returns-in-Ok-clause-answer : goal.returns-in-Ok-clause-answer
returns-in-Ok-clause-answer g c = λ r f e.
    let d = (goal.at.returns-in-Ok-clause-answer g c).After-make_handle in
    new_fetched c.args.loading f (managers (chained c.args.files.now.items r) c.args.heap.now.memory)
    (view_lent c.entry_at-entry.result) c.number_at-guarded.result (here g d f e) (number g d f e) c.in-Ok.handle _
    c.make_handle.new.heap.memory
    (of_found (λ f. with_reference (with_handle (Some c.in-Ok.handle) f.reference.here) f)
    (found_at c.args.at (map view_open c.args.files.now.items)) f _ e c.set_handle.ensures) c.in-Ok.ensures.answer

pub returns-in-Err-clause-told : goal.returns-in-Err-clause-told
returns-in-Err-clause-told g c = λ r f e some listens.
    let d = (goal.at.returns-in-Err-clause-told g c).After-make_handle in
    subst (λ (x : Reference). Tells g.K.PurgeSink.told (handle_gone c.args.loading x c.args.heap.now.memory)
    c.args.sink.now c.make_handle.new.sink) (sym (here g d f e))
    (c.in-Err.ensures.hears.tells (λ host. let same : c.in-Err.refusal ≡ HostMemory = cc in some same) listens)

pub returns-in-Ok-clause-told : goal.returns-in-Ok-clause-told
returns-in-Ok-clause-told g c = λ r f e some listens.
    let d = (goal.at.returns-in-Ok-clause-told g c).After-make_handle in
    subst (λ (x : Reference). Tells g.K.PurgeSink.told (handle_gone c.args.loading x c.args.heap.now.memory)
    c.args.sink.now c.make_handle.new.sink) (sym (here g d f e)) (c.in-Ok.ensures.hears.tells (λ host. cc) listens)
