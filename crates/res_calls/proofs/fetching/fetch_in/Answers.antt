use Rattle.res_calls.proofs.Cited.{◌∙◌, ap, map, Some, None, Reference, view_lent, found_at, chained, view_open}
use Rattle.res_calls.proofs.Fetches.{here_of, fetch_none, fetch_some}
use Rattle.res_calls.proofs.FetchGone.{told_by}
use Rattle.res_calls.proofs.fetching.fetch_in.Goals as goal

pub returns-in-None-clause-answer : goal.returns-in-None-clause-answer
returns-in-None-clause-answer g c = λ r f e.
    let here = here_of (found_at c.args.at (map view_open c.args.files.now.items)) f
    (view_lent c.entry_at-entry.result) e
    (rw c.deref.ensures.value at c.entry_at-entry.ensures) in
    fetch_none c.args.loading f _ c.fetch_new.result _ (ap (λ (x : Reference). x.handle) here ∙ c.in-None.is)
    (c.fetch_new.ensures.answer r f e)

pub returns-in-Some-clause-answer : goal.returns-in-Some-clause-answer
returns-in-Some-clause-answer g c = λ r f e.
    let here = here_of (found_at c.args.at (map view_open c.args.files.now.items)) f
    (view_lent c.entry_at-entry.result) e
    (rw c.deref.ensures.value at c.entry_at-entry.ensures) in
    fetch_some c.args.loading f _ c.fetch_again.result _ c.in-Some.handle
    (ap (λ (x : Reference). x.handle) here ∙ c.in-Some.is) (c.fetch_again.ensures.answer _ f here)

pub returns-in-None-clause-told : goal.returns-in-None-clause-told
returns-in-None-clause-told g c = λ r f e some listens.
    let here = here_of (found_at c.args.at (map view_open c.args.files.now.items)) f
    (view_lent c.entry_at-entry.result) e
    (rw c.deref.ensures.value at c.entry_at-entry.ensures) in
    told_by g.K.PurgeSink.told c.args.sink.now c.fetch_new.new.sink c.args.loading f None _
    (ap (λ (x : Reference). x.handle) here ∙ c.in-None.is) (c.fetch_new.ensures.told r f e some listens)

pub returns-in-Some-clause-told : goal.returns-in-Some-clause-told
returns-in-Some-clause-told g c = λ r f e some listens.
    let here = here_of (found_at c.args.at (map view_open c.args.files.now.items)) f
    (view_lent c.entry_at-entry.result) e
    (rw c.deref.ensures.value at c.entry_at-entry.ensures) in
    told_by g.K.PurgeSink.told c.args.sink.now c.fetch_again.new.sink c.args.loading f (Some c.in-Some.handle) _
    (ap (λ (x : Reference). x.handle) here ∙ c.in-Some.is)
    (c.fetch_again.ensures.told (chained c.args.files.now.items r) f here some listens)
