use Rattle.res_calls.proofs.Cited.{ap, Served}
use Rattle.res_calls.proofs.Following.{handle-stored, system-stays}
use Rattle.res_calls.proofs.Walks.Forks.{emptied_reference_keeps, unchanged_reference_stays, update_untouched}
use Rattle.res_calls.proofs.laws.an_update_stores_what_was_changed.Goals as goal

pub returns-clause-changed : goal.returns-clause-changed
returns-clause-changed c = handle-stored

pub returns-clause-emptied : goal.returns-clause-emptied
returns-clause-emptied c = emptied_reference_keeps

pub returns-clause-other : goal.returns-clause-other
returns-clause-other c = unchanged_reference_stays

pub returns-clause-untouched : goal.returns-clause-untouched
returns-clause-untouched c = λ n s at found untouched.
    ap (λ (x : Served). x.after) (update_untouched n s at found untouched)

pub returns-clause-systems : goal.returns-clause-systems
returns-clause-systems c = system-stays
