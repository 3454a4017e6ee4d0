use Rattle.fork_wrappers.proofs.Keeps.{start_kept, entries_kept, changed_entries}
use Rattle.fork_wrappers.proofs.laws.all_other_entries_stay.Goals as goal

pub returns-clause-head : goal.returns-clause-head
returns-clause-head c = start_kept

pub returns-clause-entries : goal.returns-clause-entries
returns-clause-entries c = entries_kept

pub returns-clause-count : goal.returns-clause-count
returns-clause-count c = λ file fork new is h other. (changed_entries file fork new is h other).count

pub returns-clause-rest : goal.returns-clause-rest
returns-clause-rest c = λ file fork new is h other. (changed_entries file fork new is h other).rest
