use Rattle.res_calls.proofs.Walks.Forks.{files_by_call}
use Rattle.res_calls.proofs.Walks.Laws.{served-files}
use Rattle.res_calls.proofs.laws.only_an_update_or_a_creation_writes_a_fork.Goals as goal

pub returns-clause-written : goal.returns-clause-written
returns-clause-written c = files_by_call

pub returns-clause-other_calls : goal.returns-clause-other_calls
returns-clause-other_calls c = served-files
