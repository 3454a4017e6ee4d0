use Rattle.res_calls.proofs.Recorded.Laws.{served-records}
use Rattle.res_calls.proofs.laws.few_calls_alter_resources.Goals as goal

pub returns : goal.returns
returns c = served-records
