use Rattle.desk.proofs.Resting.{rest_ends}
use Rattle.desk.proofs.laws.no_application_runs_after_a_rest.Goals as goal

pub returns : goal.returns
returns c = rest_ends
