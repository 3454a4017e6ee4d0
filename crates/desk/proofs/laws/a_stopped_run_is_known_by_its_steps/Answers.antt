use Rattle.desk.proofs.Steps.{stopped_known}
use Rattle.desk.proofs.laws.a_stopped_run_is_known_by_its_steps.Goals as goal

pub returns : goal.returns
returns c = stopped_known
