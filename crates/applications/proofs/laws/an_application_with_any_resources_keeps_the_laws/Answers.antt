use Rattle.applications.proofs.Runs.{keeps_promises}
use Rattle.applications.proofs.laws.an_application_with_any_resources_keeps_the_laws.Goals as goal

pub returns : goal.returns
returns c = record { laws = keeps_promises }
