use Rattle.desk.proofs.Apart.{launched_elsewhere, acted_elsewhere}
use Rattle.desk.proofs.laws.other_applications_stay_as_they_are.Goals as goal

pub returns-clause-launch : goal.returns-clause-launch
returns-clause-launch c = launched_elsewhere

pub returns-clause-act : goal.returns-clause-act
returns-clause-act c = acted_elsewhere
