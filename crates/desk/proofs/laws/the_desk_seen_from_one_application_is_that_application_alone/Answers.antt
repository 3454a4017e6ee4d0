use Rattle.desk.proofs.Alone.{seen_alone}
use Rattle.desk.proofs.laws.the_desk_seen_from_one_application_is_that_application_alone.Goals as goal

pub returns : goal.returns
returns c = seen_alone
