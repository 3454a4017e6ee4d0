use Rattle.desk.proofs.Alone.{left_same}
use Rattle.desk.proofs.laws.what_an_application_leaves_is_its_own.Goals as goal

pub returns : goal.returns
returns c = left_same
