use Rattle.fork_wrappers.proofs.Rewraps.{stays}
use Rattle.fork_wrappers.proofs.laws.a_file_with_its_own_fork_stays.Goals as goal

pub returns : goal.returns
returns c = stays
