use Rattle.fork_wrappers.proofs.Damaged.{no_first}
use Rattle.fork_wrappers.proofs.laws.a_damaged_fork_is_no_old_mac_binary.Goals as goal

pub returns : goal.returns
returns c = no_first
