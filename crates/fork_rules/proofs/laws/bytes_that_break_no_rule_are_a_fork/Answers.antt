use Rattle.fork_rules.proofs.Keeping.{kept, keeps}
use Rattle.fork_rules.proofs.laws.bytes_that_break_no_rule_are_a_fork.Goals as goal

pub returns : goal.returns
returns c = λ bytes. (kept bytes, keeps bytes)
