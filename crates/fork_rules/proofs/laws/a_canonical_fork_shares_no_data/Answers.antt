use Rattle.fork_rules.proofs.Ordered.{not_shared, in_order}
use Rattle.fork_rules.proofs.laws.a_canonical_fork_shares_no_data.Goals as goal

pub returns-clause-shared : goal.returns-clause-shared
returns-clause-shared c = not_shared

pub returns-clause-ordered : goal.returns-clause-ordered
returns-clause-ordered c = in_order
