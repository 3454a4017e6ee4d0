use Rattle.fork_format.proofs.Cited.{canon, clear}
use Rattle.fork_format.proofs.CanSpell.{canon_spells}
use Rattle.fork_format.proofs.OneContent.{one_content}
use Rattle.fork_format.proofs.laws.a_canonical_fork_is_read_again.Goals as goal

pub returns-clause-spelled : goal.returns-clause-spelled
returns-clause-spelled c = canon_spells

pub returns-clause-only : goal.returns-clause-only
returns-clause-only c = λ x d is low s. one_content (canon x) d (clear x) s (canon_spells x is low)
