use Rattle.fork_rules.proofs.Cited.{refl, canon, differences}
use Rattle.fork_rules.proofs.Alike.{exactly}
use Rattle.fork_rules.proofs.Following.{follow}
use Rattle.fork_rules.proofs.laws.no_difference_is_the_canonical_fork.Goals as goal

pub returns : goal.returns
returns c = λ bytes x is low. exactly bytes (canon x) _ (differences bytes (canon x)) (follow x is low) refl
