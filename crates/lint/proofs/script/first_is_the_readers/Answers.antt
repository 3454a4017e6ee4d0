use Rattle.lint.proofs.Firsts.{first_is}
use Rattle.lint.proofs.script.first_is_the_readers.Goals as goal

pub returns : goal.returns
returns c = first_is
