use Rattle.fork_edits.proofs.Fixing.{fixed_apart}
use Rattle.fork_edits.proofs.laws.fixed_file_names_are_apart.Goals as goal

pub returns : goal.returns
returns c = fixed_apart
