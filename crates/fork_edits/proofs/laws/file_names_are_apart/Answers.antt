use Rattle.fork_edits.proofs.Naming.{names_apart}
use Rattle.fork_edits.proofs.laws.file_names_are_apart.Goals as goal

pub returns : goal.returns
returns c = names_apart
