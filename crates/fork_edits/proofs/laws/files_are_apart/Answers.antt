use Rattle.fork_edits.proofs.Folders.{files_apart}
use Rattle.fork_edits.proofs.laws.files_are_apart.Goals as goal

pub returns : goal.returns
returns c = files_apart
