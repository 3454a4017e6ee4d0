use Rattle.fork_edits.proofs.Doubles.{names_without_twins}
use Rattle.fork_edits.proofs.laws.files_without_twins_are_apart.Goals as goal

pub returns : goal.returns
returns c = names_without_twins
