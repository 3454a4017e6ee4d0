use Rattle.rez_text.proofs.Enough.{enough}
use Rattle.rez_text.proofs.laws.files_that_are_named_are_enough.Goals as goal

pub returns : goal.returns
returns c = enough
