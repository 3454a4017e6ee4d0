use Rattle.rez_types.proofs.UndoneFields.{datum_undone}
use Rattle.rez_types.proofs.laws.what_is_read_is_written.Goals as goal

pub returns : goal.returns
returns c = datum_undone
