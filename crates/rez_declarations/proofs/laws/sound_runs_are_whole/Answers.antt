use Rattle.rez_declarations.proofs.Whole.{sound_is_whole}
use Rattle.rez_declarations.proofs.laws.sound_runs_are_whole.Goals as goal

pub returns : goal.returns
returns c = sound_is_whole
