use Rattle.zone_scripts.proofs.Cited.{refl, notes_text}
use Rattle.zone_scripts.proofs.script.notes.Goals as goal

pub returns : goal.returns
unfolding notes_text
returns c = refl
