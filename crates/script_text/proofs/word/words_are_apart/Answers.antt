use Rattle.script_text.proofs.Spelled.{found}
use Rattle.script_text.proofs.word.words_are_apart.Goals as goal

pub returns : goal.returns
returns c = found
