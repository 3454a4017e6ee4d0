use Rattle.rez_declarations.proofs.Whole.{sound_is_whole}
use Rattle.rez_declarations.proofs.laws.sound_declarations_keep_bytes.Goals as goal

pub returns : goal.returns
returns c = λ d bytes values sound. c.what_is_read_is_written.ensures d bytes values (sound_is_whole d sound)
