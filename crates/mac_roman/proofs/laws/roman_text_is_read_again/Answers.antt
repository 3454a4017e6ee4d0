use Rattle.mac_roman.proofs.Encoding.{roman_again}
use Rattle.mac_roman.proofs.laws.roman_text_is_read_again.Goals as goal

pub returns : goal.returns
returns c = roman_again
