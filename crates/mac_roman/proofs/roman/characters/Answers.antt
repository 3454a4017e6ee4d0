use Rattle.mac_roman.proofs.Cited.{rules, chars_from_encodes}
use Rattle.mac_roman.proofs.roman.characters.Goals as goal

pub returns : goal.returns
returns c = search (rules, chars_from_encodes)
