use Rattle.rez_text.proofs.Cited.{rules, chars_from_encodes}
use Rattle.rez_text.proofs.coding.characters.Goals as goal

pub returns : goal.returns
returns c = search (rules, chars_from_encodes)
