use Rattle.zone_bytes.proofs.Cited.{◌∙◌, ap, place_of_word}
use Rattle.zone_bytes.proofs.SlotTable.Handles.{may-look, leads-is}
use Rattle.zone_bytes.proofs.looking.slot_place.Goals as goal

pub read_word-requires : goal.read_word-requires
read_word-requires c = may-look c.requires.1

pub returns : goal.returns
returns c = λ t h. c.leads_to.ensures ∙ ap place_of_word c.read_word.ensures ∙ leads-is h
