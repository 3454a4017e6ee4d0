use Rattle.zone_bytes.proofs.Cited.{arith}
use Rattle.zone_bytes.proofs.SlotTable.Handles.{may-look, here-of, resource-here, resource-gone, leads-read}
use Rattle.zone_bytes.proofs.looking.slot_resource.Goals as goal

pub read_word-word-requires : goal.read_word-word-requires
read_word-word-requires c = may-look c.requires.1

pub overflow_add-place : goal.overflow_add-place
overflow_add-place c =
    let b = here-of c.requires.1 _ (leads-read _ c.read_word-word.ensures c.in-Some.ensures) in omega arith

pub read_word-requires : goal.read_word-requires
read_word-requires c =
    let b = here-of c.requires.1 _ (leads-read _ c.read_word-word.ensures c.in-Some.ensures) in
    (omega arith, omega arith)

pub returns-in-Some : goal.returns-in-Some
returns-in-Some c = grind (arith, resource-here)

pub returns-in-None : goal.returns-in-None
returns-in-None c = grind (arith, resource-gone)
