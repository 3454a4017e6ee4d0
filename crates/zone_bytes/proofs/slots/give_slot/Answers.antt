use Rattle.zone_bytes.proofs.SlotTable.Slotted.{slot-fits, first-fits, given}
use Rattle.zone_bytes.proofs.slots.give_slot.Goals as goal

pub unused_before-requires : goal.unused_before-requires
unused_before-requires c = first-fits c.requires.1

pub write_slot-requires-clause-within : goal.write_slot-requires-clause-within
write_slot-requires-clause-within c = slot-fits c.requires.1

pub returns-clause-lays : goal.returns-clause-lays
returns-clause-lays c = λ t q. rw (c.write_slot.ensures.bytes, c.unused_before.ensures.number) (given q)
