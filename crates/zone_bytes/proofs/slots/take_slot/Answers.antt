use Rattle.zone_bytes.proofs.Cited.{ap, inr, arith, slot_number, unused_number, unused_only}
use Rattle.zone_bytes.proofs.SlotTable.Slotted.{first-in, taken, first-reads}
use Rattle.zone_bytes.proofs.slots.take_slot.Goals as goal

pub read_slot-requires-clause-within : goal.read_slot-requires-clause-within
read_slot-requires-clause-within c = first-in c.requires.1

pub read_slot-requires-clause-slot : goal.read_slot-requires-clause-slot
read_slot-requires-clause-slot c = inr (inr (inr (omega (arith, first-reads c.requires.1))))

pub unreachable-requires : goal.unreachable-requires
unreachable-requires c =
    unused_only c.read_slot.result c.read_slot.ensures.kept
    (omega (arith, first-reads c.requires.1, c.read_slot.ensures.number)) c.in_default.not-Unused

pub write_slot-requires-clause-within : goal.write_slot-requires-clause-within
write_slot-requires-clause-within c = first-in c.requires.1

pub returns-clause-lays : goal.returns-clause-lays
returns-clause-lays c = λ t h. (
  rw c.write_slot.ensures.bytes (taken h),
  omega (
    arith,
    first-reads h,
    c.read_slot.ensures.number,
    ap slot_number c.in-Unused.is,
    unused_number c.in-Unused.next,
    c.unwrap_or.ensures,
  ),
)
