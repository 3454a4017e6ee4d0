use Rattle.block_headers.proofs.Cited.{sym, ap, ◌∙◌, subst, slot_number, IsSlotNumber, word_at}
use Rattle.block_headers.proofs.Slots.{slot_reads_as, same_slot}
use Rattle.block_headers.proofs.Words.{word_reads_at}
use Rattle.block_headers.proofs.laws.slot_read_again.Goals as goal

pub read_slot-requires-clause-slot : goal.read_slot-requires-clause-slot
read_slot-requires-clause-slot c =
    let reads = ap (word_at c.args.at) c.write_slot.ensures.bytes
    ∙ word_reads_at c.args.at (slot_number c.args.slot) c.args.part.now.bytes c.requires.inside c.requires.small in
    subst IsSlotNumber (sym reads) (slot_reads_as c.args.slot c.requires.slot)

pub returns-clause-again : goal.returns-clause-again
returns-clause-again c =
    let reads = ap (word_at c.args.at) c.write_slot.ensures.bytes
    ∙ word_reads_at c.args.at (slot_number c.args.slot) c.args.part.now.bytes c.requires.inside c.requires.small in
    same_slot c.read_slot.result c.args.slot c.read_slot.ensures.kept c.requires.slot (c.read_slot.ensures.number
    ∙ reads)
