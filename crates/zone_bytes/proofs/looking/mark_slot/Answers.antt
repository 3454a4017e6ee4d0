use Rattle.zone_bytes.proofs.Cited.{sym, subst, arith, Used, set_slot, is_resource, Lays}
use Rattle.zone_bytes.proofs.SlotTable.Handles.{HasBlock, may-look, its_flag, here-of, gone-of, leads-read}
use Rattle.zone_bytes.proofs.SlotTable.Handles.{empty-number, lays-emptied, lays-marked}
use Rattle.zone_bytes.proofs.looking.mark_slot.Goals as goal
use Rattle.zone_bytes.proofs.looking.mark_slot.Goals.{In-Some}

-- the block of the handle
block : (c : In-Some) → HasBlock c.args.part.now.bytes c.requires.0.blocks (λ s. is_resource (c.requires.0.slots s))
    c.args.slot c.in-Some.place
block c = here-of c.requires.1 _ (leads-read _ c.read_word.ensures c.in-Some.ensures)

pub read_word-requires : goal.read_word-requires
read_word-requires c = may-look c.requires.1

pub overflow_add-place : goal.overflow_add-place
overflow_add-place c = let b = block (goal.at.overflow_add-place c).In-Some in omega arith

pub read_word-flags-requires : goal.read_word-flags-requires
read_word-flags-requires c = let b = block (goal.at.read_word-flags-requires c).In-Some in (omega arith, omega arith)

pub overflow_add-place-in-Some : goal.overflow_add-place-in-Some
overflow_add-place-in-Some c = let b = block (goal.at.overflow_add-place-in-Some c).In-Some in omega arith

pub write_word-requires : goal.write_word-requires
write_word-requires c = let b = block (goal.at.write_word-requires c).In-Some in (omega arith, omega arith)

pub write_slot-requires-clause-within : goal.write_slot-requires-clause-within
write_slot-requires-clause-within c = may-look c.requires.1

pub returns-in-Some-clause-lays : goal.returns-in-Some-clause-lays
returns-in-Some-clause-lays c = λ t h. let r = c.args.resource in
    let b = here-of h _ (leads-read _ c.read_word.ensures c.in-Some.ensures) in
    subst (λ ys. Lays ys t.blocks (set_slot t.slots c.args.slot (Used r)) t.unused) (grind arith)
    (lays-marked h.lays _ _ r (its_flag h).1 _ b)

pub returns-in-None-clause-lays : goal.returns-in-None-clause-lays
returns-in-None-clause-lays c = λ t h. subst (λ ys. Lays ys t.blocks
    (set_slot t.slots c.args.slot (Used c.args.resource)) t.unused)
    (sym (rw (← empty-number c.args.resource) c.write_slot.ensures.bytes))
    (lays-emptied h.lays _ _ _ (its_flag h).1
    (gone-of h (leads-read _ c.read_word.ensures c.in-None.ensures)).apart)
