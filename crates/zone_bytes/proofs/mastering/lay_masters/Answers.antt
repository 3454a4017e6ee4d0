use Rattle.zone_bytes.proofs.Cited.{◌+◌, subst, arith, SameOutside}
use Rattle.zone_bytes.proofs.Placed.MastersCarved.{has-masters}
use Rattle.zone_bytes.proofs.mastering.lay_masters.Goals as goal
use Rattle.zone_bytes.proofs.mastering.lay_masters.Goals.{Start}

pub lay_block-requires : goal.lay_block-requires
lay_block-requires c = grind arith

pub returns-clause-masters : goal.returns-clause-masters
returns-clause-masters c =
    let o = subst (λ m. SameOutside (c.args.place + 16) (c.args.place + 272) m c.thread_slots.new.part.bytes)
    c.lay_block.ensures.bytes c.thread_slots.ensures.outside in
    has-masters _ _ _ _ _ (grind arith) o c.thread_slots.ensures.thread
