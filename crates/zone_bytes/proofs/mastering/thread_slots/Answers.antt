use Rattle.zone_bytes.proofs.Cited.{arith}
use Rattle.zone_bytes.proofs.Placed.MastersCarved.{threading-start, threading-step, threaded}
use Rattle.zone_bytes.proofs.mastering.thread_slots.Goals as goal

pub loop-slot-init : goal.loop-slot-init
loop-slot-init c = rw (c.write_slot.ensures.bytes, c.unused_before.ensures.number) (grind (arith, threading-start))

pub loop-slot-preserved : goal.loop-slot-preserved
loop-slot-preserved c =
    rw (c.write_slot-in-loop-slot.ensures.bytes, c.unused_before-in-loop-slot.ensures.number) (grind (arith, threading-step))

pub returns-clause-thread : goal.returns-clause-thread
returns-clause-thread c = threaded _ _ _ _ _ c.loop-slot-test.false c.loop-slot.invariant.0
