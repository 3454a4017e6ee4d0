use Rattle.zone_bytes.proofs.Cited.{arith}
use Rattle.zone_bytes.proofs.Runs.Raises.{wide, evens, raised-none, raised-rest}
use Rattle.zone_bytes.proofs.raising.lift_blocks.Goals as goal

pub slide-requires : goal.slide-requires
slide-requires g c = let w = wide _ _ _ _ _ _ c.requires in grind arith

pub write_word-requires : goal.write_word-requires
write_word-requires g c = (omega (arith, evens), omega (arith, wide))

pub write_word-requires-then-gap-stop : goal.write_word-requires-then-gap-stop
write_word-requires-then-gap-stop g c = (omega (arith, evens), omega (arith, wide, evens))

pub returns-then-gap-stop-clause-lifted : goal.returns-then-gap-stop-clause-lifted
returns-then-gap-stop-clause-lifted g c =
    rw (c.write_word-then-gap-stop.ensures.bytes, c.write_word.ensures.bytes, c.slide.ensures.bytes)
    (raised-rest _ _ _ _ _ _ c.requires c.if-gap-stop.true)

pub returns-else-gap-stop-clause-lifted : goal.returns-else-gap-stop-clause-lifted
returns-else-gap-stop-clause-lifted g c =
    rw (c.write_word.ensures.bytes, c.slide.ensures.bytes) (raised-none _ _ _ _ _ _ c.requires c.if-gap-stop.false)

pub overflow_add-place : goal.overflow_add-place
overflow_add-place g c = omega (arith, wide)

pub overflow_sub-stop : goal.overflow_sub-stop
overflow_sub-stop g c = omega (arith, wide)
