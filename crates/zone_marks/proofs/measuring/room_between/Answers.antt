use Rattle.zone_marks.proofs.Cited.{◌≡◌, false, inl, arith, rules, is_room}
use Rattle.zone_marks.proofs.Marks.Passing.{passed-on, passed-all, begins-here, begins-right}
use Rattle.zone_marks.proofs.measuring.room_between.Goals as goal
use Rattle.zone_marks.proofs.measuring.room_between.Goals.{else-span-gt0-via-then-span-gt0+else-bytes-span}
use Rattle.zone_marks.proofs.measuring.room_between.Goals.{else-span-gt0-via-else-span-gt0}

pub returns-then-bytes-span-clause-begins : goal.returns-then-bytes-span-clause-begins
returns-then-bytes-span-clause-begins c = search (rules, begins-right, begins-here)

pub returns-then-bytes-span-clause-lowest : goal.returns-then-bytes-span-clause-lowest
returns-then-bytes-span-clause-lowest c = passed-all _ _
    (λ _ b. is_room c.args.bytes b ≡ false) (λ _ b. is_room c.args.bytes b ≡ false) _ _ _
    c.loop-at.invariant (λ _ b r. r) (inl (omega arith))

pub returns-then-bytes-span-clause-room : goal.returns-then-bytes-span-clause-room
returns-then-bytes-span-clause-room c = grind arith

pub loop-at-preserved : goal.loop-at-preserved
loop-at-preserved c = grind (arith, passed-on)

pub returns-clause-none : goal.returns-clause-none
returns-clause-none c = passed-all _ _ (λ _ b. is_room c.args.bytes b ≡ false)
    (λ _ b. is_room c.args.bytes b ≡ false) _ _ _ c.loop-at.invariant (λ _ b r. r) (grind arith)
