use Rattle.zone_marks.proofs.Cited.{List, arith, rules, Block, zone_in, AtEach, Replaced, Stays, left-above, way-above}
use Rattle.zone_marks.proofs.Bounds.Going.{stays-lower, stays-replaced, stays-under, stays-whole}
use Rattle.zone_marks.proofs.Marks.Passing.{at-left}
use Rattle.zone_marks.proofs.going.lowest_after.Goals.{After-first_going-found}
use Rattle.zone_marks.proofs.going.lowest_after.Goals as goal

pub returns-then-lowest-lo : goal.returns-then-lowest-lo
returns-then-lowest-lo c = λ old r n. stays-under _ _ _ _ r _ n _ (omega arith) c.if-lowest-lo.true

pub first_going-found-requires : goal.first_going-found-requires
first_going-found-requires c = search (rules, way-above)

-- the blocks up to the one that was found stay
stays : (c : After-first_going-found) (old : List Block) (r : Replaced c.args.lo c.args.hi old
    (zone_in c.args.sound.now.part.bytes))
    → AtEach (Stays c.first_going-found.result) c.args.lo r.there
stays c old r = at-left (Stays c.first_going-found.result) _ _ _
    (rw (left-above _ _ _ c.args.sound.now.sound _ _ _ r.is r.low) at c.first_going-found.ensures)

pub returns-then-hi-found : goal.returns-then-hi-found
returns-then-hi-found c = λ old r n. stays-replaced _ _ _ _ r _ n _ (omega arith) (stays-whole _ _ _ _ (omega arith)
    (stays (goal.at.returns-then-hi-found c).After-first_going-found old r))

pub returns : goal.returns
returns c = λ old r n. stays-replaced _ _ _ _ r _ n _ (omega arith) (stays-lower _ _ _ _ (omega arith)
    (stays (goal.at.returns c).After-first_going-found old r))
