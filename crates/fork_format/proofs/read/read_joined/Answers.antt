use Rattle.fork_format.proofs.Cited.{arith, ◌∙◌, ap, sym, group_at, refs_fit, put}
use Rattle.fork_format.proofs.Loops.{GoesOn, all_goes_on}
use Rattle.fork_format.proofs.Joining.{joined-offsets}
use Rattle.fork_format.proofs.read.read_joined.Goals.{In-loop}
use Rattle.fork_format.proofs.read.read_joined.Goals as goal

-- the type's references fit, and so do those of the others
fitting : (c : In-loop) → GoesOn (refs_fit c.args.bytes.now) c.loop.at 8 c.args.count c.loop.counter
fitting c = all_goes_on (refs_fit c.args.bytes.now) c.loop.at 8 c.args.count c.loop.counter c.loop-test.true
    c.loop.invariant.fits

pub read_type-requires-clause-fits : goal.read_type-requires-clause-fits
read_type-requires-clause-fits c = (fitting (goal.at.read_type-requires-clause-fits c).In-loop).0

pub loop-preserved : goal.loop-preserved
loop-preserved c = record {
  at = omega arith;
  fits = (fitting (goal.at.loop-preserved c).In-loop).1;
  places = c.in_ok-read_type.ensures.places;
  groups = c.in_ok-read_type.ensures.groups ∙ ap (put (group_at c.args.bytes.now c.loop.at)) c.loop.invariant.groups
      ∙ sym (joined-offsets (group_at c.args.bytes.now) c.args.first c.loop.counter c.loop.at c.loop.invariant.at);
}
