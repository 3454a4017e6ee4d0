use Rattle.fork_format.proofs.Cited.{arith, group_at, refs_fit, view_group}
use Rattle.fork_format.proofs.Loops.{GoesOn, all_goes_on, pushed_goes_on}
use Rattle.fork_format.proofs.read.read_apart.Goals.{In-loop}
use Rattle.fork_format.proofs.read.read_apart.Goals as goal

-- the next entry fits, and so do those behind it
fitting : (c : In-loop) → GoesOn (refs_fit c.args.bytes.now) c.loop.at 8 c.args.count c.loop.counter
fitting c = all_goes_on (refs_fit c.args.bytes.now) c.loop.at 8 c.args.count c.loop.counter c.loop-test.true
    c.loop.invariant.fits

pub group_of-requires-clause-fits : goal.group_of-requires-clause-fits
group_of-requires-clause-fits c = (fitting (goal.at.group_of-requires-clause-fits c).In-loop).0

pub loop-preserved : goal.loop-preserved
loop-preserved c = record {
  at = omega arith;
  fits = (fitting (goal.at.loop-preserved c).In-loop).1;
  groups = pushed_goes_on view_group (group_at c.args.bytes.now) c.loop.groups.items _ c.in_ok-group.group c.loop.at 8
      c.args.count c.loop.counter _ c.loop-test.true c.in_ok-push.ensures.items c.in_ok-group.ensures
      c.loop.invariant.groups;
}
