use Rattle.fork_wrappers.proofs.Cited.{arith, GoesOn, all_goes_on, entry_fits, is_fork_entry}
use Rattle.fork_wrappers.proofs.Walking.{goes_on, stops}
use Rattle.fork_wrappers.proofs.entries.fork_entry_of.Goals.{In-loop}
use Rattle.fork_wrappers.proofs.entries.fork_entry_of.Goals as goal

-- the next entry fits, and so do those after it
fitting : (c : In-loop) → GoesOn (entry_fits c.args.bytes.now) c.loop.at 12 c.args.count c.loop.counter
fitting c = all_goes_on (entry_fits c.args.bytes.now) c.loop.at 12 c.args.count c.loop.counter c.loop-test.true
    c.loop.invariant.fits

pub with_entry-requires-clause-fits : goal.with_entry-requires-clause-fits
with_entry-requires-clause-fits c = (fitting (goal.at.with_entry-requires-clause-fits c).In-loop).0

pub returns-in-Err-clause-entry : goal.returns-in-Err-clause-entry
returns-in-Err-clause-entry c =
    stops (is_fork_entry c.args.bytes.now) c.loop.at 12 c.args.count c.loop.counter c.loop.found c.in-Err.fault _
    c.loop-test.true c.in-Err.ensures.entry c.loop.invariant.entry

pub loop-preserved : goal.loop-preserved
loop-preserved c = record {
  place = omega arith;
  fits = (fitting (goal.at.loop-preserved c).In-loop).1;
  entry = goes_on (is_fork_entry c.args.bytes.now) c.loop.at 12 c.args.count c.loop.counter c.loop.found c.in-Ok.next _
      c.loop-test.true c.in-Ok.ensures.entry c.loop.invariant.entry;
  room = c.in-Ok.ensures.room;
  whole = c.in-Ok.ensures.fits;
}
