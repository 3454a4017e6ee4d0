use Rattle.fork_wrappers.proofs.Cited.{arith, rules, GoesOn, all_goes_on, entry_fits, is_clear, new_entry}
use Rattle.fork_wrappers.proofs.Pieces.{piece_more}
use Rattle.fork_wrappers.proofs.new_entries.put_entries.Goals.{In-loop}
use Rattle.fork_wrappers.proofs.new_entries.put_entries.Goals as goal

-- the next entry fits and is clear, and so are those after it
fitting : (c : In-loop) → GoesOn (entry_fits c.args.file.now) c.loop.at 12 c.args.count c.loop.counter
fitting c = all_goes_on (entry_fits c.args.file.now) c.loop.at 12 c.args.count c.loop.counter c.loop-test.true
    c.loop.invariant.fits

clearing : (c : In-loop) → GoesOn (is_clear c.args.file.now c.args.span) c.loop.at 12 c.args.count c.loop.counter
clearing c = all_goes_on (is_clear c.args.file.now c.args.span) c.loop.at 12 c.args.count c.loop.counter
    c.loop-test.true c.loop.invariant.clear

pub put_entry-requires-clause-fits : goal.put_entry-requires-clause-fits
put_entry-requires-clause-fits c = (fitting (goal.at.put_entry-requires-clause-fits c).In-loop).0

pub put_entry-requires-clause-clear : goal.put_entry-requires-clause-clear
put_entry-requires-clause-clear c = (clearing (goal.at.put_entry-requires-clause-clear c).In-loop).0

pub loop-preserved : goal.loop-preserved
loop-preserved c =
    let f = (fitting (goal.at.loop-preserved c).In-loop).1 in
    let g = (clearing (goal.at.loop-preserved c).In-loop).1 in
    let written = piece_more (new_entry c.args.file.now c.args.span c.args.new) c.loop.out.items _ c.loop.at 12
    c.args.count c.loop.counter c.loop-test.true c.loop.invariant.written in
    record { place = omega arith; fits = f; clear = g; written = search (rules, arith) }
