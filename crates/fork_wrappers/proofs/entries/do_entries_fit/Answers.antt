use Rattle.fork_wrappers.proofs.Cited.{entry_fits}
use Rattle.fork_wrappers.proofs.Walking.{fails}
use Rattle.fork_wrappers.proofs.entries.do_entries_fit.Goals as goal

pub returns-then-not-does_entry_fit : goal.returns-then-not-does_entry_fit
returns-then-not-does_entry_fit c =
    fails (entry_fits c.args.bytes.now) c.loop.at 12 c.args.count c.loop.counter _ c.loop-test.true
    (cc) c.loop.invariant.rest
