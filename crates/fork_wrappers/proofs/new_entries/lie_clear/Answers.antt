use Rattle.fork_wrappers.proofs.Cited.{is_clear}
use Rattle.fork_wrappers.proofs.Walking.{fails}
use Rattle.fork_wrappers.proofs.new_entries.lie_clear.Goals as goal

pub returns-then-not-lies_clear : goal.returns-then-not-lies_clear
returns-then-not-lies_clear c =
    fails (is_clear c.args.file.now c.args.span) c.loop.at 12 c.args.count c.loop.counter _ c.loop-test.true
    (cc) c.loop.invariant.rest
