use Rattle.fork_tasks.proofs.Cited.{arith}
use Rattle.fork_tasks.proofs.Digits.{two_more}
use Rattle.fork_tasks.proofs.listing.put_digits.Goals as goal

pub loop-i-preserved : goal.loop-i-preserved
loop-i-preserved c =
    two_more c.loop-i.digits c.args.bytes.now c.loop-i.i c.lower_digit.result c.lower_digit-in-loop-i.result
    c.loop-i-test.true (omega arith)
    c.loop-i.invariant c.lower_digit.ensures c.lower_digit-in-loop-i.ensures
