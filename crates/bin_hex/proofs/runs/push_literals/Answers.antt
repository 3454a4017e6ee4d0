use Rattle.bin_hex.proofs.Literals.{literals_more}
use Rattle.bin_hex.proofs.runs.push_literals.Goals as goal

pub loop-i-preserved : goal.loop-i-preserved
loop-i-preserved c =
    literals_more c.loop-i.i c.args.count c.args.byte c.loop-i.out.items c.push_literal.new.out.items _
    c.loop-i-test.true c.in_ok-push_literal.ensures c.loop-i.invariant
