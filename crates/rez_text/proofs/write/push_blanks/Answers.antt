use Rattle.rez_text.proofs.Appending.{one_blank}
use Rattle.rez_text.proofs.write.push_blanks.Goals as goal

pub loop-i-preserved : goal.loop-i-preserved
loop-i-preserved c =
    one_blank c.loop-i.i c.args.count c.loop-i.out.items c.push.new.self.items _ c.loop-i-test.true
    c.in_ok-push.ensures.items c.loop-i.invariant
