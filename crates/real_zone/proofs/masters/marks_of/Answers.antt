use Rattle.real_zone.proofs.Marking.{blocks_end}
use Rattle.real_zone.proofs.masters.marks_of.Goals as goal

pub returns : goal.returns
returns c =
    blocks_end c.args.form c.args.bytes.now c.loop-at.at c.loop-at.marks.items _ c.loop-at-test.false c.loop-at.invariant.marked
