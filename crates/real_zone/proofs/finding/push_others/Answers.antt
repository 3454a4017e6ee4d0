use Rattle.real_zone.proofs.Cited.{◌/◌, length}
use Rattle.real_zone.proofs.Fourths.{others_end}
use Rattle.real_zone.proofs.finding.push_others.Goals as goal

pub returns : goal.returns
returns c =
    others_end c.args.bytes.now c.args.base (length c.args.bytes.now / 4) c.loop.counter c.loop.address c.loop.found.items _
    c.loop-test.false c.loop.invariant.found
