use Rattle.real_zone.proofs.AllFound.{found_all}
use Rattle.real_zone.proofs.checking.push_blocks.Goals as goal

pub returns-clause-found : goal.returns-clause-found
returns-clause-found c =
    found_all c.args.form c.args.zone c.args.bytes.now c.loop-at.at c.loop-at.found.items _ c.loop-at-test.false
    c.loop-at.invariant.found
