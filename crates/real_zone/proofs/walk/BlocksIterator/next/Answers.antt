use Rattle.real_zone.proofs.Cited.{ap, rules, length, sym}
use Rattle.real_zone.proofs.Giving.{given}
use Rattle.real_zone.proofs.walk.BlocksIterator.next.Goals as goal

pub returns-clause-steps : goal.returns-clause-steps
returns-clause-steps c =
    let walk = c.args.self.now in
    given walk.form walk.address walk.bytes.now walk.at c.after-self.result c.block_of-block.result
    c.after-self.ensures.place c.block_of-block.ensures (sym c.if-not-can_pass.ensures)

pub returns-clause-goes : goal.returns-clause-goes
returns-clause-goes c =
    let walk = c.args.self.now in
    let shorter = ap length (given walk.form walk.address walk.bytes.now walk.at c.after-self.result c.block_of-block.result
    c.after-self.ensures.place c.block_of-block.ensures (sym c.if-not-can_pass.ensures)) in
    search rules
