use Rattle.macmem_c.proofs.Lining.{next_line, every_line}
use Rattle.macmem_c.proofs.linted.lines_of.Goals as goal

pub loop-fault-preserved : goal.loop-fault-preserved
loop-fault-preserved c =
    let said = c.in_ok-add_fault.ensures in
    next_line c.args.faults.now c.loop-fault.fault-index _ _ _ said.0 c.loop-fault-test.true c.loop-fault.invariant said.1

pub returns : goal.returns
returns c = every_line c.args.faults.now c.loop-fault.fault-index _ c.loop-fault-test.false c.loop-fault.invariant
