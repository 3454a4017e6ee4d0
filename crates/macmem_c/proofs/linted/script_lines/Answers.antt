use Rattle.macmem_c.proofs.Cited.{also_ok}
use Rattle.macmem_c.proofs.Lining.{found_lines}
use Rattle.macmem_c.proofs.linted.script_lines.Goals as goal

pub returns : goal.returns
returns c = also_ok _ _ c.lines_of.result (λ v h. found_lines c.args.script.now v.items c.in_ok-faults.faults.items
    c.as_slice.result.now c.in_ok-faults.ensures c.as_slice.ensures.value h) c.lines_of.ensures
