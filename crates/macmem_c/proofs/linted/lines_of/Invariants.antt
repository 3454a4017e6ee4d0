use Rattle.macmem_c.proofs.Cited.{drop, map}
use Rattle.macmem_c.proofs.Lining.{GoesOn}
use Rattle.macmem_c.proofs.linted.lines_of.Given as goal

-- the lines so far, with any lines of the faults that are left, are those of all faults
abbrev pub invariant-loop-fault : goal.invariant-loop-fault
invariant-loop-fault l =
    GoesOn (map (λ fault. fault.line) l.faults) (map (λ fault. fault.line) (drop l.fault-index l.faults)) l.text.items
