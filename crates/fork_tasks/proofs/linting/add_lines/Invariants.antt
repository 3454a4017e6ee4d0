use Rattle.fork_tasks.proofs.Cited.{drop, map}
use Rattle.fork_tasks.proofs.Linted.{GoesOn}
use Rattle.fork_tasks.proofs.linting.add_lines.Given as goal

-- the lines so far, with any lines of the faults that are left, are those of all faults
abbrev pub invariant-loop-fault : goal.invariant-loop-fault
invariant-loop-fault l =
    GoesOn l.path (map (λ fault. fault.line) l.faults) (map (λ fault. fault.line) (drop l.fault-index l.faults))
    l.fn.text.items l.text.items
