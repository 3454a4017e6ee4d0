use Rattle.rez_printing.proofs.Cited.{◌≡◌, ◌++◌, length, in_lines}
use Rattle.rez_printing.proofs.pieces.push_lines.Given as goal

-- the bytes so far, with those to come, are all
abbrev pub invariant-loop-rest : goal.invariant-loop-rest
invariant-loop-rest l = l.out.items ++ in_lines l.letters l.rest ≡ l.fn.out.items ++ in_lines l.letters l.bytes

abbrev pub decreases-loop-rest : goal.decreases-loop-rest
decreases-loop-rest l = length l.rest
