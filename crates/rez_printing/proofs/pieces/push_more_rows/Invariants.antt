use Rattle.rez_printing.proofs.Cited.{◌≡◌, ◌-◌, ◌++◌, more_rows}
use Rattle.rez_printing.proofs.pieces.push_more_rows.Given as goal

-- the rows so far, with those to come, are all
abbrev pub invariant-loop-i : goal.invariant-loop-i
invariant-loop-i l = l.out.items ++ more_rows l.before l.row (l.count - l.i) l.rest
    ≡ l.fn.out.items ++ more_rows l.before l.row l.count l.bytes
