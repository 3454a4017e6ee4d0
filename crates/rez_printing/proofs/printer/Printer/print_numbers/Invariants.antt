use Rattle.rez_printing.proofs.Cited.{◌≡◌, ◌-◌, showing_of, shown_numbers}
use Rattle.rez_printing.proofs.printer.Printer.print_numbers.Given as goal

-- the coordinates to come lead to what all lead to
abbrev pub invariant-loop-i : goal.invariant-loop-i
invariant-loop-i l = shown_numbers (l.count - l.i) (showing_of l.self) ≡ shown_numbers l.count (showing_of l.fn.self)
