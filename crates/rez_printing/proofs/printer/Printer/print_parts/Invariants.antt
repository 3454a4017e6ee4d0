use Rattle.rez_printing.proofs.Cited.{◌≡◌, drop, map, part_of, showing_of, shown_parts}
use Rattle.rez_printing.proofs.printer.Printer.print_parts.Given as goal

-- the parts to come lead to what all lead to
abbrev pub invariant-loop-part : goal.invariant-loop-part
invariant-loop-part l = shown_parts l.layout (map part_of (drop l.part-index l.parts)) (showing_of l.self)
    ≡ shown_parts l.layout (map part_of l.parts) (showing_of l.fn.self)
