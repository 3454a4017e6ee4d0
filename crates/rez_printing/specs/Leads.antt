use Rattle.rez_types.specs.View.{values_of}
use Rattle.rez_printing.specs.declared.printer.Printer.{Printer}
use Rattle.rez_printing.specs.Showing.{Showing}

-- The printer of the code, as how far values are printed.
abbrev pub showing_of : Printer → Showing
showing_of p = record { style = p.style; values = values_of p.values.now; text = p.text.items; gap = p.gap }
