use Rattle.rez_printing.proofs.Cited.{◌≡◌, ◌++◌, drop, map, number_of, numbers_from}
use Rattle.rez_printing.proofs.type_text.push_numbers.Given as goal

-- the constants so far, with those to come, are all
abbrev pub invariant-loop-place : goal.invariant-loop-place
invariant-loop-place l =
    l.out.items ++ numbers_from l.place l.integer.form l.integer.width.bits (map number_of (drop l.place l.integer.constants.items))
    ≡ l.fn.out.items ++ numbers_from 0 l.integer.form l.integer.width.bits (map number_of l.integer.constants.items)
