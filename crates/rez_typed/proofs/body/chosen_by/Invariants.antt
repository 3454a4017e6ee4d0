use Rattle.rez_typed.proofs.Cited.{◌≡◌, ◌-◌, length, chosen_below, forms_in}
use Rattle.rez_typed.proofs.body.chosen_by.Given as goal

-- no form from here on has a text
abbrev pub invariant-loop-i : goal.invariant-loop-i
invariant-loop-i l =
    chosen_below l.style (length l.fn.forms - l.i) (forms_in l.fn.forms) l.fn.datum
    ≡ chosen_below l.style (length l.fn.forms) (forms_in l.fn.forms) l.fn.datum
