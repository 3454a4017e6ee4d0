use Rattle.rez_typed.proofs.Cited.{◌≡◌, ◌++◌, drop, map, flat_map, big_number, declared_of, forms_with, forms_in}
use Rattle.rez_typed.proofs.form.add_forms.Given as goal

-- the forms so far, with those to come, are all
abbrev pub invariant-loop-declared : goal.invariant-loop-declared
invariant-loop-declared l =
    forms_in l.forms.items ++ flat_map (forms_with l.tail (big_number 4 l.ty)) (map declared_of (drop l.declared-index l.list))
    ≡ forms_in l.fn.forms.items ++ flat_map (forms_with l.tail (big_number 4 l.ty)) (map declared_of l.list)
