use Rattle.res_calls.proofs.Cited.{◌≡◌, map, nth, types, references, view_open}
use Rattle.res_calls.proofs.Typing.{left_from}
use Rattle.res_calls.proofs.type_listing.nth_of_all_types.Given as goal

-- what is found among the types that are left is found among all
abbrev pub invariant-loop-i : goal.invariant-loop-i
invariant-loop-i l = nth l.left (left_from l.i l.files) ≡ nth l.n (types (references (map view_open l.files)))
