use Rattle.res_calls.proofs.Cited.{◌≡◌, map, drop, big_number, has_type, view_open}
use Rattle.res_calls.proofs.type_listing.has_type.Given as goal

-- one of the files that are left has the type just where one of all has it
abbrev pub invariant-loop-i : goal.invariant-loop-i
invariant-loop-i l = has_type (map view_open (drop l.i l.files)) (big_number 4 l.ty.0)
    ≡ has_type (map view_open l.files) (big_number 4 l.ty.0)
