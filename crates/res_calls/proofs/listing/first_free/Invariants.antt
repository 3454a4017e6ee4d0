use Rattle.res_calls.proofs.Cited.{◌≡◌, ◌+◌, ◌-◌, map, big_number, first_free, is_taken_in, view_open}
use Rattle.res_calls.proofs.listing.first_free.Given as goal

-- what is free among the IDs that are left is free among all
abbrev pub invariant-loop-i : goal.invariant-loop-i
invariant-loop-i l = first_free (is_taken_in l.within (big_number 4 l.ty.0) (map view_open l.files)) (32640 - l.i) (128 + l.i)
    ≡ first_free (is_taken_in l.within (big_number 4 l.ty.0) (map view_open l.files)) 32640 128
