use Rattle.res_calls.proofs.Cited.{◌≡◌, map, drop, filter, nth, types, is_new, new_types, view_open}
use Rattle.res_calls.proofs.type_listing.nth_new.Given as goal

-- what is found among the types that are left is found among all
abbrev pub invariant-loop-i : goal.invariant-loop-i
invariant-loop-i l = nth l.left (filter (is_new (map view_open l.before)) (drop l.i (types l.file.references)))
    ≡ nth l.n (new_types (map view_open l.before) l.file.references)
