use Rattle.res_calls.proofs.Cited.{◌≡◌, ◌+◌, ◌≤◌, length, map, drop, filter, types, is_new, new_types, view_open}
use Rattle.res_calls.proofs.type_listing.count_new.Given as goal

-- what was counted and what is left to count are what is counted in all
abbrev pub invariant-loop-i : goal.invariant-loop-i
invariant-loop-i l =
    (l.count + length (filter (is_new (map view_open l.before)) (drop l.i (types l.file.references)))
    ≡ length (new_types (map view_open l.before) l.file.references))
    × (l.count ≤ l.i)
