use Rattle.res_calls.proofs.Cited.{◌≡◌, ◌+◌, ◌<◌, ◌^◌, map, drop, big_number, count_each, told_count, view_open}
use Rattle.res_calls.proofs.listing.count_each.Given as goal

-- what was counted and what is left to count are what is counted in all
abbrev pub invariant-loop-i : goal.invariant-loop-i
invariant-loop-i l =
    (told_count (l.total + count_each (big_number 4 l.ty.0) (map view_open (drop l.i l.files)))
    ≡ told_count (count_each (big_number 4 l.ty.0) (map view_open l.files)))
    × (l.total < 2 ^ 63)
