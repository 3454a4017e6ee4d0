use Rattle.res_calls.proofs.Cited.{◌≡◌, ◌+◌, ◌<◌, ◌^◌, length, map, types, references, told_count, view_open}
use Rattle.res_calls.proofs.Typing.{left_from}
use Rattle.res_calls.proofs.type_listing.count_all_types.Given as goal

-- what was counted and what is left to count are what is counted in all
abbrev pub invariant-loop-i : goal.invariant-loop-i
invariant-loop-i l =
    (told_count (l.total + length (left_from l.i l.files))
    ≡ told_count (length (types (references (map view_open l.files)))))
    × (l.total < 2 ^ 63)
