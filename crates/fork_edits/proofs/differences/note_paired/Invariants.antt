use Rattle.fork_edits.proofs.Cited.{◌≡◌, ◌++◌, List, map, drop, Row, paired, view_row, view_difference, AreWaiting}
use Rattle.fork_edits.proofs.differences.note_paired.Given as goal

-- some resources wait yet, and the differences so far, with those to come, are all
abbrev pub invariant-loop-old : goal.invariant-loop-old
invariant-loop-old l = (rest : List Row) × AreWaiting l.waiting rest
    × (map view_difference l.found.items ++ paired (map view_row (drop l.old-index l.olds)) rest
    ≡ map view_difference l.fn.found.items ++ paired (map view_row l.olds) (map view_row l.news))
