use Rattle.fork_edits.proofs.Cited.{◌≡◌, ◌++◌, List, map, drop, Row, Added, unmatched, view_row, view_difference, AreWaiting}
use Rattle.fork_edits.proofs.differences.note_added.Given as goal

-- some resources wait yet, and the differences so far, with those to come, are all
abbrev pub invariant-loop-new : goal.invariant-loop-new
invariant-loop-new l = (rest : List Row) × AreWaiting l.waiting rest
    × (map view_difference l.found.items ++ map Added (unmatched (map view_row (drop l.new-index l.news)) rest)
    ≡ map view_difference l.fn.found.items ++ map Added (unmatched (map view_row l.news) (map view_row l.olds)))
