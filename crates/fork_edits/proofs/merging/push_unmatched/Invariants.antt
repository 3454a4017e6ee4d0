use Rattle.fork_edits.proofs.Cited.{◌≡◌, ◌++◌, List, map, drop, Row, unmatched, view_row, AreWaiting}
use Rattle.fork_edits.proofs.merging.push_unmatched.Given as goal

-- some resources wait yet, and the resources so far, with those to come, are all
abbrev pub invariant-loop-new : goal.invariant-loop-new
invariant-loop-new l = (rest : List Row) × AreWaiting l.waiting rest
    × (map view_row l.out.items ++ unmatched (map view_row (drop l.new-index l.news)) rest
    ≡ map view_row l.fn.out.items ++ unmatched (map view_row l.news) (map view_row l.olds))
