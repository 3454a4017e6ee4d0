use Rattle.fork_edits.proofs.Cited.{◌≡◌, ◌++◌, List, map, drop, Row, replaced_by, view_row, AreWaiting}
use Rattle.fork_edits.proofs.merging.push_all_replaced.Given as goal

-- some resources wait yet, and the resources so far, with those to come, are all
abbrev pub invariant-loop-old : goal.invariant-loop-old
invariant-loop-old l = (rest : List Row) × AreWaiting l.waiting rest
    × (map view_row l.out.items ++ replaced_by (map view_row (drop l.old-index l.olds)) rest
    ≡ map view_row l.fn.out.items ++ replaced_by (map view_row l.olds) (map view_row l.news))
