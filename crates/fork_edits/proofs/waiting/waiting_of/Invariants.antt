use Rattle.fork_edits.proofs.Cited.{map, take, view_row, AreWaiting}
use Rattle.fork_edits.proofs.waiting.waiting_of.Given as goal

-- the resources so far wait
abbrev pub invariant-loop-row : goal.invariant-loop-row
invariant-loop-row l = AreWaiting l.waiting (map view_row (take l.row-index l.rows))
