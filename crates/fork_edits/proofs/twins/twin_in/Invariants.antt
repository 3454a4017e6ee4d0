use Rattle.fork_edits.proofs.Cited.{◌≡◌, map, drop, twin, view_row, AreWaiting}
use Rattle.fork_edits.proofs.twins.twin_in.Given as goal

-- the resources to come wait, and the first twin is among them
abbrev pub invariant-loop-row : goal.invariant-loop-row
invariant-loop-row l = record {
  waiting : AreWaiting l.waiting (map view_row (drop l.row-index l.rows));
  first : twin (map view_row (drop l.row-index l.rows)) ≡ twin (map view_row l.rows);
}
