use Rattle.fork_edits.proofs.Cited.{◌≡◌, [], map, drop, ArePlaces, view_group, with_rows, view_row}
use Rattle.fork_edits.proofs.merging.grouped.Given as goal

-- the resources to come, put into the groups so far, make the groups of all
abbrev pub invariant-loop-row : goal.invariant-loop-row
invariant-loop-row l = record {
  places : ArePlaces l.places (map view_group l.groups.items);
  groups : with_rows (map view_row (drop l.row-index l.rows)) (map view_group l.groups.items) ≡ with_rows (map view_row l.rows) [];
}
