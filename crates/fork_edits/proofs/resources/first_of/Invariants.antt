use Rattle.fork_edits.proofs.Cited.{◌≡◌, map, drop, find, view_group, is_at, rows}
use Rattle.fork_edits.proofs.resources.first_of.Given as goal

abbrev pub invariant-loop-group : goal.invariant-loop-group
invariant-loop-group l = find (is_at l.key.kind l.key.id) (rows (map view_group (drop l.group-index l.groups)))
    ≡ find (is_at l.key.kind l.key.id) (rows (map view_group l.groups))
