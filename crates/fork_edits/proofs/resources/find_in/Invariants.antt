use Rattle.fork_edits.proofs.Cited.{◌≡◌, map, drop, find, view_ref, has_id}
use Rattle.fork_edits.proofs.resources.find_in.Given as goal

abbrev pub invariant-loop-r : goal.invariant-loop-r
invariant-loop-r l = find (has_id l.key.id) (map view_ref (drop l.r-index l.refs)) ≡ find (has_id l.key.id) (map view_ref l.refs)
