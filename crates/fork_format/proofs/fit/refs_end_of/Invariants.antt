use Rattle.fork_format.proofs.Cited.{◌≡◌, ◌≤◌, map, drop, refs_offset, refs_end, view_group}
use Rattle.fork_format.proofs.fit.refs_end_of.Given as goal

abbrev pub invariant-loop-group : goal.invariant-loop-group
invariant-loop-group l = record {
  low : l.at ≤ 65507;
  end : refs_end l.at (map view_group (drop l.group-index l.groups))
      ≡ refs_end (refs_offset (map view_group l.groups)) (map view_group l.groups);
}
