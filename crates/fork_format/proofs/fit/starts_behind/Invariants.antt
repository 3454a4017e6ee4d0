use Rattle.fork_format.proofs.Cited.{◌≡◌, ◌≤◌, map, drop, behind, view_ref, most_data}
use Rattle.fork_format.proofs.fit.starts_behind.Given as goal

abbrev pub invariant-loop-r : goal.invariant-loop-r
invariant-loop-r l = record {
  datum : l.next.datum ≤ most_data;
  name : l.next.name ≤ 65790;
  behind : behind l.next (map view_ref (drop l.r-index l.refs)) ≡ behind l.fn.starts (map view_ref l.refs);
}
