use Rattle.res_map.proofs.Cited.{◌≡◌, ◌≤◌, length, map, take, end_of, view_reference}
use Rattle.res_map.proofs.search.end_of.Given as goal

-- no reference from there on has the type
abbrev pub invariant-loop-end : goal.invariant-loop-end
invariant-loop-end l = record {
  inside : l.end ≤ length l.refs;
  all : end_of l.kind (map view_reference (take l.end l.refs)) ≡ end_of l.kind (map view_reference l.refs);
}

abbrev pub decreases-loop-end : goal.decreases-loop-end
decreases-loop-end l = l.end
