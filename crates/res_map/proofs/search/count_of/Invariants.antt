use Rattle.res_map.proofs.Cited.{◌≡◌, ◌+◌, ◌≤◌, map, drop, length, of_type, view_reference}
use Rattle.res_map.proofs.search.count_of.Given as goal

-- those that were counted, with those to come, are all
abbrev pub invariant-loop-r : goal.invariant-loop-r
invariant-loop-r l = record {
  few : l.count ≤ l.r-index;
  all : l.count + length (of_type l.kind (map view_reference (drop l.r-index l.refs)))
      ≡ length (of_type l.kind (map view_reference l.refs));
}
