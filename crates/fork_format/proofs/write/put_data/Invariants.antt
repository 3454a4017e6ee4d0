use Rattle.fork_format.proofs.Cited.{◌≡◌, ◌++◌, map, drop, true, list_all, flat_map, datum, is_short, view_ref}
use Rattle.fork_format.proofs.write.put_data.Given as goal

abbrev pub invariant-loop-r : goal.invariant-loop-r
invariant-loop-r l = record {
  short : list_all is_short (map view_ref (drop l.r-index l.refs)) ≡ true;
  out : l.out.items ++ flat_map datum (map view_ref (drop l.r-index l.refs)) ≡ l.fn.out.items
      ++ flat_map datum (map view_ref l.refs);
}
