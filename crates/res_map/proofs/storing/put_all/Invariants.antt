use Rattle.res_map.proofs.Cited.{◌≡◌, ◌++◌, length, map, take, drop, all_anew, view_reference, view_all}
use Rattle.res_map.proofs.storing.put_all.Given as goal

-- those that are stored, with those to come, are all
abbrev pub invariant-loop-i : goal.invariant-loop-i
invariant-loop-i l = record {
  long : length l.fresh.items ≡ length l.refs.items;
  end : l.i-end ≡ length l.refs.items;
  all : map view_reference (take l.i l.refs.items)
      ++ all_anew (view_all (drop l.i l.fresh.items)) (map view_reference (drop l.i l.refs.items))
      ≡ all_anew (view_all l.fn.fresh.items) (map view_reference l.fn.refs.items);
}
