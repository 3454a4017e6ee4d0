use Rattle.res_map.proofs.Cited.{◌≡◌, ◌++◌, length, map, drop, view_group, all_anew, leading_groups, view_reference, view_all}
use Rattle.res_map.proofs.storing.groups_of.Given as goal

-- the groups so far, with those to come, are all
abbrev pub invariant-loop-kind : goal.invariant-loop-kind
invariant-loop-kind l = record {
  long : length l.fresh ≡ length l.refs;
  all : map view_group l.groups.items
      ++ leading_groups (drop l.kind-index l.kinds) (all_anew (view_all l.fresh) (map view_reference l.refs))
      ≡ leading_groups l.kinds (all_anew (view_all l.fn.fresh) (map view_reference l.fn.refs));
}
