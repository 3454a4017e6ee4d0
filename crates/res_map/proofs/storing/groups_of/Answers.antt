use Rattle.res_map.proofs.Cited.{rules, arith, drop_more}
use Rattle.res_map.proofs.Runs.{groups_on}
use Rattle.res_map.proofs.storing.groups_of.Goals as goal

pub loop-kind-preserved : goal.loop-kind-preserved
loop-kind-preserved c = record {
  long = search rules;
  all = groups_on c.loop-kind.groups.items _ c.in_ok-group_of.field-0 c.args.kinds.now c.loop-kind.kind-index _ _
      c.loop-kind.fresh.now _ _ c.loop-kind.refs.now _ _ _
      (drop_more c.args.kinds.now c.loop-kind.kind-index 0 (omega arith)) c.leading_of-len.ensures.leading
      c.split_at-in-loop-kind.ensures.front c.split_at-in-loop-kind.ensures.back c.split_at.ensures.front
      c.split_at.ensures.back c.in_ok-group_of.ensures c.in_ok-push.ensures.items c.loop-kind.invariant.all;
}
