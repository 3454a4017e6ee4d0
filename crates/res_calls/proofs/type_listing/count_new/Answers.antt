use Rattle.res_calls.proofs.Cited.{map, types, view_open}
use Rattle.res_calls.proofs.Typing.{count_on, count_few}
use Rattle.res_calls.proofs.type_listing.count_new.Goals as goal

pub loop-i-preserved : goal.loop-i-preserved
loop-i-preserved c = (
  count_on (map view_open c.args.before.now) (types c.args.file.now.references) c.loop-i.i _ c.loop-i.count
      c.one_if_new-count.result _ c.type_at.ensures c.one_if_new-count.ensures c.loop-i.invariant.0,
  count_few _ c.loop-i.i c.loop-i.count c.one_if_new-count.result c.one_if_new-count.ensures c.loop-i.invariant.1,
)
