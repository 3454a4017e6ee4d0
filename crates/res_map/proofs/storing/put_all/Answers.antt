use Rattle.res_map.proofs.Cited.{◌∙◌, ap, rules, arith, stored_anew, view_reference, view_bytes}
use Rattle.res_map.proofs.Anew.{put_on}
use Rattle.res_map.proofs.storing.put_all.Goals as goal

pub loop-i-preserved : goal.loop-i-preserved
loop-i-preserved c = record {
  long = search rules;
  end = search rules;
  all = put_on c.loop-i.refs.items c.loop-i.fresh.items c.loop-i.i c.index_mut.result.now c.put_given.new.r
      c.index_mut-in-loop-i.result.now c.take.new.self _ (omega arith) c.loop-i.invariant.long
      c.index_mut.ensures.value c.index_mut-in-loop-i.ensures.value
      (c.put_given.ensures ∙ ap (λ g. stored_anew (view_bytes g) (view_reference c.index_mut.result.now))
      c.take.ensures.value) c.loop-i.invariant.all;
}
