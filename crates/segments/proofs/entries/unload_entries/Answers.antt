use Rattle.segments.proofs.Cited.{◌+◌, arith, ◌∙◌, rules}
use Rattle.segments.proofs.Marking.{changed_next}
use Rattle.segments.proofs.entries.unload_entries.Goals as goal

pub loop-i-preserved : goal.loop-i-preserved
loop-i-preserved c = record {
  end = search rules;
  all = changed_next _ c.loop-i.entries c.loop-i.i (c.loop-i.i + 1) c.unloaded.result _ (omega arith)
      c.unloaded.ensures (omega arith) ∙ c.loop-i.invariant.all;
}
