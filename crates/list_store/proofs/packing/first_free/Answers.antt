use Rattle.list_store.proofs.Cited.{◌∙◌, sym, is_free}
use Rattle.list_store.proofs.Regroup.Packed.{has-drop, nth-passes}
use Rattle.list_store.proofs.packing.first_free.Goals as goal

pub returns-then-is_free_entry : goal.returns-then-is_free_entry
returns-then-is_free_entry c = (
  c.loop-i-test.true,
  nth-passes is_free c.args.entries.now c.loop-i.i c.index-entries-i.result c.loop-i-test.true c.index-entries-i.is
      (sym c.is_free_entry.ensures ∙ c.if-is_free_entry.true),
)

pub loop-i-preserved : goal.loop-i-preserved
loop-i-preserved c = has-drop is_free c.args.entries.now c.loop-i.i c.index-entries-i.result c.loop-i-test.true
    c.index-entries-i.is (sym c.is_free_entry.ensures ∙ c.if-is_free_entry.false) ∙ c.loop-i.invariant
