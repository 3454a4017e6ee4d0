use Rattle.list_store.proofs.Cited.{◌∙◌, sym, is_relocatable}
use Rattle.list_store.proofs.Regroup.Packed.{has-drop, nth-passes}
use Rattle.list_store.proofs.packing.index_of.Goals as goal

pub returns-then-is_of_slot : goal.returns-then-is_of_slot
returns-then-is_of_slot c = (
  c.loop-i-test.true,
  nth-passes (is_relocatable c.args.number) c.args.entries.now c.loop-i.i c.index-entries-i.result
      c.loop-i-test.true c.index-entries-i.is (sym c.is_of_slot.ensures ∙ c.if-is_of_slot.true),
)

pub loop-i-preserved : goal.loop-i-preserved
loop-i-preserved c = has-drop (is_relocatable c.args.number) c.args.entries.now c.loop-i.i c.index-entries-i.result
    c.loop-i-test.true c.index-entries-i.is (sym c.is_of_slot.ensures ∙ c.if-is_of_slot.false) ∙ c.loop-i.invariant
