use Rattle.list_store.proofs.Cited.{◌≡◌, ◌+◌, drop, sym, ◌∙◌, ap, arith, IfOk-weaker, is_relocatable, resized, spot, blocks_of, block_of}
use Rattle.list_store.proofs.Cited.{found, found-here, found-above, if_found}
use Rattle.list_store.proofs.Zone.Listing.{drop-blocks}
use Rattle.list_store.proofs.sizing.resized_slot.Goals as goal

pub returns-then-is_of_slot : goal.returns-then-is_of_slot
returns-then-is_of_slot c =
    let es = c.args.entries.now in
    let i = c.loop-entry.entry-index in
    let test = is_relocatable c.args.number in
    let here = sym c.loop-entry.invariant ∙ ap (found test)
    (drop-blocks es i c.entry-item.result (omega arith) c.entry-item.is)
    ∙ found-here test (block_of c.entry-item.result) (drop (i + 1) (blocks_of es))
    (sym c.is_of_slot.ensures ∙ c.if-is_of_slot.true) in
    IfOk-weaker c.resized_entry.result _ _ (λ e is. if_found (λ b. block_of e ≡ resized c.args.bytes b)
    (spot test (blocks_of es)) (block_of c.entry-item.result) here is) c.resized_entry.ensures

pub loop-entry-preserved : goal.loop-entry-preserved
loop-entry-preserved c =
    let es = c.args.entries.now in
    let i = c.loop-entry.entry-index in
    let test = is_relocatable c.args.number in
    sym (found-above test (block_of c.entry-item.result) (drop (i + 1) (blocks_of es))
    (sym c.is_of_slot.ensures ∙ c.if-is_of_slot.false))
    ∙ sym (ap (found test) (drop-blocks es i c.entry-item.result (omega arith) c.entry-item.is))
    ∙ c.loop-entry.invariant
