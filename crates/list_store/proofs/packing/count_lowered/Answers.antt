use Rattle.list_store.proofs.Cited.{◌≡◌, ◌+◌, ◌∷◌, drop, cond, sym, ◌∙◌, ap, arith, count, is_mover, lowered_in_run, blocks_of, block_of}
use Rattle.list_store.proofs.Cited.{fallen-free, fallen-mover, fallen-barrier, fallen-later}
use Rattle.list_store.proofs.Zone.Listing.{drop-blocks}
use Rattle.list_store.proofs.packing.count_lowered.Goals as goal
use Rattle.list_store.proofs.packing.count_lowered.Goals.{then-is_free_entry}
use Rattle.list_store.proofs.packing.count_lowered.Goals.{else-is_free_entry+then-below+then-is_loose}
use Rattle.list_store.proofs.packing.count_lowered.Goals.{else-is_free_entry+else-below}
use Rattle.list_store.proofs.packing.count_lowered.Goals.{else-below-via-then-below+else-is_loose}
use Rattle.list_store.proofs.packing.count_lowered.Goals.{else-below-via-else-below}

pub loop-entry-preserved : goal.loop-entry-preserved
loop-entry-preserved c =
    let bs = blocks_of c.args.run.now in
    let b = block_of c.entry-item.result in
    let above = drop (c.loop-entry.entry-index + 1) bs in
    let l = c.loop-entry in
    let now = c.if-is_free_entry in
    let free = sym c.is_free_entry.ensures in
    let was : l.lowered + cond l.below (count is_mover (b ∷ above)) (lowered_in_run (b ∷ above)) ≡ lowered_in_run bs =
    ap (λ k. l.lowered + cond l.below (count is_mover k) (lowered_in_run k))
    (sym (drop-blocks c.args.run.now l.entry-index c.entry-item.result c.loop-entry-test.true c.entry-item.is))
    ∙ l.invariant.rest in
    elim c.if-is_free_entry.branch [
      | then-is_free_entry w ↦ record {
        few = omega (arith, w.lowered-is, l.invariant.few);
        rest = fallen-free l.below now.below l.lowered now.lowered (lowered_in_run bs) b above w.lowered-is w.below-is
            (free ∙ w.if-is_free_entry.true) was;
      }
      | else-is_free_entry+then-below+then-is_loose w ↦ record {
        few = omega (arith, w.lowered-is, l.invariant.few);
        rest = fallen-mover l.below now.below l.lowered now.lowered (lowered_in_run bs) b above w.lowered-is w.below-is
            (free ∙ w.if-is_free_entry.false) w.if-below.true (sym w.is_loose.ensures ∙ w.if-is_loose.true) was;
      }
      | else-is_free_entry+else-below w ↦ record {
        few = omega (arith, w.lowered-is, l.invariant.few);
        rest = elim w.else-below.branch [
          | else-below-via-then-below+else-is_loose v ↦ fallen-barrier l.below now.below l.lowered now.lowered
              (lowered_in_run bs)
              b above w.lowered-is w.below-is (free ∙ w.if-is_free_entry.false) v.if-below.true
              (sym v.is_loose.ensures ∙ v.if-is_loose.false) was
          | else-below-via-else-below v ↦ fallen-later l.below now.below l.lowered now.lowered (lowered_in_run bs) b
              above
              w.lowered-is w.below-is (free ∙ w.if-is_free_entry.false) v.if-below.false was
        ];
      }
    ]
