use Rattle.zone_marks.proofs.Cited.{◌+◌, ◌<◌, inl, inr, length, length-set, subst, sym, arith, zone_in, Begins}
use Rattle.zone_marks.proofs.Marks.Edges.{edge-begins, edge-bare, either-is, laid-next}
use Rattle.zone_marks.proofs.marking.lay_edges.Goals as goal

pub packed_mark-requires-clause-bare : goal.packed_mark-requires-clause-bare
packed_mark-requires-clause-bare c = edge-bare _ _ _
    c.requires.edges _ c.in-Some.ensures _ _ (either-is _ _ _ c.max-edge.ensures)

pub loop-next-preserved : goal.loop-next-preserved
loop-next-preserved c =
    let zone = zone_in c.args.sound.now.part.bytes in
    let v = c.loop-next.invariant in
    let inside : c.loop-next.next.index + 1 < length c.loop-next.marks = omega arith in
    let m = c.packed_mark.new.mark in
    let long = length-set c.loop-next.marks c.loop-next.next.index m in (
      laid-next _ _ _ _ _ m v.0 (omega arith) c.packed_mark.ensures.at c.packed_mark.ensures.mark
          (λ _. elim (either-is _ _ _ c.max-edge.ensures) [
            | inl e ↦ subst (λ k. Begins k 0 zone) (sym e) (v.0.begins (omega arith))
            | inr e ↦ subst (λ k. Begins k 0 zone) (sym e) (edge-begins _ _ _ c.requires.edges _ c.in-Some.ensures)
          ]) (λ e. absurd (omega arith)),
      c.raise_group.ensures c.loop-next.marks m (omega arith) v.1,
      (omega arith),
      (omega arith),
    )
