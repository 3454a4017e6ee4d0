use Rattle.zone_marks.proofs.Cited.{length-set, refl, ◌∙◌, arith}
use Rattle.zone_marks.proofs.Marks.Lowering.{begins-way, begins-further, mark-measured, marks-whole, mark-first}
use Rattle.zone_marks.proofs.Marks.Edges.{laid-next}
use Rattle.zone_marks.proofs.marking.lay_marks.Goals as goal

pub returns-then-marks-index-clause-marks : goal.returns-then-marks-index-clause-marks
returns-then-marks-index-clause-marks c =
    let v = c.loop-index.invariant.2 in
    marks-whole _ _ _ _ _ (grind (arith, mark-first)) v.below v.above

pub stretch_from-stretch-requires : goal.stretch_from-stretch-requires
stretch_from-stretch-requires c =
    let i = c.args.sound.now.sound in
    begins-way _ _ _ i c.loop-index.at (c.loop-index.invariant.2.begins (omega arith))

pub spaces_told-requires : goal.spaces_told-requires
spaces_told-requires c =
    let i = c.args.sound.now.sound in
    begins-way _ _ _ i c.loop-index.at (c.loop-index.invariant.2.begins (omega arith))

pub loop-index-preserved : goal.loop-index-preserved
loop-index-preserved c =
    let i = c.args.sound.now.sound in
    let v = c.loop-index.invariant in
    let n = v.0 in
    let b = v.2.begins (omega arith) in
    let s = c.stretch_from-stretch in (
      length-set c.loop-index.marks c.loop-index.index _ ∙ n,
      c.raise_group.ensures c.loop-index.marks _ (omega arith) v.1,
      laid-next _ _ _ _ _ _ v.2 (omega arith) refl
          (mark-measured _ _ _ i _ _ _ _ b s.ensures.order s.ensures.measured c.spaces_told.ensures)
          (λ k. begins-further _ _ _ i _ _ b (s.ensures.edge (grind arith))) (λ k. s.ensures.last (grind arith)),
    )
