use Rattle.zone_marks.proofs.Cited.{inl, inr, arith}
use Rattle.zone_marks.proofs.Marks.Lowering.{changing-start, changing-step, changing-done, last-mark}
use Rattle.zone_marks.proofs.marking.change_marks.Goals as goal

pub loop-first-init : goal.loop-first-init
loop-first-init c =
    let r = c.requires.marks in
    record {
      groups = c.requires.groups;
      changing = changing-start _ _ _ r.0 r.1 _ _ _ c.place_of_mark-above.ensures c.index_above-last.ensures.above
          c.index_above-last.ensures.index r.2;
    }

pub changed_mark-requires-clause-mark : goal.changed_mark-requires-clause-mark
changed_mark-requires-clause-mark c =
    let g = c.loop-first.invariant.changing in (g.old, g.changed, (last-mark _ _ _ _ _ _ _ g (omega arith)).1)

pub loop-first-preserved : goal.loop-first-preserved
loop-first-preserved c =
    let g = c.loop-first.invariant.changing in
    let e = c.changed_mark.ensures in
    record {
      groups = c.raise_group.ensures c.loop-first.marks _ (omega arith) c.loop-first.invariant.groups;
      changing = changing-step _ _ _ _ _ _ _ g (omega arith) _ e.at
          (e.mark g.old g.changed (last-mark _ _ _ _ _ _ _ g (omega arith)).1);
    }

pub returns-else-lo-above-clause-marks : goal.returns-else-lo-above-clause-marks
returns-else-lo-above-clause-marks c =
    changing-done _ _ _ _ _ _ _ c.loop-first.invariant.changing (inr c.if-lo-above.false)

pub returns-after-loop-first-clause-marks : goal.returns-after-loop-first-clause-marks
returns-after-loop-first-clause-marks c =
    changing-done _ _ _ _ _ _ _ c.loop-first.invariant.changing (inl (omega arith))
