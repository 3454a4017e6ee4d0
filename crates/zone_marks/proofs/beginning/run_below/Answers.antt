use Rattle.zone_marks.proofs.Cited.{◌-◌, arith, length, no_mark}
use Rattle.zone_marks.proofs.Marks.Lowering.{mark-first, mark-order}
use Rattle.zone_marks.proofs.Searches.Passed.{known-bottom}
use Rattle.zone_marks.proofs.beginning.run_below.Goals as goal

pub returns-then-above-eq0 : goal.returns-then-above-eq0
returns-then-above-eq0 c = rw c.begun_at.ensures (known-bottom _ _ _)

pub returns : goal.returns
returns c =
    let a = c.index_above-above in
    let p = c.passed_below-passed in
    let i = p.result.index in
    let marks = c.args.marks.now in
    c.after_passed.ensures _ _ p.ensures.come.short (omega (
      arith,
      c.saturating_add.ensures,
      p.ensures.come.at,
      mark-first (length c.args.sound.now.part.bytes) marks i no_mark (omega (arith, a.ensures.index, p.ensures.within)),
      mark-order _ _ marks i (a.result - 1) no_mark p.ensures.within (omega (arith, a.ensures.index)) c.requires.marked.marks,
      a.ensures.below (omega arith),
    ))
