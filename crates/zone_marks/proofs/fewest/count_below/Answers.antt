use Rattle.zone_marks.proofs.Cited.{◌∙◌, ◌-◌, ap, arith, opened, spared, count_within}
use Rattle.zone_marks.proofs.Bounds.Fewest.{count-below}
use Rattle.zone_marks.proofs.fewest.count_below.Goals as goal

pub returns-clause-is : goal.returns-clause-is
returns-clause-is c low rest is at =
    let n = c.args.sparing in
    c.count_in.ensures.is
    ∙ ap (λ l. count_within (spared n) (c.args.run - c.min-first.result) (opened n l)) c.walk_at.ensures.is
    ∙ count-below _ _ _ c.args.sound.now.sound _ _ _ n low rest (grind arith) (omega arith) c.requires.none (omega arith) is at
