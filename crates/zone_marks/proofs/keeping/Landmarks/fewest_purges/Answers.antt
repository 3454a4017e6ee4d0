use Rattle.zone_marks.proofs.Cited.{◌∙◌, ◌-◌, ap, arith, opened, spared, purges_for, zone_in, left-above}
use Rattle.zone_marks.proofs.keeping.Landmarks.fewest_purges.Goals as goal
use Rattle.zone_marks.proofs.Stretches.Fewest.{first-is, never-serves}

pub returns-in_err-run : goal.returns-in_err-run
returns-in_err-run c = rw c.from_residual.ensures (never-serves _ _ _ (rw c.in_err-run.was at c.find_run_purged.ensures))

pub returns : goal.returns
returns c =
    let i = c.args.sound.now.sound in
    let n = c.args.sparing in
    let f = first-is c.args.bytes c.in_ok-run.run' n (zone_in c.args.sound.now.part.bytes)
    (rw c.in_ok-run.was at c.find_run_purged.ensures) c.requires.unserved in
    let left = left-above _ _ _ i f.low f.rest c.in_ok-run.run' f.is f.at in
    let lacks = c.saturating_sub-lacks.ensures ∙ ap (λ k. c.args.bytes - k) (grind arith) in
    let own = c.count_for.ensures.is
    ∙ ap (λ l. purges_for (spared n) c.saturating_sub-lacks.result (opened n l)) (c.walk_at.ensures.is ∙ left)
    ∙ ap (λ k. purges_for (spared n) k (opened n f.rest)) lacks in
    rw ((c.count_below-below.ensures.is f.low f.rest f.is f.at), own) f.least
