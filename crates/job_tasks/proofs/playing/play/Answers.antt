use Rattle.job_tasks.proofs.Cited.{◌≡◌, Err, map, refl, rules, part_seen, parts_of, NotTaken, told_err, quiet_silent, quiet_from}
use Rattle.job_tasks.proofs.Played.{plays, not_played, not_opened, quiet_work}
use Rattle.job_tasks.proofs.playing.play.Goals as goal

-- there is no application
pub returns-in_err-taken-clause-undone : goal.returns-in_err-taken-clause-undone
returns-in_err-taken-clause-undone g c =
    let same : c.from_residual.result ≡ Err c.in_err-taken.field-0.0 = search rules in
    told_err _ _ _ same (NotTaken c.in_err-taken.ensures.silent c.in_err-taken.ensures.untaken)

pub returns-in_err-taken-clause-quiet : goal.returns-in_err-taken-clause-quiet
returns-in_err-taken-clause-quiet g c =
    let same : c.from_residual.result ≡ Err c.in_err-taken.field-0.0 = search rules in
    told_err _ _ _ same (quiet_silent _ _ _ c.in_err-taken.ensures.silent)

-- there are no resources to launch it with
pub returns-in_err-resources-clause-undone : goal.returns-in_err-resources-clause-undone
returns-in_err-resources-clause-undone g c =
    let same : c.from_residual-in_err-resources.result ≡ Err c.in_err-resources.field-0.0 = search rules in
    let parts : map part_seen c.deref.result.now ≡ parts_of c.args.play.now = search rules in
    told_err _ _ _ same (not_opened c.args.play.now _ _ _ _ _ _ _ _ _ _ parts c.in_ok-taken.ensures.silent
    c.in_ok-taken.ensures.taken c.in_err-resources.ensures.fault)

pub returns-in_err-resources-clause-quiet : goal.returns-in_err-resources-clause-quiet
returns-in_err-resources-clause-quiet g c =
    let same : c.from_residual-in_err-resources.result ≡ Err c.in_err-resources.field-0.0 = search rules in
    told_err _ _ _ same (quiet_silent _ _ _ c.in_ok-taken.ensures.silent)

-- what was asked for was not done to its end
pub returns-clause-undone : goal.returns-clause-undone
returns-clause-undone g c =
    not_played c.args.play.now _ _ _ _ _ _ _ _ _ _ _ _ c.in_ok-taken.ensures.silent
    c.in_ok-taken.ensures.taken c.in_ok-resources.ensures.opened c.in-Err.ensures.undone

pub returns-clause-quiet : goal.returns-clause-quiet
returns-clause-quiet g c =
    quiet_from _ _ _ _ c.in_ok-taken.ensures.silent
    (quiet_work c.args.play.now c.args.play.now.work _ _ _ _ _ _ _ _ _ c.in-Err.ensures.undone)

pub returns-in-Ok-clause-done : goal.returns-in-Ok-clause-done
returns-in-Ok-clause-done g c = (
  refl,
  plays c.args.play.now _ _ _ _ _ _ _ _ _ _ _ c.in_ok-taken.ensures.silent c.in_ok-taken.ensures.taken
      c.in_ok-resources.ensures.opened c.in-Ok.ensures.done,
)
