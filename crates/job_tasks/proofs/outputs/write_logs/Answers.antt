use Rattle.job_tasks.proofs.Cited.{◌≡◌, ◌∙◌, Err, rules, log_left, told_err, further, stopped}
use Rattle.job_tasks.proofs.Left.{of_app}
use Rattle.job_tasks.proofs.outputs.write_logs.Goals as goal

pub loop-app-preserved : goal.loop-app-preserved
loop-app-preserved g c =
    let come = of_app (log_left c.args.folder.now) c.args.apps.now c.loop-app.app-index c.app-item.result
    c.loop-app-test.true c.app-item.is in
    record {
      silent = c.in_ok-write_log.ensures.silent ∙ c.loop-app.invariant.silent;
      made = further _ _ _ _ _ _ _ come c.loop-app.invariant.made c.in_ok-write_log.ensures.written;
      room = c.in_ok-write_log.ensures.room;
    }

pub returns-in_err-write_log-clause-stopped : goal.returns-in_err-write_log-clause-stopped
returns-in_err-write_log-clause-stopped g c =
    let come = of_app (log_left c.args.folder.now) c.args.apps.now c.loop-app.app-index c.app-item.result
    c.loop-app-test.true c.app-item.is in
    let same : c.from_residual.result ≡ Err c.in_err-write_log.field-0.0 = search rules in
    told_err _ _ _ same (stopped _ _ _ _ _ _ _ _ _ come c.loop-app.invariant.made c.in_err-write_log.ensures.stopped)
