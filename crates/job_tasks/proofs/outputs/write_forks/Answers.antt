use Rattle.job_tasks.proofs.Cited.{◌≡◌, ◌∙◌, Err, map, rules, source_given, told_err, further, stopped}
use Rattle.job_tasks.proofs.Left.{of_owner}
use Rattle.job_tasks.proofs.outputs.write_forks.Goals as goal

pub loop-n-preserved : goal.loop-n-preserved
loop-n-preserved g c =
    let come = of_owner c.args.folder.now (map source_given c.args.sources.now) c.args.apps.now c.loop-n.n
    c.index-apps-n.result c.loop-n-test.true c.index-apps-n.is in
    record {
      silent = c.in_ok-write_forks_of.ensures.silent ∙ c.loop-n.invariant.silent;
      made = further _ _ _ _ _ _ _ come c.loop-n.invariant.made c.in_ok-write_forks_of.ensures.written;
      room = c.in_ok-write_forks_of.ensures.room;
    }

pub returns-in_err-write_forks_of-clause-stopped : goal.returns-in_err-write_forks_of-clause-stopped
returns-in_err-write_forks_of-clause-stopped g c =
    let come = of_owner c.args.folder.now (map source_given c.args.sources.now) c.args.apps.now c.loop-n.n
    c.index-apps-n.result c.loop-n-test.true c.index-apps-n.is in
    let same : c.from_residual.result ≡ Err c.in_err-write_forks_of.field-0.0 = search rules in
    told_err _ _ _ same (stopped _ _ _ _ _ _ _ _ _ come c.loop-n.invariant.made c.in_err-write_forks_of.ensures.stopped)
