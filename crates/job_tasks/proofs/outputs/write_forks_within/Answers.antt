use Rattle.job_tasks.proofs.Cited.{◌≡◌, ◌∙◌, Err, rules, owner_source, told_err, further, stopped}
use Rattle.job_tasks.proofs.Left.{of_file}
use Rattle.job_tasks.proofs.outputs.write_forks_within.Goals as goal

pub loop-k-preserved : goal.loop-k-preserved
loop-k-preserved g c =
    let come = of_file c.args.folder.now c.args.owner.name.now.0.items (owner_source c.args.owner)
    c.args.files.now c.loop-k.k c.index-files-k.result
    c.loop-k-test.true c.index-files-k.is in
    record {
      silent = c.in_ok-write_fork.ensures.silent ∙ c.loop-k.invariant.silent;
      made = further _ _ _ _ _ _ _ come c.loop-k.invariant.made c.in_ok-write_fork.ensures.written;
      room = c.in_ok-write_fork.ensures.room;
    }

pub returns-in_err-write_fork-clause-stopped : goal.returns-in_err-write_fork-clause-stopped
returns-in_err-write_fork-clause-stopped g c =
    let come = of_file c.args.folder.now c.args.owner.name.now.0.items (owner_source c.args.owner)
    c.args.files.now c.loop-k.k c.index-files-k.result
    c.loop-k-test.true c.index-files-k.is in
    let same : c.from_residual.result ≡ Err c.in_err-write_fork.field-0.0 = search rules in
    told_err _ _ _ same (stopped _ _ _ _ _ _ _ _ _ come c.loop-k.invariant.made c.in_err-write_fork.ensures.stopped)
