use Rattle.fork_tasks.proofs.Cited.{◌≡◌, ◌∙◌, Err, rules}
use Rattle.fork_tasks.proofs.Accesses.{told_err}
use Rattle.fork_tasks.proofs.Extracted.{stopped_among, of_item}
use Rattle.fork_tasks.proofs.Writes.{further}
use Rattle.fork_tasks.proofs.extracting.write_files.Goals as goal

pub loop-file-preserved : goal.loop-file-preserved
loop-file-preserved g c =
    let come = of_item c.args.files.now c.loop-file.file-index c.file-item.result c.loop-file-test.true c.file-item.is in
    record {
      silent = c.in_ok-write_file.ensures.silent ∙ c.loop-file.invariant.silent;
      made = further _ _ _ _ _ _ _ come c.loop-file.invariant.made c.in_ok-write_file.ensures.written;
    }

pub returns-in_err-write_file-clause-stopped : goal.returns-in_err-write_file-clause-stopped
returns-in_err-write_file-clause-stopped g c =
    let same : c.from_residual.result ≡ Err c.in_err-write_file.field-0.0 = search rules in
    let come = of_item c.args.files.now c.loop-file.file-index c.file-item.result c.loop-file-test.true c.file-item.is in
    told_err _ _ _ same
    (stopped_among _ _ _ _ _ _ _ _ come c.loop-file.invariant.made c.in_err-write_file.ensures.stopped)
