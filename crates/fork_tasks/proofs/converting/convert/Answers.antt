use Rattle.fork_tasks.proofs.Cited.{◌≡◌, Err, refl, rules}
use Rattle.fork_tasks.proofs.Accesses.{told_err}
use Rattle.fork_tasks.proofs.OneFile.{unmade, undelivered, converts, quiet_undelivered}
use Rattle.fork_tasks.proofs.Faults.{quiet_silent}
use Rattle.fork_tasks.proofs.converting.convert.Goals as goal

pub returns-in_err-out-clause-undone : goal.returns-in_err-out-clause-undone
returns-in_err-out-clause-undone g c =
    let same : c.from_residual-in_err-out.result ≡ Err c.in_err-out.field-0.0 = search rules in
    told_err _ _ _ same (unmade c.args.conversion c.as_slice.result.now _ _ _ _ _ _ c.in_ok-bytes.ensures.silent
    c.in_ok-bytes.ensures.read (search rules) c.in_err-out.ensures.fault)

pub returns-in_err-out-clause-quiet : goal.returns-in_err-out-clause-quiet
returns-in_err-out-clause-quiet g c =
    let same : c.from_residual-in_err-out.result ≡ Err c.in_err-out.field-0.0 = search rules in
    told_err _ _ _ same (quiet_silent _ _ _ c.in_ok-bytes.ensures.silent)

pub returns-in_err-deliver-clause-undone : goal.returns-in_err-deliver-clause-undone
returns-in_err-deliver-clause-undone g c =
    let same : c.from_residual-in_err-deliver.result ≡ Err c.in_err-deliver.field-0.0 = search rules in
    told_err _ _ _ same (undelivered c.args.conversion c.as_slice.result.now _ _ c.as_slice-2.result.now _ _ _ _ _ _ _
    c.in_ok-bytes.ensures.silent c.in_ok-bytes.ensures.read (search rules) (search rules) c.in_ok-out.ensures.made
    c.in_err-deliver.ensures.undelivered)

pub returns-in_err-deliver-clause-quiet : goal.returns-in_err-deliver-clause-quiet
returns-in_err-deliver-clause-quiet g c =
    let same : c.from_residual-in_err-deliver.result ≡ Err c.in_err-deliver.field-0.0 = search rules in
    told_err _ _ _ same (quiet_undelivered _ _ _ _ _ _ _ _ c.in_err-deliver.ensures.undelivered)

pub returns-clause-done : goal.returns-clause-done
returns-clause-done g c = (
  refl,
  converts c.args.conversion c.as_slice.result.now _ _ c.as_slice-2.result.now _ _ _ _ _ _
      c.in_ok-bytes.ensures.silent c.in_ok-bytes.ensures.read (search rules) (search rules) c.in_ok-out.ensures.made
      c.in_ok-deliver.ensures.delivered,
)
