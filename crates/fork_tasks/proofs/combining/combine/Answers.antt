use Rattle.fork_tasks.proofs.Cited.{◌≡◌, ◌∙◌, Err, rules}
use Rattle.fork_tasks.proofs.Accesses.{told_err}
use Rattle.fork_tasks.proofs.TwoFiles.{both, second_unread, unmade, undelivered, combines}
use Rattle.fork_tasks.proofs.OneFile.{quiet_undelivered}
use Rattle.fork_tasks.proofs.Faults.{quiet_silent}
use Rattle.fork_tasks.proofs.combining.combine.Goals as goal

pub returns-in_err-second-clause-undone : goal.returns-in_err-second-clause-undone
returns-in_err-second-clause-undone g c =
    let same : c.from_residual-in_err-second.result ≡ Err c.in_err-second.field-0.0 = search rules in
    told_err _ _ _ same (second_unread c.args.combination _ _ _ _ _ _ _ _ c.in_ok-first.ensures.silent
    c.in_err-second.ensures.silent c.in_ok-first.ensures.read c.in_err-second.ensures.unread)

pub returns-in_err-second-clause-quiet : goal.returns-in_err-second-clause-quiet
returns-in_err-second-clause-quiet g c =
    let same : c.from_residual-in_err-second.result ≡ Err c.in_err-second.field-0.0 = search rules in
    told_err _ _ _ same (quiet_silent _ _ _ (c.in_err-second.ensures.silent ∙ c.in_ok-first.ensures.silent))

pub returns-in_err-made-clause-undone : goal.returns-in_err-made-clause-undone
returns-in_err-made-clause-undone g c =
    let same : c.from_residual-in_err-made.result ≡ Err c.in_err-made.field-0.0 = search rules in
    told_err _ _ _ same (unmade c.args.combination c.as_slice.result.now c.as_slice-2.result.now _ _ _ _ _ _ _
    (c.in_ok-second.ensures.silent ∙ c.in_ok-first.ensures.silent)
    (both c.args.combination _ _ _ _ _ c.in_ok-first.ensures.read c.in_ok-second.ensures.read)
    (search rules) (search rules) c.in_err-made.ensures.fault)

pub returns-in_err-made-clause-quiet : goal.returns-in_err-made-clause-quiet
returns-in_err-made-clause-quiet g c =
    let same : c.from_residual-in_err-made.result ≡ Err c.in_err-made.field-0.0 = search rules in
    told_err _ _ _ same (quiet_silent _ _ _ (c.in_ok-second.ensures.silent ∙ c.in_ok-first.ensures.silent))

pub returns-in_err-deliver-clause-undone : goal.returns-in_err-deliver-clause-undone
returns-in_err-deliver-clause-undone g c =
    let same : c.from_residual-in_err-deliver.result ≡ Err c.in_err-deliver.field-0.0 = search rules in
    told_err _ _ _ same (undelivered c.args.combination c.as_slice.result.now c.as_slice-2.result.now _ _ _
    c.as_slice-3.result.now _ _ _ _ _ _ _ _ (c.in_ok-second.ensures.silent ∙ c.in_ok-first.ensures.silent)
    (both c.args.combination _ _ _ _ _ c.in_ok-first.ensures.read c.in_ok-second.ensures.read)
    (search rules) (search rules) (search rules) c.in_ok-made.ensures.made c.in_err-deliver.ensures.undelivered)

pub returns-in_err-deliver-clause-quiet : goal.returns-in_err-deliver-clause-quiet
returns-in_err-deliver-clause-quiet g c =
    let same : c.from_residual-in_err-deliver.result ≡ Err c.in_err-deliver.field-0.0 = search rules in
    told_err _ _ _ same (quiet_undelivered _ _ _ _ _ _ _ _ c.in_err-deliver.ensures.undelivered)

pub returns-clause-done : goal.returns-clause-done
returns-clause-done g c =
    combines c.args.combination _ c.as_slice.result.now c.as_slice-2.result.now _ _ _ c.as_slice-3.result.now _ _ _ _ _ _ _
    (c.in_ok-second.ensures.silent ∙ c.in_ok-first.ensures.silent)
    (both c.args.combination _ _ _ _ _ c.in_ok-first.ensures.read c.in_ok-second.ensures.read)
    (search rules) (search rules) (search rules) c.in_ok-made.ensures.made
    c.of.ensures c.in_ok-deliver.ensures.delivered
