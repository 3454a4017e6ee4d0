use Rattle.fork_tasks.proofs.Cited.{◌≡◌, ◌∙◌, Err, refl, rules, message_of, NewFile}
use Rattle.fork_tasks.proofs.Accesses.{told_err}
use Rattle.fork_tasks.proofs.Assembled.{unknown, unforked, unplaced, unwritten, assembles}
use Rattle.fork_tasks.proofs.Faults.{quiet_silent}
use Rattle.fork_tasks.proofs.OneFile.{quiet_undelivered}
use Rattle.fork_tasks.proofs.assembling.assemble.Goals as goal

pub returns-in_err-types-clause-undone : goal.returns-in_err-types-clause-undone
returns-in_err-types-clause-undone g c =
    let same : c.from_residual.result ≡ Err c.in_err-types.field-0.0 = search rules in
    told_err _ _ _ same (unknown c.args.assembly.now _ _ _ _ _ _ c.in_err-types.ensures.silent c.as_slice.ensures.value
    c.in_err-types.ensures.stopped)

pub returns-in_err-types-clause-quiet : goal.returns-in_err-types-clause-quiet
returns-in_err-types-clause-quiet g c =
    let same : c.from_residual.result ≡ Err c.in_err-types.field-0.0 = search rules in
    told_err _ _ _ same (quiet_silent _ _ _ c.in_err-types.ensures.silent)

pub returns-in_err-fork-clause-undone : goal.returns-in_err-fork-clause-undone
returns-in_err-fork-clause-undone g c =
    let same : c.from_residual-in_err-fork.result ≡ Err c.in_err-fork.field-0.0 = search rules in
    told_err _ _ _ same (unforked c.args.assembly.now _ _ _ _ _ _ _ _
    (c.in_err-fork.ensures.silent ∙ c.in_ok-types.ensures.silent) c.as_slice.ensures.value c.in_ok-types.ensures.known
    c.in_err-fork.ensures.stopped)

pub returns-in_err-fork-clause-quiet : goal.returns-in_err-fork-clause-quiet
returns-in_err-fork-clause-quiet g c =
    let same : c.from_residual-in_err-fork.result ≡ Err c.in_err-fork.field-0.0 = search rules in
    told_err _ _ _ same (quiet_silent _ _ _ (c.in_err-fork.ensures.silent ∙ c.in_ok-types.ensures.silent))

pub returns-in_err-out-clause-undone : goal.returns-in_err-out-clause-undone
returns-in_err-out-clause-undone g c =
    let same : c.from_residual-in_err-out.result ≡ Err c.in_err-out.field-0.0 = search rules in
    told_err _ _ _ same (unplaced c.args.assembly.now _ _ _ _ _ _ _ _ _ _
    (c.in_err-out.ensures.silent ∙ c.in_ok-fork.ensures.silent ∙ c.in_ok-types.ensures.silent) c.as_slice.ensures.value
    c.in_ok-types.ensures.known c.in_ok-fork.ensures.forks c.in_err-out.ensures.stopped)

pub returns-in_err-out-clause-quiet : goal.returns-in_err-out-clause-quiet
returns-in_err-out-clause-quiet g c =
    let same : c.from_residual-in_err-out.result ≡ Err c.in_err-out.field-0.0 = search rules in
    told_err _ _ _ same (quiet_silent _ _ _
    (c.in_err-out.ensures.silent ∙ c.in_ok-fork.ensures.silent ∙ c.in_ok-types.ensures.silent))

pub returns-in_err-deliver-clause-undone : goal.returns-in_err-deliver-clause-undone
returns-in_err-deliver-clause-undone g c =
    let same : c.from_residual-in_err-deliver.result ≡ Err c.in_err-deliver.field-0.0 = search rules in
    told_err _ _ _ same (unwritten c.args.assembly.now _ _ _ _ c.as_slice-2.result.now _ _ _ _ _ _ _ _ _
    (c.in_ok-out.ensures.silent ∙ c.in_ok-fork.ensures.silent ∙ c.in_ok-types.ensures.silent) c.as_slice.ensures.value
    c.in_ok-types.ensures.known c.in_ok-fork.ensures.forks c.in_ok-out.ensures.places (search rules)
    c.in_err-deliver.ensures.undelivered)

pub returns-in_err-deliver-clause-quiet : goal.returns-in_err-deliver-clause-quiet
returns-in_err-deliver-clause-quiet g c =
    let same : c.from_residual-in_err-deliver.result ≡ Err c.in_err-deliver.field-0.0 = search rules in
    told_err _ _ _ same (quiet_undelivered (NewFile c.args.assembly.now.out) c.as_slice-2.result.now
    (g.H.Host.printed c.args.host.now) (g.H.Host.printed c.placed.new.host) (g.H.Host.printed c.deliver.new.host)
    (g.H.Host.accesses c.placed.new.host) (g.H.Host.accesses c.deliver.new.host) (message_of c.in_err-deliver.field-0.0)
    c.in_err-deliver.ensures.undelivered)

pub returns-clause-done : goal.returns-clause-done
returns-clause-done g c = (
  refl,
  assembles c.args.assembly.now _ _ _ _ c.as_slice-2.result.now _ _ _ _ _ _ _ _
      (c.in_ok-out.ensures.silent ∙ c.in_ok-fork.ensures.silent ∙ c.in_ok-types.ensures.silent) c.as_slice.ensures.value
      c.in_ok-types.ensures.known c.in_ok-fork.ensures.forks c.in_ok-out.ensures.places (search rules)
      c.in_ok-deliver.ensures.delivered,
)
