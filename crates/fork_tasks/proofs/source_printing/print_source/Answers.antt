use Rattle.fork_tasks.proofs.Cited.{◌≡◌, ◌∙◌, Err, refl, rules, Printed, message_of}
use Rattle.fork_tasks.proofs.Accesses.{told_err}
use Rattle.fork_tasks.proofs.Faults.{quiet_silent}
use Rattle.fork_tasks.proofs.OneFile.{quiet_undelivered}
use Rattle.fork_tasks.proofs.SourcePrinted.{unknown, unread, unmade, unprinted, prints}
use Rattle.fork_tasks.proofs.source_printing.print_source.Goals as goal

pub returns-in_err-types-clause-undone : goal.returns-in_err-types-clause-undone
returns-in_err-types-clause-undone g c =
    let same : c.from_residual.result ≡ Err c.in_err-types.field-0.0 = search rules in
    told_err _ _ _ same (unknown c.args.printing.now _ _ _ _ _ _ c.in_err-types.ensures.silent c.as_slice.ensures.value
    c.in_err-types.ensures.stopped)

pub returns-in_err-types-clause-quiet : goal.returns-in_err-types-clause-quiet
returns-in_err-types-clause-quiet g c =
    let same : c.from_residual.result ≡ Err c.in_err-types.field-0.0 = search rules in
    told_err _ _ _ same (quiet_silent _ _ _ c.in_err-types.ensures.silent)

pub returns-in_err-bytes-clause-undone : goal.returns-in_err-bytes-clause-undone
returns-in_err-bytes-clause-undone g c =
    let same : c.from_residual-in_err-bytes.result ≡ Err c.in_err-bytes.field-0.0 = search rules in
    told_err _ _ _ same (unread c.args.printing.now _ _ _ _ _ _ _ _ _ c.in_ok-types.ensures.silent
    c.in_err-bytes.ensures.silent c.as_slice.ensures.value c.in_ok-types.ensures.known c.in_err-bytes.ensures.unread)

pub returns-in_err-bytes-clause-quiet : goal.returns-in_err-bytes-clause-quiet
returns-in_err-bytes-clause-quiet g c =
    let same : c.from_residual-in_err-bytes.result ≡ Err c.in_err-bytes.field-0.0 = search rules in
    told_err _ _ _ same (quiet_silent _ _ _ (c.in_err-bytes.ensures.silent ∙ c.in_ok-types.ensures.silent))

pub returns-in_err-out-clause-undone : goal.returns-in_err-out-clause-undone
returns-in_err-out-clause-undone g c =
    let same : c.from_residual-in_err-out.result ≡ Err c.in_err-out.field-0.0 = search rules in
    told_err _ _ _ same (unmade c.args.printing.now _ _ c.as_slice-2.result.now _ _ _ _ _ _ _ _ c.in_ok-types.ensures.silent
    c.in_ok-bytes.ensures.silent c.as_slice.ensures.value c.in_ok-types.ensures.known c.in_ok-bytes.ensures.read (search rules)
    c.in_err-out.ensures.fault)

pub returns-in_err-out-clause-quiet : goal.returns-in_err-out-clause-quiet
returns-in_err-out-clause-quiet g c =
    let same : c.from_residual-in_err-out.result ≡ Err c.in_err-out.field-0.0 = search rules in
    told_err _ _ _ same (quiet_silent _ _ _ (c.in_ok-bytes.ensures.silent ∙ c.in_ok-types.ensures.silent))

pub returns-in_err-deliver-clause-undone : goal.returns-in_err-deliver-clause-undone
returns-in_err-deliver-clause-undone g c =
    let same : c.from_residual-in_err-deliver.result ≡ Err c.in_err-deliver.field-0.0 = search rules in
    told_err _ _ _ same (unprinted c.args.printing.now _ _ c.as_slice-2.result.now _ _ c.as_slice-3.result.now _ _ _ _ _ _ _ _ _
    c.in_ok-types.ensures.silent c.in_ok-bytes.ensures.silent c.as_slice.ensures.value c.in_ok-types.ensures.known
    c.in_ok-bytes.ensures.read (search rules) (search rules) c.in_ok-out.ensures.made c.in_err-deliver.ensures.undelivered)

pub returns-in_err-deliver-clause-quiet : goal.returns-in_err-deliver-clause-quiet
returns-in_err-deliver-clause-quiet g c =
    let same : c.from_residual-in_err-deliver.result ≡ Err c.in_err-deliver.field-0.0 = search rules in
    told_err _ _ _ same (quiet_undelivered Printed c.as_slice-3.result.now (g.H.Host.printed c.args.host.now)
    (g.H.Host.printed c.read_input.new.host) (g.H.Host.printed c.deliver.new.host) (g.H.Host.accesses c.read_input.new.host)
    (g.H.Host.accesses c.deliver.new.host) (message_of c.in_err-deliver.field-0.0) c.in_err-deliver.ensures.undelivered)

pub returns-clause-done : goal.returns-clause-done
returns-clause-done g c = (
  refl,
  prints c.args.printing.now _ _ c.as_slice-2.result.now _ _ c.as_slice-3.result.now _ _ _ _ _ _ _ _
      c.in_ok-types.ensures.silent c.in_ok-bytes.ensures.silent c.as_slice.ensures.value c.in_ok-types.ensures.known
      c.in_ok-bytes.ensures.read (search rules) (search rules) c.in_ok-out.ensures.made c.in_ok-deliver.ensures.delivered,
)
