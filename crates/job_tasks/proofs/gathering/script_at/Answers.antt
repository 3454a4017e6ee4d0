use Rattle.job_tasks.proofs.Cited.{◌≡◌, ◌∷◌, [], Err, rules, FailsAt, script_of, script_found, ends_err}
use Rattle.fork_tasks.specs.declared.fault.ToolFault.TheVariants.{HostMemory}
use Rattle.job_tasks.proofs.Stops.{script_ends, script_stop, stop_given}
use Rattle.job_tasks.proofs.Forks.{script_unread}
use Rattle.job_tasks.proofs.gathering.script_at.Goals as goal

pub returns-in_err-text-clause-script : goal.returns-in_err-text-clause-script
returns-in_err-text-clause-script g c =
    let same : c.from_residual.result ≡ Err c.in_err-text.field-0.0 = search rules in
    script_unread script_found c.args.path.now _ _ _ _ same c.in_err-text.ensures.unread

-- the text at the path was read

pub returns-in-Ok-clause-script : goal.returns-in-Ok-clause-script
returns-in-Ok-clause-script g c =
    (c.in_ok-text.text.items ∷ [], c.in_ok-text.ensures.read, search rules)

pub returns-in_err-script_fault-in-Err-clause-script : goal.returns-in_err-script_fault-in-Err-clause-script
returns-in_err-script_fault-in-Err-clause-script g c =
    let same : c.from_residual-in_err-script_fault-in-Err.result ≡ Err HostMemory = search rules in
    (c.in_ok-text.text.items ∷ [], ends_err _ _ _ _ same c.in_ok-text.ensures.read, stop_given script_found _ _ _ same tt)

pub returns-in_ok-script_fault-in-Err-clause-script : goal.returns-in_ok-script_fault-in-Err-clause-script
returns-in_ok-script_fault-in-Err-clause-script g c =
    let fails : FailsAt c.in-Err.fault.line c.in-Err.fault.kind (script_of c.in_ok-text.text.items) = search rules in (
      c.in_ok-text.text.items ∷ [],
      script_ends c.args.path.now c.in-Err.fault.line c.in-Err.fault.kind _ _ _ c.in_ok-script_fault-in-Err.ensures
          c.in_ok-text.ensures.read,
      script_stop _ _ _ _ _ _ fails c.in_ok-script_fault-in-Err.ensures,
    )
