use Rattle.fork_tasks.proofs.Cited.{◌≡◌, Err, rules, types_of, also_ok, message_of}
use Rattle.fork_tasks.specs.Linting.{Unknown}
use Rattle.fork_tasks.proofs.Accesses.{also_err, told_err}
use Rattle.fork_tasks.proofs.Faults.{quiet_silent, quiet_from}
use Rattle.fork_tasks.proofs.Linted.{lints, same_paths, unlinted}
use Rattle.fork_tasks.proofs.linting.print_faults.Goals as goal

pub returns-in_err-types-clause-undone : goal.returns-in_err-types-clause-undone
returns-in_err-types-clause-undone g c =
    let same : c.from_residual.result ≡ Err c.in_err-types.field-0.0 = search rules in
    told_err _ _ _ same (Unknown c.in_err-types.ensures.silent c.in_err-types.ensures.stopped)

pub returns-in_err-types-clause-quiet : goal.returns-in_err-types-clause-quiet
returns-in_err-types-clause-quiet g c =
    let same : c.from_residual.result ≡ Err c.in_err-types.field-0.0 = search rules in
    told_err _ _ _ same (quiet_silent _ _ _ c.in_err-types.ensures.silent)

pub returns-clause-done : goal.returns-clause-done
returns-clause-done g c = also_ok _ _ c.print_lines.result
    (λ ending h. lints c.args.linting.now _ (types_of c.in_ok-types.types) ending _ _ _ _ _ _ c.in_ok-types.ensures.silent
    (same_paths _ _ c.as_slice.ensures.value) c.in_ok-types.ensures.known h) c.print_lines.ensures.done

pub returns-clause-undone : goal.returns-clause-undone
returns-clause-undone g c = also_err _ _ c.print_lines.result
    (λ fault h. unlinted c.args.linting.now _ (types_of c.in_ok-types.types) _ _ _ _ _ _ (message_of fault)
    c.in_ok-types.ensures.silent (same_paths _ _ c.as_slice.ensures.value) c.in_ok-types.ensures.known h)
    c.print_lines.ensures.undone

pub returns-clause-quiet : goal.returns-clause-quiet
returns-clause-quiet g c = also_err _ _ c.print_lines.result
    (λ fault h. quiet_from _ _ _ (message_of fault) c.in_ok-types.ensures.silent h) c.print_lines.ensures.quiet
