use Rattle.job_tasks.proofs.Cited.{◌≡◌, ◌∷◌, ◌∙◌, [], Ok, Err, sym, ap, rules, message_of, fork_at, given_then, fork_found, file_found}
use Rattle.job_tasks.proofs.Cited.{ends_err}
use Rattle.fork_tasks.specs.declared.fault.ToolFault.TheVariants.{HostMemory}
use Rattle.job_tasks.proofs.Stops.{stop_given, stop_then}
use Rattle.job_tasks.proofs.gathering.file_at.Goals as goal

pub returns-in_err-fork-clause-file : goal.returns-in_err-fork-clause-file
returns-in_err-fork-clause-file g c =
    let h = c.in_err-fork.ensures.stop in
    let same : c.from_residual.result ≡ Err c.in_err-fork.field-0.0 = search rules in (
      h.0,
      ends_err _ _ _ _ same h.1,
      stop_given file_found _ _ _ same (stop_then (fork_at c.args.path.now h.0)
          (λ found. Ok (record { name = c.args.name.now.0.items; fork = found.0 }, found.1)) (message_of c.in_err-fork.field-0.0) h.2),
    )

pub returns-in_err-name_copy-clause-file : goal.returns-in_err-name_copy-clause-file
returns-in_err-name_copy-clause-file g c =
    let found = c.in_ok-fork.ensures.fork in
    let same : c.from_residual-in_err-name_copy.result ≡ Err HostMemory = search rules in
    (found.0 ∷ [], ends_err _ _ _ _ same found.1, stop_given file_found _ _ _ same tt)

pub returns-clause-file : goal.returns-clause-file
returns-clause-file g c =
    let found = c.in_ok-fork.ensures.fork in (
      found.0 ∷ [],
      found.1,
      ap (λ r. given_then r (λ found. Ok (record { name = c.args.name.now.0.items; fork = found.0 }, found.1))) found.2
          ∙ ap (λ name. Ok (record { name = name; fork = c.in_ok-fork.fork.fork.items }, (fork_found c.in_ok-fork.fork).1))
          (sym c.in_ok-name_copy.ensures),
    )
