use Rattle.job_tasks.proofs.Cited.{◌≡◌, ◌∷◌, [], Ok, Err, ap, rules, message_of, fork_at, given_then, gathered, with_system, ends_err}
use Rattle.job_tasks.proofs.Stops.{stop_given, stop_then}
use Rattle.job_tasks.proofs.gathering.add_system.Goals as goal

pub returns-in_err-found-clause-given : goal.returns-in_err-found-clause-given
returns-in_err-found-clause-given g c =
    let h = c.in_err-found.ensures.stop in
    let same : c.from_residual.result ≡ Err c.in_err-found.field-0.0 = search rules in (
      h.0,
      ends_err _ _ _ _ same h.1,
      stop_given _ _ _ _ same (stop_then (fork_at c.args.path.now h.0)
          (λ found. Ok (with_system found (gathered c.args.inputs.now))) (message_of c.in_err-found.field-0.0) h.2),
    )

pub returns-clause-given : goal.returns-clause-given
returns-clause-given g c =
    let told = c.in_ok-found.ensures.fork in (
      told.0 ∷ [],
      told.1,
      ap (λ r. given_then r (λ found. Ok (with_system found (gathered c.args.inputs.now)))) told.2,
    )
