use Rattle.job_tasks.proofs.Cited.{◌≡◌, Err, rules, part_seen, path_of, forks_seen}
use Rattle.job_tasks.proofs.Stops.{stop_given}
use Rattle.job_tasks.proofs.Loaded.{part_stopped}
use Rattle.job_tasks.proofs.loading.add_part.Goals as goal

-- the fork was not found
pub returns-in_err-found : goal.returns-in_err-found
returns-in_err-found c =
    let at : c.path.result.now ≡ path_of (part_seen c.args.part.now) = search rules in
    let copy : c.in_ok-copied.field-0.items ≡ c.args.bytes.now = search rules in
    let same : c.from_residual-in_err-found.result ≡ Err c.in_err-found.field-0.0 = search rules in
    stop_given _ _ _ _ same (part_stopped (forks_seen c.args.forks.now) (part_seen c.args.part.now) _ _ _ _ at copy
    c.in_err-found.ensures.fault)
