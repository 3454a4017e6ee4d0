use Rattle.job_tasks.proofs.Cited.{◌≡◌, ◌∷◌, ◌∙◌, [], Err, sym, rules, message_of, none, ends_err, fork_ends, stops_from, told_err}
use Rattle.job_tasks.proofs.Cited.{unread_stops}
use Rattle.job_tasks.proofs.Stops.{unread_given}
use Rattle.job_tasks.proofs.Forks.{fork_stop, fork_unread}
use Rattle.job_tasks.proofs.gathering.fork_at.Goals as goal

pub returns-in_err-bytes-clause-stop : goal.returns-in_err-bytes-clause-stop
returns-in_err-bytes-clause-stop g c =
    let same : c.from_residual.result ≡ Err c.in_err-bytes.field-0.0 = search rules in
    fork_unread c.args.path.now _ _ _ _ same c.in_err-bytes.ensures.unread

pub returns-in-Ok-clause-fork : goal.returns-in-Ok-clause-fork
returns-in-Ok-clause-fork g c = (c.in_ok-bytes.bytes.items, c.in_ok-bytes.ensures.read, c.in-Ok.ensures.fork)

pub returns-in-Err-clause-stop : goal.returns-in-Err-clause-stop
returns-in-Err-clause-stop g c = (
  c.in_ok-bytes.bytes.items ∷ [],
  fork_ends c.args.path.now _ _ _ (message_of c.in-Err.fault) c.in-Err.ensures.fault c.in_ok-bytes.ensures.read,
  fork_stop c.args.path.now c.in_ok-bytes.bytes.items (message_of c.in-Err.fault) c.in-Err.ensures.fault,
)
