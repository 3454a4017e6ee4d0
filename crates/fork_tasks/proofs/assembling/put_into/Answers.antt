use Rattle.fork_tasks.proofs.Cited.{also_ok, message_of}
use Rattle.fork_tasks.proofs.Accesses.{also_err}
use Rattle.fork_tasks.proofs.Assembled.{puts_of, unfit_of}
use Rattle.fork_tasks.proofs.assembling.put_into.Goals as goal

pub returns-clause-puts : goal.returns-clause-puts
returns-clause-puts g c = also_ok _ _ c.with_fork_at.result (λ out h. puts_of c.args.path.now c.args.fork.now c.as_slice.result.now _
    out.items _ _ c.in_ok-file.ensures.read c.as_slice.ensures.value h) c.with_fork_at.ensures.made

pub returns-clause-stopped : goal.returns-clause-stopped
returns-clause-stopped g c = also_err _ _ c.with_fork_at.result (λ fault h. unfit_of c.args.path.now c.args.fork.now
    c.as_slice.result.now _ _ _ (message_of fault) c.in_ok-file.ensures.read c.as_slice.ensures.value h)
    c.with_fork_at.ensures.fault
