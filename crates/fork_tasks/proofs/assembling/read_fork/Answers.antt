use Rattle.fork_tasks.proofs.Cited.{also_ok, message_of}
use Rattle.fork_tasks.proofs.Accesses.{also_err}
use Rattle.fork_tasks.proofs.Assembled.{forks_of, unforked_of}
use Rattle.fork_tasks.proofs.assembling.read_fork.Goals as goal

pub returns-clause-forks : goal.returns-clause-forks
returns-clause-forks g c = also_ok _ _ c.fork_stated.result (λ fork h. forks_of c.args.path.now _ c.as_slice.result.now _ fork.items _ _ _
    c.in_ok-text.ensures.read c.as_slice.ensures.value h) c.fork_stated.ensures.states

pub returns-clause-stopped : goal.returns-clause-stopped
returns-clause-stopped g c = also_err _ _ c.fork_stated.result (λ fault h. unforked_of c.args.path.now _ c.as_slice.result.now _ _ _ _
    (message_of fault) c.in_ok-text.ensures.read c.as_slice.ensures.value h) c.fork_stated.ensures.stopped
