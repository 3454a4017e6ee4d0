use Rattle.fork_tasks.proofs.Cited.{types_of, also_ok, message_of}
use Rattle.fork_tasks.proofs.Accesses.{also_err}
use Rattle.fork_tasks.proofs.Declared.{knows_all, unknown_all}
use Rattle.fork_tasks.proofs.declaring.known_types.Goals as goal

pub returns-clause-known : goal.returns-clause-known
returns-clause-known g c = also_ok _ _ c.declare_files.result
    (λ known h. knows_all _ _ (types_of known) _ _ c.in_ok-types.ensures h) c.declare_files.ensures.known

pub returns-clause-stopped : goal.returns-clause-stopped
returns-clause-stopped g c = also_err _ _ c.declare_files.result
    (λ fault h. unknown_all _ _ _ _ (message_of fault) c.in_ok-types.ensures h) c.declare_files.ensures.stopped
