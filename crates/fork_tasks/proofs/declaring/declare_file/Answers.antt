use Rattle.fork_tasks.proofs.Cited.{types_of, also_ok, message_of}
use Rattle.fork_tasks.proofs.Accesses.{also_err}
use Rattle.fork_tasks.proofs.Declared.{declares_one, undeclared_one}
use Rattle.fork_tasks.proofs.declaring.declare_file.Goals as goal

pub returns-clause-known : goal.returns-clause-known
returns-clause-known g c = also_ok _ _ c.declared_at.result (λ known h. declares_one c.args.path.now c.as_slice.result.now _ _
    (types_of known) _ _ c.in_ok-text.ensures.read c.as_slice.ensures.value h) c.declared_at.ensures.known

pub returns-clause-stopped : goal.returns-clause-stopped
returns-clause-stopped g c = also_err _ _ c.declared_at.result (λ fault h. undeclared_one c.args.path.now c.as_slice.result.now _ _ _ _
    (message_of fault) c.in_ok-text.ensures.read c.as_slice.ensures.value h) c.declared_at.ensures.fault
