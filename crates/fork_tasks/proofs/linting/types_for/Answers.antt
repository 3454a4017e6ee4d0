use Rattle.fork_tasks.proofs.Cited.{refl, sym, ◌∙◌, types_of, also_ok, message_of}
use Rattle.fork_tasks.proofs.Accesses.{also_err}
use Rattle.fork_tasks.proofs.Linted.{known_needed, known_spared, same_paths, unknown_all}
use Rattle.fork_tasks.proofs.linting.types_for.Goals as goal

pub returns-then-needs_types-clause-known : goal.returns-then-needs_types-clause-known
returns-then-needs_types-clause-known g c = also_ok _ _ c.known_types.result
    (λ known h. known_needed c.args.linting.now _ (types_of known) _ _ (sym c.needs_types.ensures ∙ c.if-needs_types.true)
    (same_paths _ _ c.as_slice.ensures.value) h) c.known_types.ensures.known

pub returns-then-needs_types-clause-stopped : goal.returns-then-needs_types-clause-stopped
returns-then-needs_types-clause-stopped g c = also_err _ _ c.known_types.result
    (λ fault h. unknown_all c.args.linting.now _ _ _ (message_of fault) (same_paths _ _ c.as_slice.ensures.value) h)
    c.known_types.ensures.stopped

pub returns-else-needs_types-clause-known : goal.returns-else-needs_types-clause-known
returns-else-needs_types-clause-known g c =
    known_spared c.args.linting.now _ _ _ (sym c.needs_types.ensures ∙ c.if-needs_types.false) c.new.ensures refl
