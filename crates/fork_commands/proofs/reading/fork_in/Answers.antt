use Rattle.fork_commands.proofs.Cited.{◌≡◌, ◌∙◌, None, Ok, Err, ap, sym, wrapping_of, unwrapped, bytes_of, opened, fork_found}
use Rattle.fork_commands.specs.declared.opening.Container.TheVariants as container
use Rattle.fork_commands.proofs.Opens.{decoded_of, stands, plain_fork, plain_container}
use Rattle.fork_commands.proofs.reading.fork_in.Goals as goal

pub returns-in-Ok-clause-container : goal.returns-in-Ok-clause-container
returns-in-Ok-clause-container c =
    let none : opened (bytes_of c.args.file.now) ≡ Ok None = stands c.args.file.now c.requires ∙ ap (λ f. Ok (decoded_of f)) c.in-Plain.is in
    ap container.Wrapped (c.in-Ok.ensures.wrapping ∙ ap (λ f. wrapping_of (bytes_of f)) (sym c.in-Plain.is))
    ∙ sym (plain_container (bytes_of c.args.file.now) none)

pub returns-in-Ok-clause-fork : goal.returns-in-Ok-clause-fork
returns-in-Ok-clause-fork c =
    let none : opened (bytes_of c.args.file.now) ≡ Ok None = stands c.args.file.now c.requires ∙ ap (λ f. Ok (decoded_of f)) c.in-Plain.is in
    plain_fork (bytes_of c.args.file.now) (Ok c.in-Ok.found.fork.now) none
    (ap (λ f. fork_found (unwrapped (bytes_of f))) c.in-Plain.is ∙ ap fork_found c.in-Ok.ensures.fork)

pub returns-in-Err-clause-fault : goal.returns-in-Err-clause-fault
returns-in-Err-clause-fault c =
    let none : opened (bytes_of c.args.file.now) ≡ Ok None = stands c.args.file.now c.requires ∙ ap (λ f. Ok (decoded_of f)) c.in-Plain.is in
    plain_fork (bytes_of c.args.file.now) (fork_found (Err c.in-Err.fault)) none
    (ap (λ f. fork_found (unwrapped (bytes_of f))) c.in-Plain.is ∙ ap fork_found c.in-Err.ensures.fault)
