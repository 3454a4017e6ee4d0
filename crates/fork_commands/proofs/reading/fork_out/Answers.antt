use Rattle.fork_commands.proofs.Cited.{◌≡◌, ◌∙◌, None, Ok, Err, ap, sym, unwrapped, bytes_of, opened, fork_found}
use Rattle.fork_commands.proofs.Opens.{decoded_of, stands, plain_fork}
use Rattle.fork_commands.proofs.reading.fork_out.Goals as goal

pub returns-in_ok-copied-in-Ok-clause-fork : goal.returns-in_ok-copied-in-Ok-clause-fork
returns-in_ok-copied-in-Ok-clause-fork c =
    let none : opened (bytes_of c.args.file) ≡ Ok None = stands c.args.file c.requires ∙ ap (λ f. Ok (decoded_of f)) c.in-Plain.is in
    plain_fork (bytes_of c.args.file) (Ok c.in_ok-copied-in-Ok.field-0.items) none
    (ap (λ f. fork_found (unwrapped (bytes_of f))) c.in-Plain.is
    ∙ (ap fork_found c.in-Ok.ensures.fork ∙ ap Ok (sym c.in_ok-copied-in-Ok.ensures)))

pub returns-in-Err-clause-fault : goal.returns-in-Err-clause-fault
returns-in-Err-clause-fault c =
    let none : opened (bytes_of c.args.file) ≡ Ok None = stands c.args.file c.requires ∙ ap (λ f. Ok (decoded_of f)) c.in-Plain.is in
    plain_fork (bytes_of c.args.file) (fork_found (Err c.in-Err.fault)) none
    (ap (λ f. fork_found (unwrapped (bytes_of f))) c.in-Plain.is ∙ ap fork_found c.in-Err.ensures.fault)
