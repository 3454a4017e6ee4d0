use Rattle.fork_commands.proofs.Cited.{◌≡◌, ◌∙◌, None, Ok, ap, data_fork_in, bytes_of, opened}
use Rattle.fork_commands.proofs.Opens.{decoded_of, stands}
use Rattle.fork_commands.proofs.Told.{data_plain, data_damaged}
use Rattle.fork_commands.proofs.parting.data_in.Goals as goal

pub returns-in-Ok-clause-found : goal.returns-in-Ok-clause-found
returns-in-Ok-clause-found c =
    let none : opened (bytes_of c.args.file.now) ≡ Ok None = stands c.args.file.now c.requires ∙ ap (λ f. Ok (decoded_of f)) c.in-Plain.is in
    data_plain (bytes_of c.args.file.now) _ none
    (ap (λ f. data_fork_in (bytes_of f)) c.in-Plain.is ∙ c.in-Ok.ensures.found)

pub returns-in-Err-clause-fault : goal.returns-in-Err-clause-fault
returns-in-Err-clause-fault c =
    let none : opened (bytes_of c.args.file.now) ≡ Ok None = stands c.args.file.now c.requires ∙ ap (λ f. Ok (decoded_of f)) c.in-Plain.is in
    data_damaged (bytes_of c.args.file.now) c.in-Err.fault none
    (ap (λ f. data_fork_in (bytes_of f)) c.in-Plain.is ∙ c.in-Err.ensures.fault)
