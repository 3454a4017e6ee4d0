-- The forks that an application is given, one part after the other.
use Rattle.job_tasks.proofs.Cited.{◌≡◌, ◌∷◌, ◌∙◌, ℕ, List, Result, Ok, sym, ap, subst, fork_in, Message, IsForkFault, Found, fork_told}
use Rattle.job_tasks.proofs.Cited.{given_then, IsStop, AppFork, Given, path_of, with_found, with_part, with_parts}
use Rattle.job_tasks.proofs.Stops.{stop_then}
use Rattle.job_tasks.proofs.Forks.{fork_stop}

-- it was not
pub part_stopped : (given : Given) (p : AppFork) (path bytes copy : List ℕ) (message : Message) → path ≡ path_of p
    → copy ≡ bytes → IsForkFault path (fork_in copy) message → IsStop (with_part given p bytes) message
part_stopped given p path bytes copy message at same fault =
    subst (λ q. IsStop (given_then (fork_told q bytes (fork_in bytes)) (λ found. Ok (with_found p found given))) message) at
    (stop_then (fork_told path bytes (fork_in bytes)) (λ found. Ok (with_found p found given)) message
    (fork_stop path bytes message (subst (λ b. IsForkFault path (fork_in b) message) same fault)))

-- a part and those after it
pub one_part : (given next : Given) (p : AppFork) (parts : List AppFork) (bytes : List ℕ) (texts : List (List ℕ))
    → with_part given p bytes ≡ Ok next → with_parts given (p ∷ parts) (bytes ∷ texts) ≡ with_parts next parts texts
one_part given next p parts bytes texts is = ap (λ r. given_then r (λ g. with_parts g parts texts)) is

pub one_stops : (given : Given) (p : AppFork) (parts : List AppFork) (bytes : List ℕ) (texts : List (List ℕ))
    (message : Message) → IsStop (with_part given p bytes) message → IsStop (with_parts given (p ∷ parts) (bytes ∷ texts)) message
one_stops given p parts bytes texts message stops =
    stop_then (with_part given p bytes) (λ g. with_parts g parts texts) message stops

-- a part more, of those to come
pub part_next : (given next : Given) (p : AppFork) (parts more : List AppFork) (bytes : List ℕ) (texts later : List (List ℕ))
    (all : Result Given Message) → parts ≡ p ∷ more → texts ≡ bytes ∷ later → with_part given p bytes ≡ Ok next
    → with_parts given parts texts ≡ all → with_parts next more later ≡ all
part_next given next p parts more bytes texts later all first text is come =
    sym (one_part given next p more bytes later is) ∙ subst (λ t. with_parts given (p ∷ more) t ≡ all) text
    (subst (λ l. with_parts given l texts ≡ all) first come)

-- a part stops all
pub part_ends : (given : Given) (p : AppFork) (parts more : List AppFork) (bytes : List ℕ) (texts later : List (List ℕ))
    (all : Result Given Message) (message : Message) → parts ≡ p ∷ more → texts ≡ bytes ∷ later
    → IsStop (with_part given p bytes) message → with_parts given parts texts ≡ all → IsStop all message
part_ends given p parts more bytes texts later all message first text stops come =
    subst (λ r. IsStop r message) (subst (λ t. with_parts given (p ∷ more) t ≡ all) text
    (subst (λ l. with_parts given l texts ≡ all) first come)) (one_stops given p more bytes later message stops)
