use Rattle.applications.proofs.Cited.{◌≡◌, ◌≢◌, ℕ, Result, Ok, Err, refl, sym, ap, IfOk, OnOk, AllocError, OsErr, Told, Given, Memory}
use Rattle.applications.proofs.Cited.{IsAnswer, Refusal, HostMemory, GivenAs, TellsTold}
use Rattle.heap_calls.specs.Serving.{telling}
use Rattle.heap_calls.specs.declared.refusal.Refusal.TheVariants.{Code}
use Rattle.applications.specs.declared.tried.Tried.{Tried}

-- What a try tells and leaves whose call returns a new handle or pointer.

-- the answer of a row is told
pub given-told : (answer : Result ℕ OsErr × Memory) (result : Result ℕ Refusal) (after : Memory)
    (try : Result Tried AllocError) → IsAnswer answer result after
    → IfOk try (λ tried. (told : Told) → GivenAs Given result told → TellsTold tried told)
    → OnOk try (result ≢ Err HostMemory) → IfOk try (λ tried. TellsTold tried (telling Given answer).0)
given-told answer result after (Err e) is tells host = tt
given-told answer (Ok n) after (Ok t) is tells host = tells _ (ap (λ a. (telling Given a).0) is)
given-told answer (Err (Code code)) after (Ok t) is tells host = tells _ (ap (λ a. (telling Given a).0) is)
given-told answer (Err HostMemory) after (Ok t) is tells host = absurd (host refl)

-- the memory is that after the row
pub given-after : (answer : Result ℕ OsErr × Memory) (result : Result ℕ Refusal) (after : Memory)
    (try : Result Tried AllocError) → IsAnswer answer result after → OnOk try (result ≢ Err HostMemory)
    → OnOk try (after ≡ (telling Given answer).1)
given-after answer result after (Err e) is host = tt
given-after answer (Ok n) after (Ok t) is host = sym (ap (λ a. (telling Given a).1) is)
given-after answer (Err (Code code)) after (Ok t) is host = sym (ap (λ a. (telling Given a).1) is)
given-after answer (Err HostMemory) after (Ok t) is host = absurd (host refl)
