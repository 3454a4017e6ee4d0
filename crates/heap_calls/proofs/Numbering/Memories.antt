use Rattle.heap_calls.proofs.Cited.{◌≡◌, ◌∙◌, ap, Result, OsErr, Memory, CountedMemory}

-- A heap's memory, where the heap is known with the count of its placings.

pub memory_as : {held value : CountedMemory} → held ≡ value → held.memory ≡ value.memory
memory_as is = ap (λ (m : CountedMemory). m.memory) is

pub placings_as : {held value : CountedMemory} → held ≡ value → held.placings ≡ value.placings
placings_as is = ap (λ (m : CountedMemory). m.placings) is

pub counted_as : {held value : CountedMemory} → held.memory ≡ value.memory → held.placings ≡ value.placings → held ≡ value
counted_as {held} {value} same placed =
    ap (λ m. let h : CountedMemory = record { memory = m; placings = held.placings } in h) same
    ∙ ap (λ n. let h : CountedMemory = record { memory = value.memory; placings = n } in h) placed

-- the same answer, where the reply is known
pub reply-as : {T : Type 0} {answer : Result T OsErr × Memory} {reply known : Result T OsErr} {after : Memory}
    → answer ≡ (reply, after) → reply ≡ known → answer ≡ (known, after)
reply-as {after = after} is same = is ∙ ap (λ r. (r, after)) same
