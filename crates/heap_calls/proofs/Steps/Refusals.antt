use Rattle.heap_calls.proofs.Cited.{◌≡◌, ◌≤◌, Bool, true, false, length, refl, ap, cond, arith, Some, None, Result, Ok, Err, none-some}
use Rattle.heap_calls.proofs.Cited.{OsErr, State, Memory, nothing, slotted_zone, staying, has_block, refill_inside, new_inside}
use Rattle.heap_calls.proofs.Cited.{new_empty_inside, Step, NewFilled, NewEmpty, Refill, Release, Cast, stepped, refusal, refusal_of}
use Rattle.heap_calls.proofs.Cited.{left_zone, Relocatable, Handle, Put, Sought, seek, if_fits, seek_slot, fits-refused, seek-refused}
use Rattle.heap_calls.proofs.Cited.{heap_after, is_unused, ◌++◌, ◌∷◌, []}
use Rattle.heap_calls.proofs.Promises.RefusedCalls.{Leaves, refused-path, changed-leaves, made-leaves}
use Rattle.heap_calls.proofs.Tries.Keeping.{slotted-le}
use Rattle.heap_calls.proofs.Steps.Ways.{refill-goes}

-- What a refused step leaves of a heap.

-- the code of a refusal is that of its error
refusal-err : {T : Type 0} (r : Result T OsErr) (code : OsErr) → refusal_of r ≡ Some code → r ≡ Err code
refusal-err (Ok value) code e = absurd (none-some code e)
refusal-err (Err other) code e = cc

-- a refused step leaves the zone as it was, but for a block of slots, and the names
pub step-refused : (step : Step) (m : Memory) (code : OsErr) → refusal step m ≡ Some code
    → (stepped step m).heap ≡ record m.heap { zone = left_zone step m.heap }
step-refused (NewFilled role flags bytes) m = λ code e.
    let new = Relocatable (length m.heap.names) flags bytes in
    made-leaves (Handle role) nothing (λ z. if_fits (length bytes) (seek (Put new) nothing z)) m.heap
    (λ z. fits-refused nothing (length bytes) (seek (Put new) nothing z) (seek-refused nothing (Put new) z)) code
    (refusal-err (new_inside role flags bytes m).0 code e)
step-refused (NewEmpty role) m = λ code e.
    refused-path nothing (seek_slot (is_unused m.heap) nothing m.heap.zone) m.heap (slotted_zone nothing m.heap)
    (length m.heap.names) (λ t. cond t (m.heap.names ++ Handle role ∷ []) m.heap.names) refl (λ none. refl) code
    (refusal-err (new_empty_inside role m).0 code e)
step-refused (Refill h flags bytes) m = by_block (has_block h m.heap)
  where
    s : State
    s = m.heap

    sought : Sought
    sought = seek (Put (Relocatable h flags bytes)) nothing s.zone

    by_block : (t : Bool) → (code : OsErr) → cond t None (refusal_of (refill_inside h flags bytes m).0) ≡ Some code
        → (cond t m (refill_inside h flags bytes m).1).heap ≡ s
    by_block true = λ code e. refl
    by_block false = λ code e. refill-goes (λ d. Leaves s.zone s (d.reply, heap_after d s)) h flags bytes s
        (λ why code e. refl)
        (λ is. changed-leaves nothing (if_fits (length bytes) sought) s (fits-refused nothing (length bytes) sought
        (seek-refused nothing (Put (Relocatable h flags bytes)) s.zone))) code
        (refusal-err (refill_inside h flags bytes m).0 code e)
step-refused (Release h) m = λ code e. absurd (none-some code e)
step-refused (Cast change h) m = λ code e. absurd (none-some code e)

left-le : (step : Step) (s : State) → staying (left_zone step s) ≤ staying s.zone
left-le (NewFilled role flags bytes) s = slotted-le nothing s
left-le (NewEmpty role) s = slotted-le nothing s
left-le (Refill h flags bytes) s = omega arith
left-le (Release h) s = omega arith
left-le (Cast change h) s = omega arith

-- no more stays after a refused step
pub step-no_more : (step : Step) (m : Memory) (code : OsErr) → refusal step m ≡ Some code
    → staying (stepped step m).heap.zone ≤ staying m.heap.zone
step-no_more step m code refused =
    let left = left-le step m.heap in
    let z : staying (stepped step m).heap.zone ≡ staying (left_zone step m.heap) =
    ap (λ (s : State). staying s.zone) (step-refused step m code refused) in
    omega arith
