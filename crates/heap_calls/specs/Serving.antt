use Rattle.std.specs.Prelude.{ℕ, Result, Ok, Err, List, length, replicate}
use Rattle.mac_words.specs.declared.code.OsErr.{OsErr}
use Rattle.mac_words.specs.Told.{Told, Refused}
use Rattle.heap_calls.specs.State.{State, Memory}
use Rattle.heap_calls.specs.Answer.{Answer, noting, searching, moving}

-- How a call is served: what is told of its answer, and what is counted.

-- The bytes of a new handle's block: so many bytes 0, or a copy of these bytes.
-- See decision 233 (PtrToHand is NewHandle with a copy of bytes).
pub data NewBytes : Type 0 where
  Zeros : (size : ℕ) → NewBytes
  CopyOf : (bytes : List ℕ) → NewBytes

-- How many there are, and which.
abbrev pub new_size : NewBytes → ℕ
new_size (Zeros n) = n
new_size (CopyOf x) = length x

abbrev pub new_bytes : NewBytes → List ℕ
new_bytes (Zeros n) = replicate n 0
new_bytes (CopyOf x) = x

-- A reply as a transcript prints it.
abbrev pub told_as : {T : Type 0} → (T → Told) → Result T OsErr → Told
told_as tell (Ok value) = tell value
told_as tell (Err code) = Refused code

-- A reply as a transcript prints it, and the heap after the call.
abbrev pub telling : {T : Type 0} → (T → Told) → Result T OsErr × Memory → Told × Memory
telling tell answer = (told_as tell answer.0, answer.1)

-- A call that sets the code that MemError returns, and makes this number of searches for room.
abbrev pub seeking : {T : Type 0} → (State → ℕ) → (State → Answer T) → Memory → Result T OsErr × Memory
seeking count call m = searching (count m.heap) (noting call m)

-- A call that sets the code that MemError returns, makes this number of searches for room, and by packing runs moves
-- this number of blocks down.
abbrev pub packing : {T : Type 0} → (State → ℕ) → (State → ℕ) → (State → Answer T) → Memory → Result T OsErr × Memory
packing moves count call m = moving (moves m.heap) (seeking count call m)
