use Rattle.std.specs.Prelude.{◌≡◌, ℕ, ◌==◌, ◌++◌, Some, Ok, List, [], ◌∷◌, take, drop, replicate, if◌then◌else◌}
use Rattle.block_store.specs.Block.{content_of, resized_content}
use Rattle.memory_windows.specs.Writes.{written}
use Rattle.heap_calls.specs.State.{State}
use Rattle.heap_calls.specs.Answer.{Held}
use Rattle.heap_calls.specs.Pointers.{block_named}
use Rattle.heap_calls.specs.Table.{Asked, NewHandle, SetHandleSize, ReallocateHandle, HandToHand, HandAndHand}
use Rattle.mac_words.specs.Told.{Told, Done, Given, Offset}
use Rattle.heap_calls.specs.Munging.{found_in, munged}
use Rattle.heap_calls.specs.Serving.{new_bytes}
use Rattle.heap_calls.specs.Table.{PtrAndHand, PtrToXHand, Munger, NewPtr, SetPtrSize, BlockMove, Put, PutPtr}

-- The bytes last put into each handle's and each pointer's block, computed from the history of calls alone, without
-- any block.

-- A call, and its reply.
pub record HistoryEntry : Type 0 where
  pub asked : Asked
  pub told : Told

-- The bytes last put into each block, after one more call.
abbrev pub put_by : Asked → Told → (ℕ → List ℕ) → ℕ → List ℕ
put_by (NewHandle new) (Given k) bytes h = if k == h then new_bytes new else bytes h
put_by (SetHandleSize (Some k) n) Done bytes h = if k == h then resized_content n (bytes k) else bytes h
put_by (Put (Some k) from x) Done bytes h = if k == h then written from x (bytes k) else bytes h
put_by (PutPtr (Some k) from x) Done bytes h = if k == h then written from x (bytes k) else bytes h
put_by (ReallocateHandle (Some k) n) Done bytes h = if k == h then replicate n 0 else bytes h
put_by (HandToHand (Some a)) (Given k) bytes h = if k == h then bytes a else bytes h
put_by (HandAndHand (Some a) (Some b)) Done bytes h = if b == h then bytes b ++ bytes a else bytes h
put_by (PtrAndHand (Some k) x) Done bytes h = if k == h then bytes k ++ x else bytes h
put_by (PtrToXHand (Some k) x) Done bytes h = if k == h then x else bytes h
put_by (Munger (Some k) i old x) (Offset at) bytes h =
    if k == h then munged (found_in old i (bytes k)) x (bytes k) else bytes h
put_by (BlockMove (Some a) i (Some b) j n) Done bytes h =
    if b == h then written j (take n (drop i (bytes a))) (bytes b) else bytes h
put_by (NewPtr n) (Given k) bytes h = if k == h then replicate n 0 else bytes h
put_by (SetPtrSize (Some k) n) Done bytes h = if k == h then resized_content n (bytes k) else bytes h
put_by asked told bytes h = bytes h

-- The bytes last put into each block by the calls of a history, from those before the history on.
abbrev pub last_put_from : (ℕ → List ℕ) → List HistoryEntry → ℕ → List ℕ
last_put_from bytes [] = bytes
last_put_from bytes (e ∷ entries) = last_put_from (put_by e.asked e.told bytes) entries

-- The bytes last put into each block by the calls of a history.
abbrev pub last_put : List HistoryEntry → ℕ → List ℕ
last_put entries = last_put_from (λ h. []) entries

-- Each handle's and each pointer's block holds these bytes.
abbrev pub Holds : State → (ℕ → List ℕ) → Type 0
Holds s bytes = (h : ℕ) (held : Held) → block_named (Some h) s ≡ Ok held → content_of held.at.here ≡ bytes h
