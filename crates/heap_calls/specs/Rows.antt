use Rattle.std.specs.Prelude.{ℕ, ℤ, pos, negsuc, ◌+◌, ◌-◌, Bool, ◌||◌, Option, Some, None, Result, Ok, Err, List, []}
use Rattle.std.specs.Prelude.{◌∷◌, ◌++◌, length, replicate, nat_le, if◌then◌else◌}
use Rattle.mac_words.specs.Size.{phys}
use Rattle.mac_words.specs.declared.code.OsErr.{OsErr}
use Rattle.mac_words.specs.declared.code.TheConstants.OsErr.{MEM_FULL, PROFILE, PURGED}
use Rattle.block_store.specs.Block.{Block, Free, Nonrelocatable, Masters, Relocatable, content_of, is_relocatable, no_flags}
use Rattle.block_store.specs.Room.{spot}
use Rattle.block_store.specs.Grow.{freed}
use Rattle.moves.specs.Moves.{Move, Put, Base, Drop, Write, Did, did}
use Rattle.moves.specs.Seeking.{Sought, no_room, seek, if_fits, seek_slot, then_seek, seek_size, around}
use Rattle.heap_calls.specs.State.{Plain, Meaning, Handle, Pointer, State, Memory}
use Rattle.heap_calls.specs.Slots.{is_unused}
use Rattle.heap_calls.specs.Answer.{Answer, Held, look_up, handle_at, nothing, silent, searching, moving}
use Rattle.heap_calls.specs.Serving.{NewBytes, Zeros, CopyOf, new_size, new_bytes, packing}
use Rattle.heap_calls.specs.Munging.{Target, found_in, behind}
use Rattle.heap_calls.specs.Pointers.{pointed_at}
use Rattle.heap_calls.specs.Purging.{is_loose}
use Rattle.heap_calls.specs.Gone.{Gone, told_blocks}
use Rattle.heap_calls.specs.declared.munging.Occurrence.{Occurrence}

-- The calls that search for room, each as one path of moves. Inside Macintosh: Memory, chapter 2, "Memory Manager
-- Routines".

-- What a call did: its reply, or the code with which it is refused; what the numbers stand for after it; the blocks that
-- its searches spare; and its path. The heap after the call, its searches, its moves, and what it purges are read off the
-- path.
pub record Done (T : Type 0) : Type 0 where
  pub reply : Result T OsErr
  pub names : List Meaning
  pub spared : Block → Bool
  pub path : List Move

-- What the path of a call does in a heap.
abbrev pub work : {T : Type 0} → Done T → State → Did
work d s = did d.spared d.path s.zone

-- The heap after the call.
abbrev pub heap_after : {T : Type 0} → Done T → State → State
heap_after d s = record { zone = (work d s).zone; names = d.names }

-- The blocks that the call purges.
abbrev pub purged_by : {T : Type 0} → Done T → State → List Gone
purged_by d s = told_blocks (length s.names) (work d s).gone

-- The answer, the searches for room, the blocks that are moved down, and those that are purged, of what does a call.
abbrev pub answer_made : {T : Type 0} → (State → Done T) → State → Answer T
answer_made does s = ((does s).reply, heap_after (does s) s)

abbrev pub searches_made : {T : Type 0} → (State → Done T) → State → ℕ
searches_made does s = (work (does s) s).searches

abbrev pub moves_made : {T : Type 0} → (State → Done T) → State → ℕ
moves_made does s = (work (does s) s).lowered

abbrev pub purges_made : {T : Type 0} → (State → Done T) → State → List Gone
purges_made does s = purged_by (does s) s

-- A call that sets the code that MemError returns; its searches and moves are counted.
abbrev pub doing : {T : Type 0} → (State → Done T) → Memory → Result T OsErr × Memory
doing does m = packing (moves_made does) (searches_made does) (answer_made does) m

-- The same of a call that does not set it.
abbrev pub doing_silently : {T : Type 0} → (State → Done T) → Memory → Result T OsErr × Memory
doing_silently does m =
    moving (moves_made does m.heap) (searching (searches_made does m.heap) (silent (answer_made does) m))

-- A refusal with a code, which changes nothing.
abbrev pub refused : {T : Type 0} → OsErr → State → Done T
refused code s = record { reply = Err code; names = s.names; spared = nothing; path = [] }

-- What a call did for what was found, or a refusal with the code that says why nothing was found.
abbrev pub for_found : {A T : Type 0} → Result A OsErr → State → (A → Done T) → Done T
for_found (Err code) s call = refused code s
for_found (Ok found) s call = call found

-- The reply where room was found; -108 (memFullErr) where there is none.
abbrev pub reply_of : {T : Type 0} → Bool → T → Result T OsErr
reply_of found value = if found then Ok value else Err MEM_FULL

-- The next number, which stands for `name`, where room was found.
abbrev pub given : Meaning → (Block → Bool) → Sought → State → Done ℕ
given name spared sought s = record {
  reply = reply_of sought.found (length s.names);
  names = if sought.found then s.names ++ name ∷ [] else s.names;
  spared = spared;
  path = sought.path;
}

-- A call that changes the zone where room was found.
abbrev pub changed : (Block → Bool) → Sought → State → Done (Unit {0})
changed spared sought s =
    record { reply = reply_of sought.found tt; names = s.names; spared = spared; path = sought.path }

-- A new handle: for its master pointer, and then for its block, room is sought.
abbrev pub made : Meaning → (Block → Bool) → (List Block → Sought) → State → Done ℕ
made name spared block s =
    given name spared (then_seek spared s.zone (seek_slot (is_unused s) spared s.zone) block) s

-- The block of the next handle, with these bytes.
abbrev pub next_block : List ℕ → State → Block
next_block bytes s = Relocatable (length s.names) no_flags bytes

-- A new handle with a block of new bytes.
abbrev pub new_handle_with : NewBytes → State → Done ℕ
new_handle_with new s = made (Handle Plain) nothing (λ zone. if_fits (new_size new)
    (seek (Put (next_block (new_bytes new) s)) nothing zone)) s

-- NewHandle: a new handle with a block of n bytes, all 0.
abbrev pub new_handle : ℕ → State → Done ℕ
new_handle n s = new_handle_with (Zeros n) s

-- PtrToHand: a new handle with a copy of bytes.
-- See decision 233 (PtrToHand is NewHandle with a copy of bytes).
abbrev pub pointer_to_hand : List ℕ → State → Done ℕ
pointer_to_hand x s = new_handle_with (CopyOf x) s

-- NewEmptyHandle: a new handle with no block.
abbrev pub new_empty_handle : State → Done ℕ
new_empty_handle s = given (Handle Plain) nothing (seek_slot (is_unused s) nothing s.zone) s

-- MoreMasters: a new master pointer block.
abbrev pub more_masters : State → Done (Unit {0})
more_masters s = changed nothing (seek (Base Masters) nothing s.zone) s

-- NewPtr: a new pointer to a nonrelocatable block of n bytes, all 0.
abbrev pub new_pointer : ℕ → State → Done ℕ
new_pointer n s = given Pointer nothing
    (if_fits n (seek (Base (Nonrelocatable (length s.names) (replicate n 0))) nothing s.zone)) s

-- The search for a free block of so many bytes, its header among them; none where no block has that size.
abbrev pub room_for : Option ℕ → List Block → Sought
room_for None zone = no_room
room_for (Some p) zone = seek (Base (Free p)) nothing zone

-- ReserveMem: a free block of n bytes as low in the zone as can be.
abbrev pub reserve_mem : ℕ → State → Done (Unit {0})
reserve_mem n s = changed nothing (room_for (phys n) s.zone) s

-- HandToHand: a new handle with a copy of the bytes of another handle's block, which is not purged for the copy.
abbrev pub hand_to_hand : Option ℕ → State → Done ℕ
hand_to_hand handle s =
    for_found (look_up handle s) s (λ held. made (Handle Plain) (is_relocatable held.number)
    (seek (Put (next_block (content_of held.at.here) s)) (is_relocatable held.number)) s)

-- SetHandleSize: the handle's block, which is spared, grows or is cut to n bytes.
abbrev pub set_handle_size : Option ℕ → ℕ → State → Done (Unit {0})
set_handle_size handle n s = for_found (look_up handle s) s (λ held. changed (is_relocatable held.number)
    (seek_size n (is_relocatable held.number) s.zone held.at) s)

-- SetPtrSize: the pointer's block grows or is cut to n bytes where it stands.
abbrev pub set_pointer_size : Option ℕ → ℕ → State → Done (Unit {0})
set_pointer_size pointer n s =
    for_found (pointed_at pointer s) s (λ held. changed nothing (seek_size n nothing s.zone held.at) s)

-- Bytes written into a handle's block from offset i on, once the block has n bytes.
abbrev pub sized_written : (Block → Bool) → Held → ℕ → ℕ → List ℕ → State → Done (Unit {0})
sized_written spared held n i x s =
    changed spared (around [] (Write held.number i x ∷ []) (seek_size n spared s.zone held.at)) s

-- Bytes appended to a handle's block.
abbrev pub append : (Block → Bool) → Held → List ℕ → State → Done (Unit {0})
append spared held x s = sized_written spared held (len + length x) len x s
  where
    len : ℕ
    len = length (content_of held.at.here)

-- HandAndHand: the bytes of one handle's block appended to another's; both are spared.
-- See decision 31 (`HandAndHand a b` refuses for `a` first, then for `b`).
abbrev pub hand_and_hand : Option ℕ → Option ℕ → State → Done (Unit {0})
hand_and_hand from to s = for_found (look_up from s) s (λ a. for_found (look_up to s) s (λ b.
    append (λ block. is_relocatable a.number block || is_relocatable b.number block) b (content_of a.at.here) s))

-- PtrAndHand: bytes appended to a handle's block, which is spared.
abbrev pub pointer_and_hand : Option ℕ → List ℕ → State → Done (Unit {0})
pointer_and_hand handle x s =
    for_found (look_up handle s) s (λ held. append (is_relocatable held.number) held x s)

-- PtrToXHand: a handle's block, which is spared, gets the size and the bytes of others.
-- See decision 241 (`PtrToXHand` is `SetHandleSize` and then `Put`).
abbrev pub pointer_to_x_hand : Option ℕ → List ℕ → State → Done (Unit {0})
pointer_to_x_hand handle x s = for_found (look_up handle s) s
    (λ held. sized_written (is_relocatable held.number) held (length x) 0 x s)

-- A reply with another value, and what did it.
abbrev pub reply_with : {T U : Type 0} → U → Result T OsErr → Result U OsErr
reply_with value (Ok other) = Ok value
reply_with value (Err code) = Err code

abbrev pub replying : {T U : Type 0} → U → Done T → Done U
replying value d = record { reply = reply_with value d.reply; names = d.names; spared = d.spared; path = d.path }

-- The bytes that were found in a handle's block, from an offset on, replaced by x: the block gets the size, and what
-- stood behind them stands behind x. The reply is the offset behind x, or -1 where nothing was found.
abbrev pub replaced : (Block → Bool) → Held → Option Occurrence → List ℕ → State → Done ℤ
replaced spared held None x s = record { reply = Ok (negsuc 0); names = s.names; spared = spared; path = [] }
replaced spared held (Some found) x s = replying (pos (found.at + length x)) (sized_written spared held
    (length bytes - found.count + length x) found.at (x ++ behind found bytes) s)
  where
    bytes : List ℕ
    bytes = content_of held.at.here

-- Munger: the first bytes like the target from the offset i on, in a handle's block, which is spared, replaced by x;
-- -30001 (profileErr) where the offset is past the end of the block's content. Inside Macintosh: Text, chapter 5.
-- See decision 244 (`Munger` replaces what it finds, or what stands at the end).
abbrev pub munger : Option ℕ → ℕ → Target → List ℕ → State → Done ℤ
munger handle i old x s = for_found (look_up handle s) s (λ held. if nat_le i (length (content_of held.at.here))
    then replaced (is_relocatable held.number) held (found_in old i (content_of held.at.here)) x s
    else refused PROFILE s)

-- ReallocateHandle: a new block of n bytes, all 0, for a handle, whose old block is freed first; -112 (memPurErr) where
-- the old block is locked.
abbrev pub reallocate_handle : Option ℕ → ℕ → State → Done (Unit {0})
reallocate_handle handle n s = for_found (handle_at handle s) s (λ k. if is_loose (spot (is_relocatable k.number) s.zone)
    then changed nothing (around (Drop k.number ∷ []) [] (if_fits n (seek
    (Put (Relocatable k.number no_flags (replicate n 0))) nothing (freed (is_relocatable k.number) s.zone)))) s
    else refused PURGED s)
