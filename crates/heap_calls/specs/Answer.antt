use Rattle.std.specs.Prelude.{ℕ, ℤ, pos, negsuc, ◌+◌, ◌-◌, Bool, true, false, Option, Some, None, Result, Ok, Err, List, [], ◌∷◌, ◌++◌}
use Rattle.std.specs.Prelude.{length, slice_get, slice_set, unwrap_or, nat_le, if◌then◌else◌}
use Rattle.std.specs.Option.{option_map, ok_or}
use Rattle.mac_words.specs.Size.{phys}
use Rattle.mac_words.specs.declared.code.OsErr.{OsErr}
use Rattle.mac_words.specs.declared.code.TheConstants.OsErr.{NO_ERR, NIL_HANDLE, WRONG_ZONE, MEM_FULL, LOCKED, PROFILE}
use Rattle.block_store.specs.declared.flags.Flags.{Flags}
use Rattle.block_store.specs.Block.{Block, Free, Nonrelocatable, Masters, Relocatable, free_sum, is_mover, is_relocatable}
use Rattle.block_store.specs.Block.{content_of, with_content, tidy}
use Rattle.memory_windows.specs.Writes.{written}
use Rattle.block_store.specs.Run.{change_run, has, high}
use Rattle.block_store.specs.Room.{Spot, spot}
use Rattle.block_store.specs.Grow.{freed}
use Rattle.block_store.specs.Compact.{largest_free, largest_run, compacted}
use Rattle.block_store.specs.Rest.{counted}
use Rattle.heap_calls.specs.State.{Role, Plain, Resource, SystemResource, Meaning, Handle, Pointer, Disposed, State}
use Rattle.heap_calls.specs.State.{Memory}
use Rattle.heap_calls.specs.Munging.{Target, found_in}
use Rattle.heap_calls.specs.declared.munging.Occurrence.{Occurrence}
use Rattle.block_store.specs.declared.measures.TheConstants.{HEADER_SIZE}

-- The calls of the Memory Manager. Inside Macintosh: Memory, chapter 2, "Memory Manager Routines". A call takes a
-- handle as the number that a name is bound to, `None` for an unbound name.

-- The reply of a call, or the code with which the call is refused, and the heap after the call.
abbrev pub Answer : Type 0 → Type 0
Answer T = Result T OsErr × State

-- A refusal with a code, which changes nothing.
abbrev pub refused : {T : Type 0} → OsErr → State → Answer T
refused code s = (Err code, s)

-- A handle that was looked up: its number and its role.
pub record Known : Type 0 where
  pub number : ℕ
  pub role : Role

-- A handle with a block: its number, and the spot of the block in the zone.
pub record Held : Type 0 where
  pub number : ℕ
  pub at : Spot

-- The handle of a number, by what the number stands for: -109 (nilHandleErr) where the number was never given, -111
-- (memWZErr) where it is a pointer's or was disposed of.
abbrev pub known_as : ℕ → Option Meaning → Result Known OsErr
known_as h None = Err NIL_HANDLE
known_as h (Some (Handle role)) = Ok (record { number = h; role = role })
known_as h (Some Pointer) = Err WRONG_ZONE
known_as h (Some Disposed) = Err WRONG_ZONE

-- The handle that a name is bound to; -109 (nilHandleErr) where the name is unbound.
abbrev pub handle_at : Option ℕ → State → Result Known OsErr
handle_at None s = Err NIL_HANDLE
handle_at (Some h) s = known_as h (slice_get s.names h)

-- The handle with its block; -109 (nilHandleErr) where the handle is empty.
abbrev pub held_at : Result Known OsErr → State → Result Held OsErr
held_at (Err code) s = Err code
held_at (Ok k) s = ok_or (option_map (λ (at : Spot). let held : Held = record { number = k.number; at = at } in
    held) (spot (is_relocatable k.number) s.zone)) NIL_HANDLE

-- The block of the handle that a name is bound to, or the code that says why there is none.
abbrev pub look_up : Option ℕ → State → Result Held OsErr
look_up handle s = held_at (handle_at handle s) s

-- The answer of a call for what was found, or a refusal with the code that says why nothing was found.
abbrev pub for_found : {A T : Type 0} → Result A OsErr → State → (A → Answer T) → Answer T
for_found (Err code) s answer = refused code s
for_found (Ok found) s answer = answer found

-- The answer of a call on a handle that has a block.
abbrev pub on_block : {T : Type 0} → Option ℕ → State → (Held → Answer T) → Answer T
on_block handle s answer = for_found (look_up handle s) s answer

-- The next number, which stands for `name` in the new zone; -108 (memFullErr) where there is no new zone.
abbrev pub given : Meaning → Option (List Block) → State → Answer ℕ
given name None s = refused MEM_FULL s
given name (Some zone) s = (Ok (length s.names), record { zone = zone; names = s.names ++ name ∷ [] })

-- No block is spared.
abbrev pub nothing : Block → Bool
nothing b = false

-- The heap after the handle h is disposed of: its block, if it has one, is free.
abbrev pub without : ℕ → State → State
without h s = record { zone = tidy (freed (is_relocatable h) s.zone); names = slice_set s.names h Disposed }

-- The disposal of a handle by its role: -30001 (profileErr) for a resource's handle.
-- See decision 39 (`DisposeHandle` of a resource's handle is -30001).
abbrev pub disposed_of : Role → ℕ → State → Answer (Unit {0})
disposed_of Plain h s = (Ok tt, without h s)
disposed_of Resource h s = refused PROFILE s
disposed_of SystemResource h s = refused PROFILE s

-- DisposeHandle: disposes of a handle and its block.
abbrev pub dispose_handle : Option ℕ → State → Answer (Unit {0})
dispose_handle handle s = for_found (handle_at handle s) s (λ k. disposed_of k.role k.number s)

-- GetHandleSize: the logical size of a handle's block, in bytes.
abbrev pub get_handle_size : Option ℕ → State → Answer ℕ
get_handle_size handle s = on_block handle s (λ held. (Ok (length (content_of held.at.here)), s))

-- HandleZone: the place of the zone of a handle, which may be empty: its offset from its own start, 0.
-- See decision 234 (`HandleZone` and `PtrZone` return 0).
abbrev pub handle_zone : Option ℕ → State → Answer ℕ
handle_zone handle s = for_found (handle_at handle s) s (λ k. (Ok 0, s))

-- The place of what Munger finds in a handle's block, from the offset i on, where it puts nothing there: -1 where nothing
-- was found; -30001 (profileErr) where the offset is past the end of the block's content.
-- See decision 244 (`Munger` replaces what it finds, or what stands at the end).
abbrev pub place_found : Option Occurrence → ℤ
place_found None = negsuc 0
place_found (Some found) = pos found.at

abbrev pub place_in : Target → ℕ → List ℕ → Result ℤ OsErr
place_in old i bytes = if nat_le i (length bytes) then Ok (place_found (found_in old i bytes)) else Err PROFILE

abbrev pub munger_nil : Option ℕ → ℕ → Target → State → Answer ℤ
munger_nil handle i old s = on_block handle s (λ held. (place_in old i (content_of held.at.here), s))

-- FreeMem: the number of free bytes of the zone, the headers of free blocks included.
abbrev pub free_mem : State → Answer ℕ
free_mem s = (Ok (free_sum s.zone), s)

-- Show: the bytes of a handle's block.
abbrev pub show : Option ℕ → State → Answer (List ℕ)
show handle s = on_block handle s (λ held. (Ok (content_of held.at.here), s))

-- Bytes written into a block from offset i on; -30001 (profileErr) where they would end past the block's content.
-- See decision 21 (`Put` past the end is -30001).
abbrev pub written_at : ℕ → List ℕ → Spot → State → Answer (Unit {0})
written_at i x at s =
    if nat_le (i + length x) (length (content_of at.here))
    then (Ok tt, record s { zone = at.below ++ with_content (written i x (content_of at.here)) at.here ∷ at.above })
    else refused PROFILE s

abbrev pub put : Option ℕ → ℕ → List ℕ → State → Answer (Unit {0})
put handle i x s = on_block handle s (λ held. written_at i x held.at s)

-- The answer of a call that leaves this zone; -108 (memFullErr) where there is none.
abbrev pub rebuilt : Option (List Block) → State → Answer (Unit {0})
rebuilt None s = refused MEM_FULL s
rebuilt (Some zone) s = (Ok tt, record s { zone = zone })

-- A block with its flags changed.
abbrev pub flagged : (Flags → Flags) → Block → Block
flagged change (Free n) = Free n
flagged change (Nonrelocatable id content) = Nonrelocatable id content
flagged change Masters = Masters
flagged change (Relocatable id flags content) = Relocatable id (change flags) content

-- The answer of a call that changes the flags of a handle's block.
abbrev pub change_flags : (Flags → Flags) → Option ℕ → State → Answer (Unit {0})
change_flags change handle s = on_block handle s (λ held. (
  Ok tt,
  record s
      { zone = held.at.below ++ flagged change held.at.here ∷ held.at.above },
))

-- HLock and HUnlock: lock and unlock a handle's block.
abbrev pub h_lock : Option ℕ → State → Answer (Unit {0})
h_lock handle s = change_flags (λ f. record f { locked = true }) handle s

abbrev pub h_unlock : Option ℕ → State → Answer (Unit {0})
h_unlock handle s = change_flags (λ f. record f { locked = false }) handle s

-- The zone with the block of the handle h moved to the top of its run of movable blocks.
abbrev pub hoisted : ℕ → List Block → List Block
hoisted h zone = unwrap_or (option_map tidy (change_run (has (is_relocatable h)) (high (is_relocatable h)) zone)) zone

-- MoveHHi: moves a handle's block to the top of its run; -117 (memLockedErr) where the block is locked.
-- See decision 33 (`MoveHHi` and `HLockHi` of a locked block are -117).
abbrev pub move_h_hi : Option ℕ → State → Answer (Unit {0})
move_h_hi handle s = on_block handle s (λ held. if is_mover held.at.here
    then (Ok tt, record s { zone = hoisted held.number s.zone }) else refused LOCKED s)

-- HLockHi: moves a handle's block to the top of its run, as MoveHHi does, and then locks the block.
abbrev pub h_lock_hi : Option ℕ → State → Answer (Unit {0})
h_lock_hi handle s = for_found (move_h_hi handle s).0 s (λ _. h_lock handle (move_h_hi handle s).1)

-- MaxBlock: the largest number of bytes that one block could have if all runs were compacted.
abbrev pub max_block : State → Answer ℕ
max_block s = (Ok (largest_run s.zone - HEADER_SIZE), s)

-- CompactMem: compacts runs, lowest first, until a block of n bytes has room or all runs are compacted; the reply is
-- the largest number of bytes that one block can then have.
abbrev pub compact_mem : ℕ → State → Answer ℕ
compact_mem n s = (
  Ok (largest_free (compacted (phys n) s.zone) - HEADER_SIZE),
  record s { zone = compacted (phys n) s.zone },
)

-- The code of a reply.
abbrev pub code_of : {T : Type 0} → Result T OsErr → OsErr
code_of (Ok value) = NO_ERR
code_of (Err code) = code

-- A call that sets the code that MemError returns. Inside Macintosh: Memory, chapter 2, "Result Codes".
abbrev pub noting : {T : Type 0} → (State → Answer T) → Memory → Result T OsErr × Memory
noting call m = (
  (call m.heap).0,
  record m {
    heap = (call m.heap).1;
    log = record m.log
        { code = code_of (call m.heap).0 };
  },
)

-- A call that does not set the code that MemError returns.
abbrev pub silent : {T : Type 0} → (State → Answer T) → Memory → Result T OsErr × Memory
silent call m = ((call m.heap).0, record m { heap = (call m.heap).1 })

-- A call that makes n searches for room.
abbrev pub searching : {T : Type 0} → ℕ → Result T OsErr × Memory → Result T OsErr × Memory
searching n answer = (
  answer.0,
  record answer.1 {
    log = record answer.1.log
        { searches = counted answer.1.log.searches n };
  },
)

-- A call whose compaction moves n blocks down.
abbrev pub moving : {T : Type 0} → ℕ → Result T OsErr × Memory → Result T OsErr × Memory
moving n answer = (answer.0, record answer.1 { moves = counted answer.1.moves n })
