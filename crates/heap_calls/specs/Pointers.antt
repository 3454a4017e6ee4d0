use Rattle.std.specs.Prelude.{ℕ, ◌+◌, ◌==◌, Bool, false, Option, Some, None, Result, Ok, Err, List, [], ◌∷◌, length}
use Rattle.std.specs.Prelude.{take, drop, slice_get, slice_set, nat_le, if◌then◌else◌}
use Rattle.std.specs.Option.{option_map, ok_or}
use Rattle.mac_words.specs.declared.code.OsErr.{OsErr}
use Rattle.mac_words.specs.declared.code.TheConstants.OsErr.{NIL_HANDLE, WRONG_ZONE, PROFILE}
use Rattle.block_store.specs.Block.{is_nonrelocatable, content_of, tidy, sizes}
use Rattle.block_store.specs.Room.{Spot, spot}
use Rattle.block_store.specs.Grow.{freed}
use Rattle.heap_calls.specs.State.{Meaning, Handle, Pointer, Disposed, State}
use Rattle.heap_calls.specs.Answer.{Answer, Held, for_found, written_at, look_up, refused}
use Rattle.block_store.specs.declared.measures.TheConstants.{HEADER_SIZE}

-- Nonrelocatable blocks, and room at the base of a run. Inside Macintosh: Memory, chapter 2, "Allocating and
-- Releasing Nonrelocatable Blocks" and "Memory Reservation".

-- The block of the pointer of a number, by what the number stands for: -109 (nilHandleErr) where the number was never
-- given, -111 (memWZErr) where it is a handle's or was disposed of.
abbrev pub pointed : ℕ → Option Meaning → State → Result Held OsErr
pointed p None s = Err NIL_HANDLE
pointed p (Some (Handle role)) s = Err WRONG_ZONE
pointed p (Some Pointer) s = ok_or (option_map (λ (at : Spot). let held : Held = record { number = p; at = at } in
    held) (spot (is_nonrelocatable p) s.zone)) NIL_HANDLE
pointed p (Some Disposed) s = Err WRONG_ZONE

-- The block of the pointer that a name is bound to; -109 (nilHandleErr) where the name is unbound.
abbrev pub pointed_at : Option ℕ → State → Result Held OsErr
pointed_at None s = Err NIL_HANDLE
pointed_at (Some p) s = pointed p (slice_get s.names p) s

-- The answer of a call on a pointer.
abbrev pub on_pointer : {T : Type 0} → Option ℕ → State → (Held → Answer T) → Answer T
on_pointer pointer s answer = for_found (pointed_at pointer s) s answer

-- DisposePtr: disposes of a pointer and its block.
abbrev pub dispose_pointer : Option ℕ → State → Answer (Unit {0})
dispose_pointer pointer s = on_pointer pointer s (λ held. (
  Ok tt,
  record { zone = tidy (freed (is_nonrelocatable held.number) s.zone); names = slice_set s.names held.number Disposed },
))

-- GetPtrSize: the logical size of a pointer's block, in bytes.
abbrev pub get_pointer_size : Option ℕ → State → Answer ℕ
get_pointer_size pointer s = on_pointer pointer s (λ held. (Ok (length (content_of held.at.here)), s))

-- PtrZone: the place of the zone of a pointer's block: its offset from its own start, 0.
-- See decision 234 (`HandleZone` and `PtrZone` return 0).
abbrev pub pointer_zone : Option ℕ → State → Answer ℕ
pointer_zone pointer s = on_pointer pointer s (λ held. (Ok 0, s))

-- ShowPtr: the bytes of a pointer's block.
abbrev pub show_pointer : Option ℕ → State → Answer (List ℕ)
show_pointer pointer s = on_pointer pointer s (λ held. (Ok (content_of held.at.here), s))

-- PutPtr: bytes written into a pointer's block from offset i on; -30001 (profileErr) where they would end past the
-- block's content.
abbrev pub put_pointer : Option ℕ → ℕ → List ℕ → State → Answer (Unit {0})
put_pointer pointer i x s = on_pointer pointer s (λ held. written_at i x held.at s)

-- The block of the handle or the pointer of a number, by what the number stands for.
abbrev pub named_block : ℕ → Option Meaning → State → Result Held OsErr
named_block n None s = look_up (Some n) s
named_block n (Some (Handle role)) s = look_up (Some n) s
named_block n (Some Pointer) s = pointed n (Some Pointer) s
named_block n (Some Disposed) s = look_up (Some n) s

-- The block of the handle or the pointer that a name is bound to.
abbrev pub block_named : Option ℕ → State → Result Held OsErr
block_named None s = look_up None s
block_named (Some n) s = named_block n (slice_get s.names n) s

-- Where: the offset of a block's content from the start of the zone; the block's header stands before the content.
abbrev pub place_of : Option ℕ → State → Answer ℕ
place_of name s = for_found (block_named name s) s (λ held. (Ok (sizes held.at.below + HEADER_SIZE), s))

-- BlockMove: n bytes of one block, from the offset i on, written into another block, or the same, from the offset j on, as
-- they were before; -30001 (profileErr) where they would end past the content of either. Inside Macintosh: Memory,
-- chapter 2, "Manipulating Blocks of Memory".
-- See decision 243 (`BlockMove` copies between named blocks, and not past their ends).
abbrev pub moved_into : ℕ → ℕ → ℕ → Held → State → Held → Answer (Unit {0})
moved_into i j n a s b = if nat_le (i + n) (length (content_of a.at.here))
    then written_at j (take n (drop i (content_of a.at.here))) b.at s else refused PROFILE s

abbrev pub block_move : Option ℕ → ℕ → Option ℕ → ℕ → ℕ → State → Answer (Unit {0})
block_move from i to j n s =
    for_found (block_named from s) s (λ a. for_found (block_named to s) s (moved_into i j n a s))

-- Whether the content of a block that was looked up begins at this offset from the start of the zone.
abbrev pub stands_at : ℕ → Result Held OsErr → Bool
stands_at place (Err code) = false
stands_at place (Ok held) = sizes held.at.below + HEADER_SIZE == place

-- The handle, of those from the n-th number on, whose block's content begins at this offset.
abbrev pub handle_from : ℕ → ℕ → List Meaning → State → Option ℕ
handle_from place n [] s = None
handle_from place n (name ∷ names) s =
    if stands_at place (look_up (Some n) s) then Some n else handle_from place (n + 1) names s

-- RecoverHandle: the handle whose block's content begins at this offset from the start of the zone; -111 (memWZErr) where
-- there is none. Inside Macintosh: Memory, chapter 2, "Setting the Properties of Relocatable Blocks".
-- See decision 242 (`RecoverHandle` finds the handle of a block by where its content stands).
abbrev pub recover_handle : ℕ → State → Answer ℕ
recover_handle place s = (ok_or (handle_from place 0 s.names s) WRONG_ZONE, s)
