use Rattle.std.specs.Prelude.{◌≡◌, ◌≤◌, ℕ, ◌+◌, Bool, true, false, not, Option, Some, None, Result, Ok, Err, List}
use Rattle.std.specs.Prelude.{length, slice_get}
use Rattle.std.specs.Borrow.{Bor}
use Rattle.mac_words.specs.declared.code.OsErr.{OsErr}
use Rattle.mac_words.specs.declared.code.TheConstants.OsErr.{NO_ERR, NIL_HANDLE, WRONG_ZONE}
use Rattle.block_store.specs.Block.{Block, sizes, content_of}
use Rattle.block_store.specs.Slot.{Slot}
use Rattle.block_store.specs.declared.flags.Flags.{Flags}
use Rattle.block_store.specs.declared.sparing.Seen.{Seen}
use Rattle.block_store.specs.declared.sparing.Seen.TheVariants as see
use Rattle.block_store.specs.Room.{Spot, spot_at, rename_spot}
use Rattle.heap_calls.specs.State.{Memory}
use Rattle.heap_calls.specs.Answer.{look_up}
use Rattle.heap_calls.specs.Inner.Numbered.{handle_number, pointer_number, state_of}
use Rattle.heap_calls.specs.declared.refusal.Refusal.{Refusal}
use Rattle.heap_calls.specs.declared.refusal.Refusal.TheVariants.{Code, HostMemory}
use Rattle.heap_calls.specs.declared.anchor.Anchor.{Anchor}
use Rattle.heap_calls.specs.declared.anchor.Anchor.TheVariants as entry
use Rattle.heap_calls.specs.declared.anchor.Found.{Found}
use Rattle.block_store.specs.declared.measures.TheConstants.{GREATEST_ZONE, HEADER_SIZE}

-- The result of a method and the state after it are the answer of a definition; nothing is said where the host was
-- out of memory.
abbrev pub IsAnswer : {T S : Type 0} → Result T OsErr × S → Result T Refusal → S → Type 0
IsAnswer answer (Ok value) after = answer ≡ (Ok value, after)
IsAnswer answer (Err (Code code)) after = answer ≡ (Err code, after)
IsAnswer answer (Err HostMemory) after = Unit {0}

-- The result of a method that lends bytes and the state after it are the answer of a definition.
abbrev pub IsShown : {S : Type 0} → Result (List ℕ) OsErr × S → Result (Bor (List ℕ)) OsErr → S → Type 0
IsShown answer (Ok bytes) after = answer ≡ (Ok bytes.now, after)
IsShown answer (Err code) after = answer ≡ (Err code, after)

-- All but the blocks of the zone and the count of moves is what it was.
abbrev pub KeepsNames : Memory → Memory → Type 0
KeepsNames old new = new ≡ record old { heap = record old.heap { zone = new.heap.zone }; moves = new.moves }

-- All but the blocks of the zone is what it was, and no move was counted.
abbrev pub KeepsMoves : Memory → Memory → Type 0
KeepsMoves old new = new ≡ record old { heap = record old.heap { zone = new.heap.zone } }

-- The code that MemError returns after a result, from the code before; where the host was out of memory the code
-- stays.
abbrev pub last_after : {T : Type 0} → Result T Refusal → OsErr → OsErr
last_after (Ok value) last = NO_ERR
last_after (Err (Code code)) last = code
last_after (Err HostMemory) last = last

-- A handle: its number, its slot, and whether it is guarded.
abbrev pub found : ℕ → ℕ → Bool → Found
found number slot guarded = record { number = number; slot = slot; guarded = guarded }

-- The slot of a handle's entry; -109 (nilHandleErr) where the number was never given, -111 (memWZErr) where it is a
-- pointer's or was disposed of.
abbrev pub slot_at : ℕ → Option Anchor → Result Found OsErr
slot_at h None = Err NIL_HANDLE
slot_at h (Some (entry.Handle slot guarded)) = Ok (found h slot guarded)
slot_at h (Some (entry.Pointer place)) = Err WRONG_ZONE
slot_at h (Some entry.Disposed) = Err WRONG_ZONE

-- The slot of the handle that a name is bound to; -109 (nilHandleErr) where the name is unbound.
abbrev pub slot_of : Option ℕ → List Anchor → Result Found OsErr
slot_of None es = Err NIL_HANDLE
slot_of (Some h) es = slot_at h (slice_get es h)

-- The store's place of the block of a handle, or the code that says why there is none.
abbrev pub FindsBlock : List Block → (ℕ → Slot) → List Anchor → Option ℕ → Result ℕ OsErr → Type 0
FindsBlock zone slots es handle (Ok place) =
    (h : ℕ) × (s : Spot) × (look_up handle (state_of zone slots es)
    ≡ Ok (record { number = h; at = rename_spot (handle_number es) (pointer_number es) s }))
    × (spot_at place zone ≡ Some s) × (sizes s.below ≡ place)
    × (place + HEADER_SIZE + length (content_of s.here) ≤ GREATEST_ZONE)
FindsBlock zone slots es handle (Err code) = look_up handle (state_of zone slots es) ≡ Err code

-- The flags of a block, as it is seen; `None` unless it is a relocatable block.
abbrev pub seen_flags : Option Seen → Option Flags
seen_flags None = None
seen_flags (Some (see.Free n)) = None
seen_flags (Some (see.Nonrelocatable n)) = None
seen_flags (Some see.Masters) = None
seen_flags (Some (see.Relocatable slot flags n)) = Some flags

-- Whether a block, as it is seen, is an unlocked relocatable block.
abbrev pub seen_mover : Option Seen → Bool
seen_mover None = false
seen_mover (Some (see.Free n)) = false
seen_mover (Some (see.Nonrelocatable n)) = false
seen_mover (Some see.Masters) = false
seen_mover (Some (see.Relocatable slot flags n)) = not flags.locked

-- Whether a block, as it is seen, belongs to a run: a free block or an unlocked relocatable block.
abbrev pub seen_in_run : Option Seen → Bool
seen_in_run None = false
seen_in_run (Some (see.Free n)) = true
seen_in_run (Some (see.Nonrelocatable n)) = false
seen_in_run (Some see.Masters) = false
seen_in_run (Some (see.Relocatable slot flags n)) = not flags.locked
