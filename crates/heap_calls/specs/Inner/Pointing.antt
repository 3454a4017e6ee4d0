use Rattle.std.specs.Prelude.{◌≡◌, ◌≤◌, ℕ, ◌+◌, Option, Some, None, Result, Ok, Err, List, length, slice_get}
use Rattle.mac_words.specs.declared.code.OsErr.{OsErr}
use Rattle.mac_words.specs.declared.code.TheConstants.OsErr.{NIL_HANDLE, WRONG_ZONE}
use Rattle.block_store.specs.Block.{Block, sizes, content_of}
use Rattle.block_store.specs.Room.{Spot, spot_at, rename_spot}
use Rattle.heap_calls.specs.Answer.{Held}
use Rattle.heap_calls.specs.Inner.Numbered.{handle_number, pointer_number}
use Rattle.heap_calls.specs.declared.anchor.Anchor.{Anchor}
use Rattle.heap_calls.specs.declared.anchor.Anchor.TheVariants as entry
use Rattle.heap_calls.specs.declared.anchor.Target.{Target}
use Rattle.block_store.specs.declared.measures.TheConstants.{GREATEST_ZONE, HEADER_SIZE}

-- How a pointer is looked up.

-- A pointer: its number, and the place of its block.
abbrev pub target : ℕ → ℕ → Target
target number place = record { number = number; place = place }

-- The place of a pointer's entry; -109 (nilHandleErr) where the number was never given, -111 (memWZErr) where it is a
-- handle's or was disposed of.
abbrev pub target_at : ℕ → Option Anchor → Result Target OsErr
target_at p None = Err NIL_HANDLE
target_at p (Some (entry.Handle slot guarded)) = Err WRONG_ZONE
target_at p (Some (entry.Pointer place)) = Ok (target p place)
target_at p (Some entry.Disposed) = Err WRONG_ZONE

-- The place of the block of the pointer that a name is bound to; -109 (nilHandleErr) where the name is unbound.
abbrev pub target_of : Option ℕ → List Anchor → Result Target OsErr
target_of None es = Err NIL_HANDLE
target_of (Some p) es = target_at p (slice_get es p)

-- The store's place of the block that was looked up, or the code that says why there is none.
abbrev pub FindsHeld : Result Held OsErr → List Block → List Anchor → Result ℕ OsErr → Type 0
FindsHeld looked zone es (Ok place) =
    (n : ℕ) × (s : Spot) × (looked ≡ Ok (record {
      number = n;
      at = rename_spot (handle_number es) (pointer_number es)
          s;
    }))
    × (spot_at place zone ≡ Some s) × (sizes s.below ≡ place)
    × (place + HEADER_SIZE + length (content_of s.here) ≤ GREATEST_ZONE)
FindsHeld looked zone es (Err code) = looked ≡ Err code
