use Rattle.std.specs.Prelude.{◌≡◌, ◌<◌, ℕ, Bool, Option, Some, Result, Ok, Err, List, slice_get, if◌then◌else◌}
use Rattle.mac_words.specs.declared.code.OsErr.{OsErr}
use Rattle.mac_words.specs.declared.code.TheConstants.OsErr.{MEM_FULL}
use Rattle.block_store.specs.Block.{Block, is_relocatable}
use Rattle.block_store.specs.Find.{FindsLowest}
use Rattle.block_store.specs.Slot.{Slot}
use Rattle.block_store.specs.Room.{Spot, spot, rename_spot}
use Rattle.heap_calls.specs.Answer.{look_up}
use Rattle.heap_calls.specs.Inner.Numbered.{handle_number, pointer_number, state_of, no_number}
use Rattle.heap_calls.specs.declared.anchor.Anchor.{Anchor}
use Rattle.heap_calls.specs.declared.anchor.Anchor.TheVariants as entry
use Rattle.heap_calls.specs.declared.reaching.Reached.{Reached}

-- The block of a handle in the store, with its slot and its place, or the code that says why there is none.
abbrev pub Reaches : List Block → (ℕ → Slot) → List Anchor → Option ℕ → Result Reached OsErr → Type 0
Reaches zone slots es handle (Ok r) =
    (s : Spot) × (look_up handle (state_of zone slots es) ≡ Ok
    (record { number = r.number; at = rename_spot (handle_number es) (pointer_number es) s }))
    × (spot (is_relocatable r.slot) zone ≡ Some s) × FindsLowest (is_relocatable r.slot) zone (Some r.place)
    × (guarded : Bool) × (slice_get es r.number ≡ Some (entry.Handle r.slot guarded)) × (r.number < no_number)
Reaches zone slots es handle (Err code) = look_up handle (state_of zone slots es) ≡ Err code

-- The reply of a call that needs room for a block: done, or -108 (memFullErr).
abbrev pub sized_reply : Bool → Result (Unit {0}) OsErr
sized_reply done = if done then Ok tt else Err MEM_FULL
