use Rattle.std.specs.Prelude.{◌≡◌, ◌<◌, ℕ, ◌+◌, Bool, Option, Some, None, Result, Ok, Err, List, slice_get}
use Rattle.std.specs.Prelude.{unwrap_or, if◌then◌else◌}
use Rattle.mac_words.specs.declared.code.OsErr.{OsErr}
use Rattle.mac_words.specs.declared.code.TheConstants.OsErr.{PURGED}
use Rattle.block_store.specs.declared.flags.Flags.{Flags}
use Rattle.block_store.specs.Block.{Block, is_relocatable}
use Rattle.block_store.specs.Room.{spot}
use Rattle.block_store.specs.Slot.{Slot}
use Rattle.heap_calls.specs.State.{State}
use Rattle.heap_calls.specs.Answer.{Known, handle_at}
use Rattle.heap_calls.specs.Purging.{bit, is_loose}
use Rattle.heap_calls.specs.Inner.Numbered.{no_number, role_of, state_of}
use Rattle.heap_calls.specs.declared.anchor.Anchor.{Anchor}
use Rattle.heap_calls.specs.declared.anchor.Anchor.TheVariants as entry

-- The flags with those that are given in place of their own.
abbrev pub flags_with : Option Bool → Option Bool → Flags → Flags
flags_with locked purgeable f = record {
  locked = unwrap_or locked f.locked;
  purgeable = unwrap_or purgeable
      f.purgeable;
}

-- Flags as bits of a byte: 128 for locked, 64 for purgeable.
abbrev pub bits_of : Option Flags → ℕ
bits_of None = 0
bits_of (Some f) = bit 128 f.locked + bit 64 f.purgeable

-- A handle that was looked up; -112 (memPurErr) where it has a locked block.
abbrev pub loose : Result Known OsErr → List Block → Result Known OsErr
loose (Err code) zone = Err code
loose (Ok k) zone = if is_loose (spot (is_relocatable k.number) zone) then Ok k else Err PURGED

-- The handle that a name is bound to; -112 (memPurErr) where it has a locked block.
abbrev pub loose_at : Option ℕ → State → Result Known OsErr
loose_at handle s = loose (handle_at handle s) s.zone

-- The slot of that handle, or the code that says why there is none.
abbrev pub FindsLoose : List Block → (ℕ → Slot) → List Anchor → Option ℕ → Result ℕ OsErr → Type 0
FindsLoose zone slots es handle (Ok slot) =
    (h : ℕ) × (guarded : Bool)
    × (loose_at handle (state_of zone slots es) ≡ Ok (record { number = h; role = role_of (slots slot) guarded }))
    × (slice_get es h ≡ Some (entry.Handle slot guarded)) × (h < no_number)
FindsLoose zone slots es handle (Err code) = loose_at handle (state_of zone slots es) ≡ Err code
