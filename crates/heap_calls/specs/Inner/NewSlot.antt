use Rattle.std.specs.Prelude.{◌≡◌, ◌≤◌, ℕ, ◌+◌, zero, suc, Bool, true, false, Option, Some, None, List, if◌then◌else◌}
use Rattle.std.specs.Bool.{IsTrue}
use Rattle.block_store.specs.Block.{Block, is_relocatable}
use Rattle.block_store.specs.Run.{has}
use Rattle.block_store.specs.Slot.{Unused, Used, is_used}
use Rattle.block_store.specs.Rest.{Rest, KeepsSlots, with_slot}
use Rattle.block_store.specs.Sparing.{spared}
use Rattle.block_store.specs.declared.sparing.Sparing.{Sparing}
use Rattle.block_store.specs.declared.measures.TheConstants.{SLOTS_A_BLOCK}
use Rattle.moves.specs.Moves.{did}
use Rattle.moves.specs.Seeking.{Sought, seek_slot}

-- New slots in a store.

-- Some slots are unused.
abbrev pub some_left : ℕ → Bool
some_left zero = false
some_left (suc n) = true

-- The search for an unused slot, by the number of slots that are unused.
abbrev pub seek_unused : Sparing → ℕ → List Block → Sought
seek_unused sparing n zone = seek_slot (some_left n) (spared sparing) zone

-- The zone with an unused slot; `None` where there is no room for more slots.
abbrev pub zone_slotted : Sparing → ℕ → List Block → Option (List Block)
zone_slotted sparing n zone = if (seek_unused sparing n zone).found
    then Some (did (spared sparing) (seek_unused sparing n zone).path zone).zone else None

-- A store has more slots than it had, all the new ones unused.
pub record HasMore (rest more : Rest) : Type 0 where
  pub slots : (number : ℕ) → IsTrue (is_used (rest.slots number)) → more.slots number ≡ rest.slots number
  pub counts : more.unused + rest.all ≡ rest.unused + more.all
  pub grows : rest.all ≤ more.all
  pub window : more.window ≡ rest.window

-- A store got the slots of a new master pointer block; as many as it had where there is no place for one.
abbrev pub GainsSlots : {T : Type 0} → Option T → Rest → Rest → Type 0
GainsSlots None rest rest' = KeepsSlots rest rest'
GainsSlots (Some place) rest rest' = HasMore rest rest' × (rest'.unused ≡ rest.unused + SLOTS_A_BLOCK)

-- An unused slot was taken for a new handle, which the store had or got with a new master pointer block.
pub record IsTaken (slot : ℕ) (rest rest' : Rest) : Type 0 where
  pub more : Rest
  pub has_more : HasMore rest more
  pub was : more.slots slot ≡ Unused
  pub one : rest'.unused + 1 ≡ more.unused
  pub slots : KeepsSlots (with_slot slot (Used false) rest'.unused more) rest'

-- The slot that was taken, which has no block; `None` where no slot is unused, and then they are what they were.
abbrev pub TakesSlot : Option ℕ → Rest → List Block → Rest → Type 0
TakesSlot None rest zone' rest' = KeepsSlots rest rest'
TakesSlot (Some slot) rest zone' rest' = IsTaken slot rest rest' × (has (is_relocatable slot) zone' ≡ false)

-- The slot of a new block; `None` where no block could be made, and then the store may have more slots.
abbrev pub HasSlot : Option ℕ → Rest → Rest → Type 0
HasSlot None rest rest' = HasMore rest rest'
HasSlot (Some slot) rest rest' = IsTaken slot rest rest'
