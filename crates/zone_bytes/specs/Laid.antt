-- The layout of a zone in bytes.
use Rattle.std.specs.Prelude.{ℕ, List}
use Rattle.memory_windows.specs.declared.Window.{Window}
use Rattle.memory_windows.specs.Writes.{piece}
use Rattle.block_store.specs.Block.{Block}
use Rattle.block_store.specs.Slot.{Slot}
use Rattle.zone_bytes.specs.Table.{Lays}

-- The bytes are a zone of these blocks and these slots: headers tile the bytes, each slot of a handle leads to the
-- handle's block or says that the handle is empty, each relocatable block's header names its slot, and the slots of no
-- handle are one list.
abbrev pub LaysOut : List ℕ → List Block → (ℕ → Slot) → Type 0
LaysOut xs blocks slots = (unused : List ℕ) × Lays xs blocks slots unused

-- The bytes in a window are a zone of these blocks and these slots.
abbrev pub LiesThere : List ℕ → Window → List Block → (ℕ → Slot) → Type 0
LiesThere bytes w blocks slots = LaysOut (piece w.at w.len bytes) blocks slots
