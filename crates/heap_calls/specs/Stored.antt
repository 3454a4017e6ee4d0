use Rattle.std.specs.Prelude.{◌≡◌, ℕ, List}
use Rattle.block_store.specs.Block.{Block}
use Rattle.block_store.specs.Slot.{Slot}
use Rattle.block_store.specs.Rest.{Rest}
use Rattle.heap_calls.specs.declared.anchor.Anchor.{Anchor}
use Rattle.heap_calls.specs.State.{State}
use Rattle.heap_calls.specs.Inner.Numbered.{Agrees, state_of}

-- A heap is the one of a store's blocks and master pointers, for some entries of its numbers that agree with the store:
-- each handle has a used master pointer, which no other handle has; each pointer has its block, which no other pointer
-- has; and each block is named by the number of its handle or pointer. A handle is a resource's where its master pointer
-- says so, whether the handle has a block or is empty.
abbrev pub IsStored : List Block → (ℕ → Slot) → State → Type 0
IsStored blocks slots heap = (entries : List Anchor) × (rest : Rest) × (rest.slots ≡ slots)
    × Agrees blocks rest entries × (heap ≡ state_of blocks slots entries)
