use Rattle.std.specs.Prelude.{◌≡◌, ℕ, ◌==◌, ◌&&◌, Bool, true, false, Some, List}
use Rattle.block_store.specs.Block.{Block, is_relocatable, is_purgeable}
use Rattle.block_store.specs.Run.{has}
use Rattle.heap_calls.specs.State.{Memory}
use Rattle.heap_calls.specs.Table.{Asked, DisposeHandle, EmptyHandle}
use Rattle.heap_calls.specs.Table.{answered}

-- No call purges a block that may not be purged. Inside Macintosh: Memory, chapter 1, "Purging and Reallocating
-- Memory Blocks".

-- Whether the block of the handle h is unlocked and purgeable.
abbrev pub has_purgeable : ℕ → List Block → Bool
has_purgeable h zone = has (λ b. is_relocatable h b && is_purgeable b) zone

-- Whether a call disposes of the handle h or frees its block.
abbrev pub takes_block : ℕ → Asked → Bool
takes_block h (DisposeHandle (Some k)) = k == h
takes_block h (EmptyHandle (Some k)) = k == h
takes_block h asked = false

-- A handle that has a block before a call and none after it had an unlocked, purgeable block, unless the call was
-- itself to dispose of the handle or to free its block. So a handle that ReallocateHandle gives a new block is not left
-- empty.
abbrev pub PurgesOnlyPurgeable : Asked → Memory → Type 0
PurgesOnlyPurgeable asked m =
    (h : ℕ) → takes_block h asked ≡ false → has (is_relocatable h) m.heap.zone ≡ true
    → has (is_relocatable h) (answered asked m).1.heap.zone ≡ false → has_purgeable h m.heap.zone ≡ true
