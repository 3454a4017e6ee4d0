use Rattle.std.specs.Prelude.{◌≡◌, ◌≤◌, ℕ, ◌/◌, ◌%◌, ◌==◌, not, ◌&&◌, Bool, false, Option, Some, List}
use Rattle.std.specs.Option.{option_map}
use Rattle.block_store.specs.Block.{Block, Free, Nonrelocatable, Masters, Relocatable, sizes, count, is_relocatable}
use Rattle.block_store.specs.Room.{spot}
use Rattle.heap_calls.specs.State.{Memory}
use Rattle.heap_calls.specs.Table.{Asked, DisposeHandle, HUnlock, HSetState}
use Rattle.heap_calls.specs.Table.{answered}

-- A locked block stays where it is. Inside Macintosh: Memory, chapter 1, "Properties of Relocatable Blocks".

-- Whether a block is the locked block of the handle h.
abbrev pub is_locked : ℕ → Block → Bool
is_locked h (Free n) = false
is_locked h (Nonrelocatable id content) = false
is_locked h Masters = false
is_locked h (Relocatable id flags content) = id == h && flags.locked

-- The distance in bytes of the locked block of the handle h from the bottom of the zone; `None` where the handle has
-- no block or an unlocked one.
abbrev pub locked_place : ℕ → List Block → Option ℕ
locked_place h zone = option_map (λ s. sizes s.below) (spot (is_locked h) zone)

-- Whether a call disposes of the handle h, or unlocks its block.
abbrev pub releases : ℕ → Asked → Bool
releases h (DisposeHandle (Some k)) = k == h
releases h (HUnlock (Some k)) = k == h
releases h (HSetState (Some k) state) = k == h && not (state / 128 % 2 == 1)
releases h asked = false

-- No handle has two blocks.
abbrev pub OneBlockEach : List Block → Type 0
OneBlockEach zone = (h : ℕ) → count (is_relocatable h) zone ≤ 1

-- Each block that is locked before a call is locked after it, at the same distance from the bottom of the zone,
-- unless the call releases the block.
abbrev pub StaysLocked : Asked → Memory → Type 0
StaysLocked asked m = (h place : ℕ) → releases h asked ≡ false → locked_place h m.heap.zone ≡ Some place
    → locked_place h (answered asked m).1.heap.zone ≡ Some place
