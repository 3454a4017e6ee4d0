use Rattle.std.specs.Prelude.{◌≡◌, ◌≤◌, ℕ, ◌==◌, Bool, false, Option, Some, List, length}
use Rattle.std.specs.Option.{option_map}
use Rattle.block_store.specs.Block.{Block, sizes, count, is_nonrelocatable}
use Rattle.block_store.specs.Room.{spot}
use Rattle.heap_calls.specs.State.{State, Memory}
use Rattle.heap_calls.specs.Table.{Asked, DisposePtr}
use Rattle.heap_calls.specs.Table.{answered}

-- A pointer's block stays where it is. Inside Macintosh: Memory, chapter 1, "Nonrelocatable Blocks".

-- The distance in bytes of the block of the pointer p from the bottom of the zone; `None` where there is no such
-- block.
abbrev pub pointer_place : ℕ → List Block → Option ℕ
pointer_place p zone = option_map (λ s. sizes s.below) (spot (is_nonrelocatable p) zone)

-- Whether a call disposes of the pointer p.
abbrev pub disposes : ℕ → Asked → Bool
disposes p (DisposePtr (Some k)) = k == p
disposes p asked = false

-- No block is yet that of the pointer with the next number.
abbrev pub NextIsNew : State → Type 0
NextIsNew s = count (is_nonrelocatable (length s.names)) s.zone ≤ 0

-- Each pointer's block stands after a call at the same distance from the bottom of the zone as before, unless the
-- call disposes of the pointer.
abbrev pub StaysNonrelocatable : Asked → Memory → Type 0
StaysNonrelocatable asked m = (p place : ℕ) → disposes p asked ≡ false → pointer_place p m.heap.zone ≡ Some place
    → pointer_place p (answered asked m).1.heap.zone ≡ Some place
