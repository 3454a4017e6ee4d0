use Rattle.std.specs.Prelude.{ℕ, ◌+◌, Bool, Option, Some, None, List, [], ◌∷◌, length, is_some, if◌then◌else◌}
use Rattle.mac_words.specs.Size.{phys}
use Rattle.block_store.specs.Block.{Block, is_relocatable, content_of}
use Rattle.block_store.specs.Room.{Spot, spot}
use Rattle.moves.specs.Moves.{Write}
use Rattle.moves.specs.Seeking.{Sought, around}
use Rattle.heap_calls.specs.Copying.{written_in}
use Rattle.heap_calls.specs.Inner.Went.{seek_sized}

-- Bytes appended to a block.

-- A size, if a block can have it.
abbrev pub size_for : ℕ → Option ℕ
size_for n = if is_some (phys n) then Some n else None

-- The zone with x written after the first len bytes of the block of a slot.
abbrev pub behind : ℕ → ℕ → List ℕ → List Block → List Block
behind slot len x zone = written_in slot len x zone (spot (is_relocatable slot) zone)

-- The bytes of the block at a spot.
abbrev pub bytes_of : Option Spot → List ℕ
bytes_of None = []
bytes_of (Some s) = content_of s.here

-- The logical size in bytes of the block of a slot.
abbrev pub length_of : ℕ → List Block → ℕ
length_of slot zone = length (bytes_of (spot (is_relocatable slot) zone))

-- The search where x is appended to the block of a slot.
abbrev pub seek_longer : ℕ → List ℕ → (Block → Bool) → List Block → Sought
seek_longer slot x spared zone = around [] (Write slot (length_of slot zone) x ∷ [])
    (seek_sized (is_relocatable slot) (length_of slot zone + length x) spared zone)
