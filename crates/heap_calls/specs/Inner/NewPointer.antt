use Rattle.std.specs.Prelude.{◌≡◌, ℕ, true, false, Option, Some, None, List, replicate}
use Rattle.block_store.specs.Block.{Block, Nonrelocatable, is_nonrelocatable}
use Rattle.block_store.specs.Run.{has}
use Rattle.moves.specs.Moves.{Base}
use Rattle.moves.specs.Seeking.{Sought, seek, if_fits}
use Rattle.heap_calls.specs.Answer.{nothing}

-- A new nonrelocatable block of n bytes, all 0.
abbrev pub fresh_nonrelocatable : ℕ → ℕ → Block
fresh_nonrelocatable name n = Nonrelocatable name (replicate n 0)

-- The search for its room.
abbrev pub seek_pointer : ℕ → ℕ → List Block → Sought
seek_pointer name n zone = if_fits n (seek (Base (fresh_nonrelocatable name n)) nothing zone)

-- A nonrelocatable block stands at a place where none stood, and every other one is still there.
pub record Stands (place : ℕ) (zone zone' : List Block) : Type 0 where
  pub none : has (is_nonrelocatable place) zone ≡ false
  pub there : has (is_nonrelocatable place) zone' ≡ true
  pub others : (other : ℕ) → has (is_nonrelocatable other) zone ≡ true → has (is_nonrelocatable other) zone' ≡ true

-- The place of a new nonrelocatable block; `None` where there is none, and then nothing changed.
abbrev pub IsNewPlace : Option ℕ → List Block → List Block → Type 0
IsNewPlace None zone zone' = zone' ≡ zone
IsNewPlace (Some place) zone zone' = Stands place zone zone'
