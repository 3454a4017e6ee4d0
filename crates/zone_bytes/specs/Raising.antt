-- A run whose relocatable blocks are raised.
use Rattle.std.specs.Prelude.{◌≡◌, ℕ, ◌+◌, ◌%◌, ◌≤◌, ◌<◌, List, ◌++◌}
use Rattle.block_store.specs.Block.{Block, Free, free_sum, sizes, tidy}
use Rattle.block_store.specs.Run.{low, movers}
use Rattle.zone_bytes.specs.Settling.{Lay, all, IsRunFrom, Packed, Relaid}

-- A run with the given number of free bytes at its bottom, then its relocatable blocks, and then its other free bytes.
abbrev pub lifted : ℕ → List Block → List Block
lifted gap run = tidy (low (Free gap) run)

-- The run of `lay` begins at `place`, and has at least `gap` free bytes.
pub record MayLift (lay : Lay) (place gap : ℕ) : Type 0 where
  pub run : IsRunFrom lay place (place + sizes lay.run)
  pub some : 0 < gap
  pub even : gap % 16 ≡ 0
  pub enough : gap ≤ free_sum lay.run

abbrev pub Lifted : Lay → ℕ → List ℕ → Type 0
Lifted lay gap = Relaid lay.resource (all lay) (lay.below ++ (lifted gap lay.run ++ lay.above)) lay.bytes

-- The run of `lay` lies packed in `xs`, its blocks from `place` to `top` and its free block up to `stop`, and the slots
-- of its relocatable blocks lead to the places `gap` above them.
pub record MayRaise (lay : Lay) (place top stop gap : ℕ) (xs : List ℕ) : Type 0 where
  pub lift : MayLift lay place gap
  pub moves : ℕ
  pub packed : Packed lay gap moves xs
  pub top_at : top ≡ place + sizes (movers lay.run)
  pub stop_at : stop ≡ place + sizes lay.run
  pub some : place < top
