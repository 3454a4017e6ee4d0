-- A walk over the headers of a zone.
use Rattle.std.specs.Prelude.{◌≡◌, ℕ, ◌+◌, ◌%◌, Bool, List, length, drop}
use Rattle.block_store.specs.Block.{Block, sizes}
use Rattle.zone_bytes.specs.Layout.{head_of, Tiles}

-- The blocks `rest` are those from the place `at` on.
pub record Walk (resource : ℕ → Bool) (at : ℕ) (xs : List ℕ) (rest : List Block) : Type 0 where
  pub high : Tiles (head_of resource) (drop at xs) rest
  pub up : at + sizes rest ≡ length xs
  pub whole : at % 16 ≡ 0
