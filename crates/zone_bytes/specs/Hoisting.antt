-- A block that is moved above the other blocks of its run.
use Rattle.std.specs.Prelude.{ℕ, Bool, List, [], ◌∷◌, ◌++◌}
use Rattle.block_store.specs.Block.{Block}
use Rattle.zone_bytes.specs.Settling.{Lay, all, IsRunFrom, Relaid}

-- A block, those that follow it in its run, and what is below and above them.
pub record Hoist : Type 0 where
  pub resource : ℕ → Bool
  pub below : List Block
  pub block : Block
  pub over : List Block
  pub above : List Block
  pub bytes : List ℕ

abbrev pub unhoisted : Hoist → Lay
unhoisted z = record {
  resource = z.resource;
  below = z.below;
  run = z.block ∷ z.over;
  above = z.above;
  bytes = z.bytes;
}

abbrev pub hoisted_run : Hoist → List Block
hoisted_run z = z.over ++ z.block ∷ []

-- The block is at `place`, and the last block that follows it in its run ends at `stop`.
pub record MayHoist (z : Hoist) (place stop : ℕ) : Type 0 where
  pub run : IsRunFrom (unhoisted z) place stop

abbrev pub Hoisted : Hoist → List ℕ → Type 0
Hoisted z = Relaid z.resource (all (unhoisted z)) (z.below ++ (hoisted_run z ++ z.above)) z.bytes
