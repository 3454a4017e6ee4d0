-- A run that was moved as a whole, and whose slots are made to lead to its blocks again.
use Rattle.std.specs.Prelude.{◌≡◌, ℕ, ◌+◌, ◌≤◌, List, length}
use Rattle.block_store.specs.Block.{Block, sizes}
use Rattle.block_store.specs.Inner.Packing.{Loose}
use Rattle.zone_bytes.specs.Layout.{head_of, Tiles, Leads}
use Rattle.zone_bytes.specs.Settling.{Lay, all, HasSlots, Relaid, Passing}
use Rattle.block_store.specs.declared.measures.TheConstants.{GREATEST_ZONE}

-- The blocks lie in the bytes; the slots of the blocks of the run from `place` to `stop` may lead anywhere.
pub record IsMoved (lay : Lay) (place stop : ℕ) : Type 0 where
  pub tiles : Tiles (head_of lay.resource) lay.bytes (all lay)
  pub slots : HasSlots (all lay)
  pub bottom : sizes lay.below ≡ place
  pub top : place + sizes lay.run ≡ stop
  pub in_run : Loose lay.run
  pub small : length lay.bytes ≤ GREATEST_ZONE
  pub low : Leads 0 lay.below lay.bytes
  pub high : Leads stop lay.above lay.bytes

-- The slots of the blocks below `from` lead to these blocks; those of the rest of the run may lead anywhere.
pub record Pointing (lay : Lay) (from : ℕ) (xs : List ℕ) : Type 0 where
  pub done : List Block
  pub rest : List Block
  pub state : Passing lay 0 from from xs done done rest

abbrev pub Pointed : Lay → List ℕ → Type 0
Pointed lay = Relaid lay.resource (all lay) (all lay) lay.bytes
