-- The value and the invariant of a `RawWalk`.
use Rattle.std.specs.Prelude.{List}
use Rattle.block_store.specs.Block.{Block}
use Rattle.zone_bytes.specs.Stepping.{left_in, IsOnWay}
use Rattle.zone_bytes.specs.declared.raw_walk.RawWalk.TheInside.{Inside}

abbrev pub walk_view : Inside → List Block
walk_view w = left_in w.at w.part.now.bytes

abbrev pub IsRawWalk : Inside → Type 0
IsRawWalk w = IsOnWay w.at w.part.now.bytes
