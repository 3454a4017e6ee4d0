-- The run and the block at a place of the zone that bytes spell.
use Rattle.std.specs.Prelude.{ℕ, List, [], Option, Some, None, drop, length}
use Rattle.block_store.specs.Block.{Masters}
use Rattle.block_store.specs.Run.{RunSpot, run_at, segments}
use Rattle.block_store.specs.Room.{Spot, spot_at}
use Rattle.zone_bytes.specs.Settling.{Lay}
use Rattle.zone_bytes.specs.Hoisting.{Hoist}
use Rattle.zone_bytes.specs.Decode.{zone_in}
use Rattle.zone_bytes.specs.Table.{slot_in}
use Rattle.block_store.specs.Slot.{is_resource}

abbrev pub lay_from : List ℕ → Option RunSpot → Lay
lay_from xs None = record { resource = λ s. is_resource (slot_in xs s); below = []; run = []; above = []; bytes = xs }
lay_from xs (Some r) = record {
  resource = λ s. is_resource (slot_in xs s);
  below = r.below;
  run = r.run;
  above =
      r.above;
  bytes = xs;
}

-- The run at a place.
abbrev pub lay_at : List ℕ → ℕ → Lay
lay_at xs place = lay_from xs (run_at place (zone_in xs))

abbrev pub hoist_from : List ℕ → Option Spot → Hoist
hoist_from xs None = record {
  resource = λ s. is_resource (slot_in xs s);
  below = [];
  block = Masters;
  over =
      [];
  above = [];
  bytes = xs;
}
hoist_from xs (Some s) = record {
  resource = λ s. is_resource (slot_in xs s);
  below = s.below;
  block = s.here;
  over = (segments s.above).first;
  above = drop (length (segments s.above).first) s.above;
  bytes = xs;
}

-- The block at a place, and those that follow it in its run.
abbrev pub hoist_at : List ℕ → ℕ → Hoist
hoist_at xs place = hoist_from xs (spot_at place (zone_in xs))
