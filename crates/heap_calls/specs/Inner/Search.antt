use Rattle.std.specs.Prelude.{◌≡◌, ℕ, Option, Some, None, List}
use Rattle.block_store.specs.Block.{is_room, Block}
use Rattle.block_store.specs.Run.{has_free}
use Rattle.block_store.specs.Room.{Spot, spot, spot_at, place}
use Rattle.block_store.specs.Find.{FindsLowest, FindsLowestRun}
use Rattle.heap_calls.specs.declared.search.Placement.{Placement}
use Rattle.heap_calls.specs.declared.search.Placement.TheVariants as see

-- Where a relocatable block of p bytes is put in a zone: in the lowest free block that is large enough, else in the
-- lowest run that has p free bytes.
abbrev pub FindsPlacement : ℕ → List Block → Option Placement → Type 0
FindsPlacement p zone None = place p zone ≡ None
FindsPlacement p zone (Some (see.Free at)) = FindsLowest (is_room p) zone (Some at)
FindsPlacement p zone (Some (see.Run run)) = (spot (is_room p) zone ≡ None) × FindsLowestRun (has_free p) zone
    (Some run)

-- The spot that is sought stands at this place in the zone; `None` where no spot is sought.
abbrev pub IsAt : Option Spot → List Block → Option ℕ → Type 0
IsAt wanted zone None = wanted ≡ None
IsAt wanted zone (Some place) = (s : Spot) × (wanted ≡ Some s) × (spot_at place zone ≡ Some s)
