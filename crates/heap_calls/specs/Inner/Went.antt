use Rattle.std.specs.Prelude.{◌≡◌, ℕ, Bool, Option, Some, None, List, length}
use Rattle.block_store.specs.Block.{Block, rename, resized}
use Rattle.block_store.specs.Room.{Spot, spot, spot_at}
use Rattle.block_store.specs.Rest.{Rest, counted}
use Rattle.moves.specs.Moves.{Grow, did}
use Rattle.moves.specs.Seeking.{Sought, no_room, seek, seek_in_place, seek_size}
use Rattle.heap_calls.specs.Gone.{Gone, told_blocks}
use Rattle.heap_calls.specs.Inner.Growing.{grown}
use Rattle.heap_calls.specs.Inner.Numbered.{handle_number, pointer_number}
use Rattle.heap_calls.specs.declared.anchor.Anchor.{Anchor}

-- How a store goes the path of a search.

-- What was done in a store is what the path of a search does: whether room was found, the searches for it, the zone that
-- is left, and the blocks that were moved down.
pub record Went (spared : Block → Bool) (zone : List Block) (p : Sought) (found : Bool) (searches : ℕ)
    (zone' : List Block) (rest rest' : Rest) : Type 0 where
  pub finds : found ≡ p.found
  pub leaves : zone' ≡ (did spared p.path zone).zone
  pub looks : searches ≡ (did spared p.path zone).searches
  pub lowers : rest'.moves ≡ counted rest.moves (did spared p.path zone).lowered

-- Blocks of a store, by the numbers of their handles.
abbrev pub told_named : List Anchor → List Block → List Gone
told_named entries blocks =
    told_blocks (length entries) (rename (handle_number entries) (pointer_number entries) blocks)

-- The blocks of a store that go on the path of a search.
abbrev pub told_along : List Anchor → (Block → Bool) → Sought → List Block → List Gone
told_along entries spared p zone = told_named entries (did spared p.path zone).gone

-- A search for the block at a spot; none where no block stands there.
abbrev pub at_spot : (Spot → Sought) → Option Spot → Sought
at_spot search None = no_room
at_spot search (Some s) = search s

-- The search where the block that passes a test gets n bytes of content, that where it grows to them and may move, and
-- that where the block at a place grows to them and stays there.
abbrev pub seek_sized : (Block → Bool) → ℕ → (Block → Bool) → List Block → Sought
seek_sized test n spared zone = at_spot (seek_size n spared zone) (spot test zone)

abbrev pub seek_growth : (Block → Bool) → ℕ → (Block → Bool) → List Block → Sought
seek_growth test n spared zone = seek (Grow (grown n (spot test zone))) spared zone

abbrev pub seek_still : ℕ → ℕ → (Block → Bool) → List Block → Sought
seek_still place n spared zone = at_spot (λ s. seek_in_place (resized n s.here) spared s) (spot_at place zone)
