use Rattle.std.specs.Prelude.{◌≡◌, ℕ, Bool, Option, Some, None, List, is_some, unwrap_or}
use Rattle.std.specs.Bool.{IsTrue}
use Rattle.std.specs.Option.{option_map, IsSomeAnd}
use Rattle.block_store.specs.Block.{Block, size, is_room}
use Rattle.block_store.specs.Room.{spot_at, filled}
use Rattle.block_store.specs.Rest.{Rest}
use Rattle.moves.specs.Moves.{Move}
use Rattle.moves.specs.Seeking.{seek}
use Rattle.heap_calls.specs.Inner.Went.{Went}
use Rattle.heap_calls.specs.declared.search.Room.{Room}

-- Room that is made for a block, before the block is put there.

-- The zone with a block at the lower end of the block at a place; as it is where there is no place.
abbrev pub filled_at : Block → Option ℕ → List Block → List Block
filled_at new None zone = zone
filled_at new (Some place) zone = unwrap_or (option_map (filled new) (spot_at place zone)) zone

-- A free block of at least p bytes stands at the place, if there is one.
abbrev pub HasRoomAt : ℕ → Option ℕ → List Block → Type 0
HasRoomAt p None zone = Unit {0}
HasRoomAt p (Some place) zone = IsSomeAnd (spot_at place zone) (λ s. IsTrue (is_room p s.here))

-- With a block of p bytes in the room that was made, the store has gone the path of the search for that block's place;
-- with any such block.
abbrev pub MakesRoom : ℕ → (Block → Move) → (Block → Bool) → List Block → Room → List Block → Rest → Rest → Type 0
MakesRoom p move spared zone room zone' rest rest' = (new : Block) → size new ≡ p → Went spared zone
    (seek (move new) spared zone) (is_some room.place) room.searches (filled_at new room.place zone') rest rest'
