use Rattle.std.specs.Prelude.{ℕ, ◌+◌, ◌-◌, Bool, false, zero, suc, Option, Some, None, List, [], ◌∷◌, ◌++◌, unwrap_or}
use Rattle.std.specs.Prelude.{is_some, ◌&&◌, option_and_then, if◌then◌else◌}
use Rattle.std.specs.Option.{option_map}
use Rattle.memory_windows.specs.Writes.{written}
use Rattle.block_store.specs.Block.{Block, Free, Nonrelocatable, Masters, Relocatable, size, free, free_sum, is_room}
use Rattle.block_store.specs.Block.{is_relocatable, is_nonrelocatable, content_of, with_content, rename, rename_block}
use Rattle.block_store.specs.Run.{RunSpot, run_spot, has_free, has, high, segments, joined, movers}
use Rattle.block_store.specs.Room.{Spot, spot, filled, place, put_in_place, put_at_base, may_be_purged, purge}
use Rattle.block_store.specs.Grow.{growth, grow_up, grow_mover, freed}
use Rattle.block_store.specs.Rest.{lowered_in_run}

-- What a call does to a zone, move by move. The zone that a call leaves, the searches for room that it makes, the blocks
-- that its packing moves down, and the blocks that it purges are all read off the moves. Inside Macintosh: Memory,
-- chapter 1, "Heap Management".

-- A move. `Search`: so many searches for room are made. `Purge`: the lowest blocks that may be purged, so many, are
-- purged. `Put`: a relocatable block is put into the lowest free block that is large enough, for which a run may be
-- packed. `Base`: a block is put at the bottom of a run. `Grow`: an unlocked block grows, where it stands, in another
-- place, or at the end of its run. `Extend`: a block grows into the free block above it. `Push`: a block grows where the
-- run above it lies, in which so many blocks are purged. `Cut`: a block is cut. `Drop`: the block of a handle is freed.
-- `Write`: bytes are written into the block of a handle, from an offset on. A block that grows or is cut is named by the
-- block that it becomes.
pub data Move : Type 0 where
  Search : (searches : ℕ) → Move
  Purge : (purges : ℕ) → Move
  Put : (new : Block) → Move
  Base : (new : Block) → Move
  Grow : (new : Block) → Move
  Extend : (new : Block) → Move
  Push : (new : Block) (purges : ℕ) → Move
  Cut : (new : Block) → Move
  Drop : (handle : ℕ) → Move
  Write : (handle : ℕ) (offset : ℕ) (bytes : List ℕ) → Move

-- The block has the same name, and is of the same kind; no block has the name of a free block or of master pointers.
abbrev pub is_same : Block → Block → Bool
is_same (Free n) b = false
is_same (Nonrelocatable id content) b = is_nonrelocatable id b
is_same Masters b = false
is_same (Relocatable id flags content) b = is_relocatable id b

-- The run above a block in its place, after so many purges in it.
abbrev pub run_above : ℕ → (Block → Bool) → Spot → List Block
run_above k spared s = purge k spared (segments s.above).first

-- The block grows into the bottom of the run above it, which is packed upward after so many purges in it.
abbrev pub pushed : ℕ → (Block → Bool) → Block → Spot → List Block
pushed k spared new s = s.below ++ new ∷ joined (movers (run_above k spared s)
    ++ free (free_sum (run_above k spared s) - growth new s)) (segments s.above).rest

-- The block in this place with bytes written into it from offset i on.
abbrev pub rewritten : ℕ → List ℕ → Spot → List Block
rewritten i x at = at.below ++ with_content (written i x (content_of at.here)) at.here ∷ at.above

-- The zone after a move; none where the move finds no place.
abbrev pub moved : (Block → Bool) → Move → List Block → Option (List Block)
moved spared (Search n) zone = Some zone
moved spared (Purge k) zone = Some (purge k spared zone)
moved spared (Put new) zone = put_in_place new zone
moved spared (Base new) zone = put_at_base new zone
moved spared (Grow new) zone = grow_mover (is_same new) new zone
moved spared (Extend new) zone = option_and_then (grow_up new) (spot (is_same new) zone)
moved spared (Push new k) zone = option_map (pushed k spared new) (spot (is_same new) zone)
moved spared (Cut new) zone = option_map (filled new) (spot (is_same new) zone)
moved spared (Drop h) zone = Some (freed (is_relocatable h) zone)
moved spared (Write h i x) zone = option_map (rewritten i x) (spot (is_relocatable h) zone)

-- The k lowest blocks that may be purged.
abbrev pub lowest_gone : ℕ → (Block → Bool) → List Block → List Block
lowest_gone zero spared blocks = []
lowest_gone (suc k) spared [] = []
lowest_gone (suc k) spared (b ∷ above) =
    if may_be_purged spared b then b ∷ lowest_gone k spared above else lowest_gone (suc k) spared above

-- The blocks that are purged in the run above a block.
abbrev pub gone_above : ℕ → (Block → Bool) → Option Spot → List Block
gone_above k spared None = []
gone_above k spared (Some s) = lowest_gone k spared (segments s.above).first

-- The blocks that a move purges, the lowest first.
abbrev pub gone_by : (Block → Bool) → Move → List Block → List Block
gone_by spared (Purge k) zone = lowest_gone k spared zone
gone_by spared (Push new k) zone = gone_above k spared (spot (is_same new) zone)
gone_by spared move zone = []

-- The blocks that packing a run moves down; none where there is no run.
-- See decision 19 (moves by compaction are counted).
abbrev pub lowered_in : Option RunSpot → ℕ
lowered_in None = 0
lowered_in (Some r) = lowered_in_run r.run

-- The blocks that are moved down to make a place of p bytes: none where a free block has them.
abbrev pub place_lowers : ℕ → List Block → ℕ
place_lowers p zone = if is_some (spot (is_room p) zone) then 0 else lowered_in (run_spot (has_free p) zone)

-- The blocks that are moved down where a block becomes the last of its run.
abbrev pub last_lowers : (Block → Bool) → Option RunSpot → ℕ
last_lowers test None = 0
last_lowers test (Some r) = lowered_in_run (high test r.run)

-- The blocks that are moved down where an unlocked block grows: none where it grows into the free block above it.
abbrev pub growth_lowers : Block → List Block → Option Spot → ℕ
growth_lowers new zone None = 0
growth_lowers new zone (Some s) =
    if is_some (grow_up new s) then 0
    else (if is_some (place (size new) zone) then place_lowers (size new) zone
    else last_lowers (is_same new) (run_spot (λ run. has (is_same new) run && has_free (growth new s) run) zone))

-- The blocks that a move moves down.
abbrev pub lowered_by : Move → List Block → ℕ
lowered_by (Put new) zone = place_lowers (size new) zone
lowered_by (Grow new) zone = growth_lowers new zone (spot (is_same new) zone)
lowered_by move zone = 0

-- The searches for room of a move.
abbrev pub searches_by : Move → ℕ
searches_by (Search n) = n
searches_by move = 0

-- What was done: the zone that is left, the searches for room, the number of blocks that were moved down, and the blocks
-- that were purged, the lowest of each search first.
pub record Did : Type 0 where
  pub zone : List Block
  pub searches : ℕ
  pub lowered : ℕ
  pub gone : List Block

-- Nothing was done.
abbrev pub untouched : List Block → Did
untouched zone = record { zone = zone; searches = 0; lowered = 0; gone = [] }

-- What was done, and then more.
abbrev pub and_then : Did → Did → Did
and_then first next = record {
  zone = next.zone;
  searches = first.searches + next.searches;
  lowered = first.lowered + next.lowered;
  gone = first.gone ++ next.gone;
}

-- What one move does. Where it finds no place it leaves the zone.
abbrev pub one : (Block → Bool) → Move → List Block → Did
one spared move zone = record {
  zone = unwrap_or (moved spared move zone) zone;
  searches = searches_by move;
  lowered = lowered_by move zone;
  gone = gone_by spared move zone;
}

-- What a path of moves does, one after the other. No move of it purges a spared block.
abbrev pub did : (Block → Bool) → List Move → List Block → Did
did spared [] zone = untouched zone
did spared (move ∷ path) zone = and_then (one spared move zone) (did spared path (one spared move zone).zone)

-- The same with the names of blocks changed.
abbrev pub rename_move : (ℕ → ℕ) → (ℕ → ℕ) → Move → Move
rename_move f g (Search n) = Search n
rename_move f g (Purge k) = Purge k
rename_move f g (Put new) = Put (rename_block f g new)
rename_move f g (Base new) = Base (rename_block f g new)
rename_move f g (Grow new) = Grow (rename_block f g new)
rename_move f g (Extend new) = Extend (rename_block f g new)
rename_move f g (Push new k) = Push (rename_block f g new) k
rename_move f g (Cut new) = Cut (rename_block f g new)
rename_move f g (Drop h) = Drop (f h)
rename_move f g (Write h i x) = Write (f h) i x

abbrev pub rename_did : (ℕ → ℕ) → (ℕ → ℕ) → Did → Did
rename_did f g d = record d { zone = rename f g d.zone; gone = rename f g d.gone }
