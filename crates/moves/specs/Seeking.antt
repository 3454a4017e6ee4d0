use Rattle.std.specs.Prelude.{ℕ, ◌+◌, Bool, true, false, List, [], ◌∷◌, ◌++◌, map}
use Rattle.std.specs.Prelude.{is_some, nat_le, if◌then◌else◌}
use Rattle.mac_words.specs.Size.{phys}
use Rattle.block_store.specs.Block.{Block, Masters, size, is_mover, resized}
use Rattle.block_store.specs.Run.{has_free, segments}
use Rattle.block_store.specs.Room.{Spot, purge, count_of}
use Rattle.block_store.specs.Grow.{growth, grow_up}
use Rattle.block_store.specs.Compact.{least_or_last}
use Rattle.moves.specs.Moves.{Move, Search, Purge, Base, Grow, Extend, Push, Cut, did, moved, run_above, rename_move}

-- Searches for room, as paths of moves. Inside Macintosh: Memory, chapter 1, "Purging and Reallocating Memory Blocks".

-- Whether room was found, and the path that was taken: no further than the search, where none was.
pub record Sought : Type 0 where
  pub found : Bool
  pub path : List Move

-- No room is sought: there is none, or there is some already.
abbrev pub no_room : Sought
no_room = record { found = false; path = [] }

abbrev pub at_hand : List Move → Sought
at_hand path = record { found = true; path = path }

-- A search at each number of purges up to k, and the moves into the room if there is some.
-- See decision 28 (one number of purges is one search).
abbrev pub sought : ℕ → Bool → List Move → Sought
sought k found taking = record { found = found; path = Search (k + 1) ∷ (if found then taking else []) }

-- The least number of purges after which there is room, or all that there can be.
abbrev pub purges_for : (List Block → Bool) → (Block → Bool) → List Block → ℕ
purges_for there spared blocks = least_or_last (λ k. there (purge k spared blocks)) (count_of spared blocks)

-- A search for the place of a move, which is made after as few purges as serve.
abbrev pub seek : Move → (Block → Bool) → List Block → Sought
seek move spared zone = sought k (there (purge k spared zone)) (Purge k ∷ move ∷ [])
  where
    there : List Block → Bool
    there z = is_some (moved spared move z)

    k : ℕ
    k = purges_for there spared zone

-- What is sought where a block can have n bytes of content.
abbrev pub if_fits : ℕ → Sought → Sought
if_fits n found = if is_some (phys n) then found else no_room

-- A search for a master pointer: none where one is unused.
-- See decision 23 (master pointers are added before the block is sought).
abbrev pub seek_slot : Bool → (Block → Bool) → List Block → Sought
seek_slot unused spared zone = if unused then at_hand [] else seek (Base Masters) spared zone

-- What is sought after room was found.
abbrev pub then_seek : (Block → Bool) → List Block → Sought → (List Block → Sought) → Sought
then_seek spared zone first next =
    if first.found then record { found = more.found; path = first.path ++ more.path } else first
  where
    more : Sought
    more = next (did spared first.path zone).zone

-- The search for the growth of a nonrelocatable or locked block: into the free block above it, else into the run above
-- it, in which as few blocks as serve are purged.
-- See decision 25 (a locked block grows in two ways).
abbrev pub seek_in_place : Block → (Block → Bool) → Spot → Sought
seek_in_place new spared s = if is_some (grow_up new s) then sought 0 true (Extend new ∷ [])
    else sought k (has_free (growth new s) (run_above k spared s)) (Push new k ∷ [])
  where
    k : ℕ
    k = purges_for (has_free (growth new s)) spared (segments s.above).first

-- The search where the block in this place gets another size: none where it is cut.
-- See decision 26 (an unlocked block grows in three ways at each number of purges).
abbrev pub seek_resized : Block → (Block → Bool) → List Block → Spot → Sought
seek_resized new spared zone s =
    if nat_le (size new) (size s.here) then at_hand (Cut new ∷ [])
    else (if is_mover s.here then seek (Grow new) spared zone else seek_in_place new spared s)

-- The search where the block in this place gets n bytes of content.
abbrev pub seek_size : ℕ → (Block → Bool) → List Block → Spot → Sought
seek_size n spared zone s = if_fits n (seek_resized (resized n s.here) spared zone s)

-- Where room was found, moves before and after those into the room.
abbrev pub around : List Move → List Move → Sought → Sought
around before later s = record s { path = if s.found then before ++ s.path ++ later else s.path }

-- The same with the names of blocks changed.
abbrev pub rename_sought : (ℕ → ℕ) → (ℕ → ℕ) → Sought → Sought
rename_sought f g s = record s { path = map (rename_move f g) s.path }
