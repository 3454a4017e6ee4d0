use Rattle.std.specs.Prelude.{◌≡◌, ℕ, ◌-◌, true, List, [], ◌∷◌, ◌++◌, take, drop}
use Rattle.block_store.specs.Block.{Block, Free, Nonrelocatable, Masters, Relocatable, free, free_sum}
use Rattle.block_store.specs.Run.{RunSpot, segments, in_run, movers}
use Rattle.block_store.specs.Compact.{beyond}

-- How a run is compacted in a list of blocks.

-- Each of the blocks may be part of a run.
abbrev pub Loose : List Block → Type 0
Loose [] = Unit {0}
Loose (b ∷ run) = (in_run b ≡ true) × Loose run

-- The block, with its bytes taken where it is a free block.
abbrev pub cleared : Block → Block
cleared (Free n) = Free 0
cleared (Nonrelocatable id content) = Nonrelocatable id content
cleared Masters = Masters
cleared (Relocatable id flags content) = Relocatable id flags content

-- The blocks, with the bytes of the lowest taken where it is a free block.
abbrev pub cleared_first : List Block → List Block
cleared_first [] = []
cleared_first (b ∷ above) = cleared b ∷ above

-- The run whose bottom has this index, with the blocks below it and above it.
abbrev pub run_of_index : ℕ → List Block → RunSpot
run_of_index i zone = record {
  below = take i zone;
  run = (segments (drop i zone)).first;
  above = beyond (segments (drop i zone)).rest;
}

-- The blocks between two indexes as a run, with the blocks below them and above them.
abbrev pub run_between : ℕ → ℕ → List Block → RunSpot
run_between i j zone = record { below = take i zone; run = take (j - i) (drop i zone); above = drop j zone }

-- The relocatable blocks of a run in order, then its free bytes, of which `less` are left out.
abbrev pub packed : ℕ → List Block → List Block
packed less run = movers run ++ free (free_sum run - less)
