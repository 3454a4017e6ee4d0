-- The search for the lowest run with enough free bytes, as block_store makes it where no purges are left.
use Rattle.std.specs.Prelude.{ℕ, ◌+◌, Bool, true, Option, None, List, [], ◌∷◌, if◌then◌else◌}
use Rattle.block_store.specs.Block.{Block, size}
use Rattle.block_store.specs.Inner.RunScan.{scan_runs}
use Rattle.block_store.specs.Run.{in_run}

-- The place of the lowest run with `enough` free bytes, where the run of the first block began at `start` and has `free`
-- free bytes below the block, which begins at `place`.
abbrev pub found_from : ℕ → (Block → Bool) → ℕ → ℕ → ℕ → List Block → Option ℕ
found_from enough spared start free place blocks = scan_runs None enough spared 0 start free true place blocks

-- The bottom of the run that goes on after these blocks. The first of them is at `place`, and its run began at `start`.
abbrev pub begun_in : ℕ → ℕ → List Block → ℕ
begun_in start place [] = start
begun_in start place (b ∷ done) = begun_in (if in_run b then start else place + size b) (place + size b) done
