use Rattle.std.specs.Prelude.{◌≡◌, ℕ, zero, suc, Option, Some, None, List, [], ◌∷◌, ◌++◌}
use Rattle.std.specs.Option.{option_map}
use Rattle.block_store.specs.Block.{Block, sizes}
use Rattle.block_store.specs.Run.{Stretch, RunSpot, segments, run_raised, run_at}
use Rattle.block_store.specs.Compact.{beyond}

-- The run of an index, counted from 0 at a run with parts above it.
abbrev pub nth_run_of : ℕ → List Block → List Stretch → Option RunSpot
nth_run_of zero run parts = Some (record { below = []; run = run; above = beyond parts })
nth_run_of (suc i) run [] = None
nth_run_of (suc i) run (p ∷ parts) = option_map (run_raised (run ++ p.barrier ∷ [])) (nth_run_of i p.run parts)

-- The run of an index, counted from 0 at the lowest run of the zone.
abbrev pub nth_run : ℕ → List Block → Option RunSpot
nth_run i zone = nth_run_of i (segments zone).first (segments zone).rest

-- The answer is the place of the run of an index; none where there is no run of this index.
abbrev pub FindsRun : ℕ → List Block → Option ℕ → Type 0
FindsRun i zone None = nth_run i zone ≡ None
FindsRun i zone (Some place) = (r : RunSpot) × (nth_run i zone ≡ Some r) × (run_at place zone ≡ Some r)
    × (sizes r.below ≡ place)
