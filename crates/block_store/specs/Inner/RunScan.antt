use Rattle.std.specs.Prelude.{ℕ, ◌+◌, zero, suc, Bool, true, false, ◌&&◌, ◌||◌, ◌==◌, Option, Some, None, List, [], ◌∷◌}
use Rattle.std.specs.Prelude.{if◌then◌else◌, nat_le}
use Rattle.block_store.specs.Block.{Block, Free, Nonrelocatable, Masters, Relocatable, size, free_of}
use Rattle.block_store.specs.Run.{in_run, has, has_free}
use Rattle.block_store.specs.Room.{may_be_purged}
use Rattle.block_store.specs.declared.run_search.RunScan.{RunScan}

-- How a search for a run goes over the blocks: a run ends at a barrier, and blocks that would be purged count as free.

-- The master pointer is the given one.
abbrev pub is_number : Option ℕ → ℕ → Bool
is_number None id = false
is_number (Some number) id = id == number

-- The block is that of the given master pointer, which the run must have.
abbrev pub is_wanted : Option ℕ → Block → Bool
is_wanted number (Free n) = false
is_wanted number (Nonrelocatable id content) = false
is_wanted number Masters = false
is_wanted number (Relocatable id flags content) = is_number number id

-- No master pointer is given, so that the run need have no block.
abbrev pub any_run : Option ℕ → Bool
any_run None = true
any_run (Some number) = false

-- The run has the block that it must have.
abbrev pub meets : Option ℕ → List Block → Bool
meets number run = any_run number || has (is_wanted number) run

-- The run has the block that it must have, and at least p free bytes.
abbrev pub suits : Option ℕ → ℕ → List Block → Bool
suits number p run = meets number run && has_free p run

-- The run has the block that it must have, where `met` says this of the blocks before this one.
abbrev pub met_after : Option ℕ → Bool → Block → Bool
met_after number met (Free n) = met
met_after number met (Nonrelocatable id content) = met
met_after number met Masters = met
met_after number met (Relocatable id flags content) = met || is_number number id

-- The place of the lowest run that suits, where the current run began at start and has `free` free bytes so far, and
-- the k lowest blocks that may be purged count as free.
abbrev pub scan_runs : Option ℕ → ℕ → (Block → Bool) → ℕ → ℕ → ℕ → Bool → ℕ → List Block → Option ℕ
scan_runs number p spared k start free met place [] = if met && nat_le p free then Some start else None
scan_runs number p spared zero start free met place (b ∷ above) =
    if in_run b then scan_runs number p spared zero start (free + free_of b) (met_after number met b)
    (place + size b) above
    else (if met && nat_le p free then Some start
    else scan_runs number p spared zero (place + size b) 0 (any_run number) (place + size b) above)
scan_runs number p spared (suc k) start free met place (b ∷ above) =
    if may_be_purged spared b then scan_runs number p spared k start (free + size b) met (place + size b) above
    else (if in_run b then scan_runs number p spared (suc k) start (free + free_of b) (met_after number met b)
    (place + size b) above
    else (if met && nat_le p free then Some start
    else scan_runs number p spared (suc k) (place + size b) 0 (any_run number) (place + size b) above))

-- The answer of a search from its present state on.
abbrev pub scan_from : Option ℕ → ℕ → (Block → Bool) → RunScan → List Block → Option ℕ
scan_from number p spared s above = scan_runs number p spared s.left s.start s.free s.met s.place above
