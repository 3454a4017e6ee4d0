use Rattle.block_store.proofs.Cited.{◌≡◌, true, false, List, [], ◌∷◌, replicate, refl, Some, option_map, Flags, Block, Free, Masters}
use Rattle.block_store.proofs.Cited.{Relocatable, no_flags, tidy, RunSpot, run_at, runs, settle, with_run, lowered_in_run, lowered}
use Rattle.block_store.proofs.Cited.{distance, settled, lowered_in_runs}

-- Worked examples of what settling counts, by the definitions alone.

abbrev locked : Flags
locked = record { locked = true; purgeable = false }

-- block 1 has no Free bytes below it in its run, blocks 2 and 3 have; block 4 is locked, and 5 is in the run above it
abbrev before : List Block
before = Masters ∷ Relocatable 1 no_flags (replicate 16 0) ∷ Free 48 ∷ Relocatable 2 no_flags []
    ∷ Relocatable 3 no_flags [] ∷ Relocatable 4 locked [] ∷ Free 16 ∷ Relocatable 5 no_flags [] ∷ []

-- the run above the Masters block, settled
abbrev after : List Block
after = Masters ∷ Relocatable 1 no_flags (replicate 16 0) ∷ Relocatable 2 no_flags [] ∷ Relocatable 3 no_flags []
    ∷ Free 48 ∷ Relocatable 4 locked [] ∷ Free 16 ∷ Relocatable 5 no_flags [] ∷ []

settled-after : option_map (λ (r : RunSpot). tidy (with_run settle r)) (run_at 272 before) ≡ Some after
settled-after = refl

two-lower : lowered before after ≡ 2
two-lower = refl

two-lowered_in_run : option_map (λ (r : RunSpot). lowered_in_run r.run) (run_at 272 before) ≡ Some 2
two-lowered_in_run = refl

second-was : distance 2 before ≡ Some 352
second-was = refl

second-is : distance 2 after ≡ Some 304
second-is = refl

-- with all three runs settled, block 5 stands lower too; the lowest run, below the Masters block, has no block
three-lower : lowered before (settled 3 before) ≡ 3
three-lower = refl

three-lowered_in_run : lowered_in_runs 3 (runs before) ≡ 3
three-lowered_in_run = refl

two-runs : lowered_in_runs 2 (runs before) ≡ 2
two-runs = refl

-- the other way round none stands lower
none-back : lowered after before ≡ 0
none-back = refl
