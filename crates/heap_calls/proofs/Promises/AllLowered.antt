use Rattle.heap_calls.proofs.Cited.{ℕ, ◌≤◌, Bool, List, length, refl, arith, cond, phys, Block, count, is_relocatable, runs, lowest_purged}
use Rattle.heap_calls.proofs.Cited.{runs_settled, tidy-tidy, counts-free, purged-le, settled_lowered, settled_none_rises, State, nothing}
use Rattle.heap_calls.proofs.Cited.{OneBlockEach, CompactCountsLowered, CompactRaisesNone, MaxCountsLowered, MaxRaisesNone, purged_all}
use Rattle.heap_calls.proofs.Cited.{purgeable}

-- Compaction counts the blocks that stand lower afterwards, and leaves none higher.

-- CompactMem
pub compact-lowered : (n : ℕ) (s : State) → CompactCountsLowered n s
compact-lowered n s once tidied = settled_lowered (runs_settled (phys n) s.zone) s.zone once tidied

pub compact-raises_none : (n : ℕ) (s : State) → CompactRaisesNone n s
compact-raises_none n s = settled_none_rises (runs_settled (phys n) s.zone) s.zone

-- a purge leaves no handle two blocks
purged-once : (zone : List Block) → OneBlockEach zone → OneBlockEach (purged_all zone)
purged-once zone once h =
    let test : Block → Bool = is_relocatable h in
    let one : count test zone ≤ 1 = once h in
    let le : count test (purged_all zone) ≤ count test zone =
    purged-le (λ (b : Block). cond {A = ℕ} (test b) 1 0) (counts-free test (λ n. refl)) (purgeable zone) nothing zone in
    omega arith

-- MaxMem
pub max-lowered : (s : State) → MaxCountsLowered s
max-lowered s once =
    settled_lowered (length (runs (purged_all s.zone))) (purged_all s.zone) (purged-once s.zone once)
    (tidy-tidy (lowest_purged (purgeable s.zone) nothing s.zone))

pub max-raises_none : (s : State) → MaxRaisesNone s
max-raises_none s = settled_none_rises (length (runs (purged_all s.zone))) (purged_all s.zone)
