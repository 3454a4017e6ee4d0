use Rattle.heap_calls.proofs.Cited.{ℕ, ◌+◌, ◌≤◌, zero, suc, Bool, true, false, List, [], ◌∷◌, refl, cond, arith, map, length, phys, Block}
use Rattle.heap_calls.proofs.Cited.{Free, Nonrelocatable, Masters, Relocatable, size, count, is_mover, in_run, Stretch, Segments, segments}
use Rattle.heap_calls.proofs.Cited.{runs, may_be_purged, lowest_purged, purge, lowered_in_runs, runs_settled, lowered_in_run, total-tidy}
use Rattle.heap_calls.proofs.Cited.{State, nothing, compact_mem_moves, max_mem_moves, purged_all, purgeable}

-- Compaction moves each block at most once: it moves no more than may be moved.

lowered_in_run-le : (run : List Block) → lowered_in_run run ≤ count is_mover run
lowered_in_run-le [] = omega arith
lowered_in_run-le (Free n ∷ run) = omega arith
lowered_in_run-le (Nonrelocatable id content ∷ run) = omega (arith, lowered_in_run-le run)
lowered_in_run-le (Masters ∷ run) = omega (arith, lowered_in_run-le run)
lowered_in_run-le (Relocatable id flags content ∷ run) = omega (arith, lowered_in_run-le run)

abbrev movers_in : List (List Block) → ℕ
movers_in [] = 0
movers_in (run ∷ rs) = count is_mover run + movers_in rs

lowered_in_runs-le : (k : ℕ) (rs : List (List Block)) → lowered_in_runs k rs ≤ movers_in rs
lowered_in_runs-le zero rs = omega arith
lowered_in_runs-le (suc k) [] = omega arith
lowered_in_runs-le (suc k) (run ∷ rs) = omega (arith, lowered_in_run-le run, lowered_in_runs-le k rs)

abbrev in_segments : Segments → ℕ
in_segments s = count is_mover s.first + movers_in (map (λ (p : Stretch). p.run) s.rest)

segments-le : (zone : List Block) → in_segments (segments zone) ≤ count is_mover zone
segments-le [] = omega arith
segments-le (b ∷ above) = cases (in_run b) (segments-le above)
  where
    cases : (t : Bool) → in_segments (segments above) ≤ count is_mover above
        → in_segments (cond t (record { first = b ∷ (segments above).first; rest = (segments above).rest })
        (record { first = []; rest = record { barrier = b; run = (segments above).first } ∷ (segments above).rest }))
        ≤ cond {A = ℕ} (is_mover b) 1 0 + count is_mover above
    cases true le = omega (arith, le)
    cases false le = omega (arith, le)

falls_of-le : (k : ℕ) (zone : List Block) → lowered_in_runs k (runs zone) ≤ count is_mover zone
falls_of-le k zone = omega (arith, lowered_in_runs-le k (runs zone), segments-le zone)

lowest_purged-le : (k : ℕ) (sp : Block → Bool) (bs : List Block) → count is_mover (lowest_purged k sp bs) ≤ count
    is_mover bs
lowest_purged-le zero sp bs = omega arith
lowest_purged-le (suc k) sp [] = omega arith
lowest_purged-le (suc k) sp (b ∷ bs) = cases (may_be_purged sp b) (lowest_purged-le k sp bs)
    (lowest_purged-le (suc k) sp bs)
  where
    cases : (m : Bool) → count is_mover (lowest_purged k sp bs) ≤ count is_mover bs
        → count is_mover (lowest_purged (suc k) sp bs) ≤ count is_mover bs
        → count is_mover (cond m (Free (size b) ∷ lowest_purged k sp bs) (b ∷ lowest_purged (suc k) sp bs)) ≤ cond
        {A = ℕ}
        (is_mover b) 1 0 + count is_mover bs
    cases true one more = omega (arith, one)
    cases false one more = omega (arith, more)

purged-le : (k : ℕ) (sp : Block → Bool) (bs : List Block) → count is_mover (purge k sp bs) ≤ count is_mover bs
purged-le k sp bs =
    let e = total-tidy (λ (b : Block). cond {A = ℕ} (is_mover b) 1 0) (λ n m. refl) (lowest_purged k sp bs) in
    omega (arith, lowest_purged-le k sp bs, e)

-- CompactMem
pub compact_mem_once : (n : ℕ) (s : State) → compact_mem_moves n s ≤ count is_mover s.zone
compact_mem_once n s = falls_of-le (runs_settled (phys n) s.zone) s.zone

-- MaxMem
pub max_mem_once : (s : State) → max_mem_moves s ≤ count is_mover s.zone
max_mem_once s = omega (
  arith,
  falls_of-le (length (runs (purged_all s.zone))) (purged_all s.zone),
  purged-le
      (purgeable s.zone) nothing s.zone,
)
