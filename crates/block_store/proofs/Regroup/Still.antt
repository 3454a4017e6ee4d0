use Rattle.block_store.proofs.Cited.{◌≡◌, ℕ, ◌+◌, zero, suc, true, false, not, Some, List, [], ◌∷◌, ◌++◌, length, map, refl, sym, ap, ◌∙◌}
use Rattle.block_store.proofs.Cited.{arith, append_assoc, append-nil, cond-true, Block, Free, Relocatable, add, count, free, free_sum}
use Rattle.block_store.proofs.Cited.{is_mover, tidy, lowered_in_run, RunSpot, Stretch, joined, movers, run_at, runs, segments, settle}
use Rattle.block_store.proofs.Cited.{with_run, lowered_in_runs, settled, settled_runs, Loose}
use Rattle.block_store.proofs.Regroup.Packed.{tidy-below, tidy-free}
use Rattle.block_store.proofs.Regroup.Parts.{AreParts, in-parts}
use Rattle.block_store.proofs.Regroup.RunLists.{run_at-is, run_at-parts}
use Rattle.block_store.proofs.Regroup.Settling.{settled-tidy}
use Rattle.block_store.proofs.Zone.Joining.{joined-free}
use Rattle.block_store.proofs.Zone.Leading.{none-count}
use Rattle.block_store.proofs.Zone.Passing.{filter-none}
use Rattle.block_store.proofs.Zone.Zones.{joined-segments}

-- A run of which no block moves down when it is packed lies packed.

-- Free blocks one after another are one Free block
frees : (n : ℕ) (run above : List Block) → Loose run → count is_mover run ≡ 0
    → tidy (Free n ∷ (run ++ above)) ≡ tidy (free (n + free_sum run) ++ above)
frees n [] above l e = tidy-free n _ ∙ (let z : n ≡ n + 0 = omega arith in ap (λ k. tidy (free k ++ above)) z)
frees n (Free m ∷ run) above l e = tidy-free n _ ∙ joined-free n m _ ∙ sym (tidy-free _ (run ++ above))
    ∙ frees (n + m) run above l.1 ((let d : 0 + count is_mover run ≡ 0 = e in omega arith)) ∙ ap
    (λ k. tidy (free k ++ above)) (omega arith)
frees n (Relocatable id flags content ∷ run) above l e = grind arith
frees n _ above l e = let f : false ≡ true = l.0 in cc

still-run : (run above : List Block) → Loose run → lowered_in_run run ≡ 0
    → tidy (settle run ++ above) ≡ tidy (run ++ above)
still-run [] above l e = refl
still-run (Free n ∷ run) above l e = grind (arith, filter-none, none-count, frees)
still-run (Relocatable id flags content ∷ run) above l e =
    let b = Relocatable id flags content in
    ap (λ m. tidy ((m ++ free (0 + free_sum run)) ++ above)) (cond-true (not flags.locked) _ _ l.0)
    ∙ ap (λ k. add b (tidy ((movers run ++ free k) ++ above))) (omega arith) ∙ ap (add b) (still-run run above l.1 e)
still-run _ above l e = let f : false ≡ true = l.0 in cc

-- so the zone stays as it is
pub still : (place : ℕ) (zone : List Block) (r : RunSpot) → tidy zone ≡ zone → run_at place zone ≡ Some r
    → lowered_in_run r.run ≡ 0 → tidy (with_run settle r) ≡ zone
still place zone r t e z =
    ap tidy (append_assoc r.below (settle r.run) r.above) ∙ tidy-below r.below _ _
    (still-run r.run r.above (run_at-parts place zone r e).loose z) ∙ ap tidy (run_at-is place zone r e) ∙ t

-- nor do the lowest runs of some, where none of them has a block that moves
still-runs : (k : ℕ) (run : List Block) (parts : List Stretch) → Loose run → AreParts parts
    → (let rs : List (List Block) = run ∷ map (λ (p : Stretch). p.run) parts in lowered_in_runs (length rs) rs ≡ 0)
    → tidy (settled_runs k run parts) ≡ tidy (joined run parts)
still-runs zero run parts l are z = refl
still-runs (suc k) run [] l are z =
    ap tidy (sym (append-nil (settle run))) ∙ still-run run [] l (omega (arith, z)) ∙ ap tidy (append-nil run)
still-runs (suc k) run (p ∷ parts) l are z =
    still-run run (p.barrier ∷ settled_runs k p.run parts) l (omega (arith, z))
    ∙ tidy-below run _ _ (ap (add p.barrier) (still-runs k p.run parts are.1 are.2 (omega (arith, z))))

-- a zone in which compaction moves no block stays as it is with runs compacted
pub still-settled : (k : ℕ) (zone : List Block) → tidy zone ≡ zone
    → lowered_in_runs (length (runs zone)) (runs zone) ≡ 0 → settled k zone ≡ zone
still-settled k zone t z =
    sym (settled-tidy k zone t)
    ∙ still-runs k (segments zone).first (segments zone).rest (in-parts zone).0 (in-parts zone).1 z
    ∙ ap tidy (joined-segments zone) ∙ t
