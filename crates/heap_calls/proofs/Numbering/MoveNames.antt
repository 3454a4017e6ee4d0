use Rattle.heap_calls.proofs.Cited.{◌≡◌, ℕ, ◌+◌, zero, suc, List, [], ◌∷◌, length, refl, ◌∙◌, ap, cond, map, Option}
use Rattle.heap_calls.proofs.Cited.{length-map, Block, Free, Nonrelocatable, Masters, Relocatable, rename}
use Rattle.heap_calls.proofs.Cited.{is_mover, runs}
use Rattle.heap_calls.proofs.Cited.{lowered_in_runs, runs_settled, lowered_in_run, total-rename, is_mover-rename}
use Rattle.heap_calls.proofs.Cited.{all_moves}
use Rattle.heap_calls.proofs.Cited.{purged_all}
use Rattle.heap_calls.proofs.Numbering.Largest.{runs-rename, runs_settled-rename}
use Rattle.heap_calls.proofs.Numbering.PurgeTrials.{purged_all-rename}

-- How many blocks packing moves down sees no names.

pub lowered_in_run-rename : (f g : ℕ → ℕ) (run : List Block) → lowered_in_run (rename f g run) ≡ lowered_in_run run
lowered_in_run-rename f g [] = refl
lowered_in_run-rename f g (Free n ∷ run) = total-rename f g (λ (b : Block). cond {A = ℕ} (is_mover b) 1 0)
    (λ (b : Block). cond {A = ℕ} (is_mover b) 1 0) (λ b. rw (is_mover-rename f g b) refl) run
lowered_in_run-rename f g (Nonrelocatable id content ∷ run) = lowered_in_run-rename f g run
lowered_in_run-rename f g (Masters ∷ run) = lowered_in_run-rename f g run
lowered_in_run-rename f g (Relocatable id flags content ∷ run) = lowered_in_run-rename f g run

falls_of-rename : (f g : ℕ → ℕ) (k : ℕ) (rs : List (List Block)) → lowered_in_runs k (map (rename f g) rs)
    ≡ lowered_in_runs k rs
falls_of-rename f g zero rs = refl
falls_of-rename f g (suc k) [] = refl
falls_of-rename f g (suc k) (run ∷ rs) = ap (λ n. n + lowered_in_runs k (map (rename f g) rs))
    (lowered_in_run-rename f g run)
    ∙ ap (λ n. lowered_in_run run + n) (falls_of-rename f g k rs)

pub lowered_in_runs-rename : (f g : ℕ → ℕ) (k : ℕ) (zone : List Block) → lowered_in_runs k (runs (rename f g zone))
    ≡ lowered_in_runs k (runs zone)
lowered_in_runs-rename f g k zone = ap (lowered_in_runs k) (runs-rename f g zone) ∙ falls_of-rename f g k (runs zone)

pub settled_falls-rename : (f g : ℕ → ℕ) (p : Option ℕ) (zone : List Block)
    → lowered_in_runs (runs_settled p (rename f g zone)) (runs (rename f g zone)) ≡ lowered_in_runs
    (runs_settled p zone) (runs zone)
settled_falls-rename f g p zone = ap (λ k. lowered_in_runs k (runs (rename f g zone))) (runs_settled-rename f g p zone)
    ∙ lowered_in_runs-rename f g (runs_settled p zone) zone

pub all_moves-rename : (f g : ℕ → ℕ) (zone : List Block) → all_moves (rename f g zone) ≡ all_moves zone
all_moves-rename f g zone = ap (λ k. lowered_in_runs k (runs (rename f g zone)))
    (ap length (runs-rename f g zone) ∙ length-map (runs zone) (rename f g))
    ∙ lowered_in_runs-rename f g (length (runs zone)) zone

pub purged_moves-rename : (f g : ℕ → ℕ) (zone : List Block) → all_moves (purged_all (rename f g zone))
    ≡ all_moves (purged_all zone)
purged_moves-rename f g zone = ap all_moves (purged_all-rename f g zone) ∙ all_moves-rename f g (purged_all zone)
