use Rattle.block_store.proofs.Cited.{◌≡◌, ℕ, ◌+◌, ◌≤◌, zero, suc, false, List, [], ◌∷◌, ◌++◌, map, nat_lt, append_assoc, refl, sym, ◌∙◌, ap}
use Rattle.block_store.proofs.Cited.{cond, subst, arith, cond-false, nat_tests, append-nil, Block, size, sizes, total, count, free}
use Rattle.block_store.proofs.Cited.{free_sum, is_relocatable, tidy, Stretch, segments, runs, joined, movers, settle, lowered_in_run}
use Rattle.block_store.proofs.Cited.{distance, stands_lower, lowered, settled_runs, settled, lowered_in_runs, NoneRises, Loose}
use Rattle.block_store.proofs.Zone.Apart.{apart-tidied}
use Rattle.block_store.proofs.Zone.Totals.{total-append}
use Rattle.block_store.proofs.Zone.Zones.{joined-segments}
use Rattle.block_store.proofs.Nonrelocatable.Placing.{sizes-settle}
use Rattle.block_store.proofs.Regroup.Packed.{settle-total}
use Rattle.block_store.proofs.Regroup.Parts.{AreParts, in-parts}
use Rattle.block_store.proofs.Regroup.Lowered.{Changed, Filled, filled-apart, filled-parts, lowered-movers, none-lower}
use Rattle.block_store.proofs.Regroup.Lowered.{past-block}
use Rattle.block_store.proofs.Regroup.Repacked.{reach, reach-distance, reach-below, reach-settle}

-- What settling the lowest runs of a zone counts: the relocatable blocks that stand lower afterwards.

-- settling a run leaves as many blocks of each slot
settle-count : (k : ℕ) (run : List Block) → Loose run
    → count (is_relocatable k) (settle run) ≡ count (is_relocatable k) run
settle-count k run loose =
    let of : Block → ℕ = λ b. cond (is_relocatable k b) 1 0 in
    settle-total of (λ n m. refl) run loose

-- what a run counts, with as much below it as before
run-lowered : (old new below below' run above above' : List Block)
    → Changed old new below below' (run ++ above) (settle run ++ above') → Loose run → Filled run
    → sizes below' ≡ sizes below → count (stands_lower old new) run ≡ lowered_in_run run
run-lowered old new below below' run above above' c loose filled same =
    let few : nat_lt (sizes below') (sizes below) ≡ false = grind (arith, nat_tests) in
    lowered-movers old new below below' run above (free (free_sum run) ++ above')
    (record {
      once = c.once;
      fewer = c.fewer;
      was = c.was;
      is = λ k. c.is k
          ∙ ap (λ l. distance k (below' ++ l)) (append_assoc (movers run) (free (free_sum run)) above');
    }) loose filled (omega arith)
    ∙ cond-false _ _ _ few

-- past a run and the block that ends it
past-run : (old new below below' run above above' : List Block) (b : Block)
    → Changed old new below below' (run ++ b ∷ above) (settle run ++ b ∷ above') → Loose run
    → Changed old new (below ++ run) (below' ++ settle run) (b ∷ above) (b ∷ above')
past-run old new below below' run above above' b c loose = record {
  once = c.once;
  fewer = λ k. let of : Block → ℕ = λ b. cond (is_relocatable k b) 1 0 in
      let f : total of below' ≤ total of below = c.fewer k in
      let same : total of (settle run) ≡ total of run = settle-count k run loose in
      let z : total of (below' ++ settle run) ≤ total of (below ++ run) =
      omega (arith, total-append of below' (settle run), total-append of below run) in z;
  was = c.was ∙ sym (append_assoc below run (b ∷ above));
  is = λ k. c.is k ∙ ap (distance k) (sym (append_assoc below' (settle run) (b ∷ above')));
}

-- the lowest runs of some, with as much below them as before
runs-lowered : (k : ℕ) (old new below below' run : List Block) (parts : List Stretch)
    → Changed old new below below' (joined run parts) (settled_runs k run parts) → Loose run → AreParts parts
    → Filled (joined run parts) → sizes below' ≡ sizes below
    → count (stands_lower old new) (joined run parts) ≡ lowered_in_runs k (run ∷ map (λ (p : Stretch). p.run) parts)
runs-lowered zero old new below below' run parts c loose are filled same =
    none-lower old new below below' (joined run parts) [] []
    (record {
      once = c.once;
      fewer = c.fewer;
      was = c.was ∙ ap (λ l. below ++ l) (sym (append-nil (joined run parts)));
      is = λ k. c.is k
          ∙ ap (λ l. distance k (below' ++ l)) (sym (append-nil (joined run parts)));
    }) same
runs-lowered (suc k) old new below below' run [] c loose are filled same =
    let all = run-lowered old new below below' run [] []
    (record {
      once = c.once;
      fewer = c.fewer;
      was = c.was ∙ ap (λ l. below ++ l) (sym (append-nil run));
      is = λ k. c.is k
          ∙ ap (λ l. distance k (below' ++ l)) (sym (append-nil (settle run)));
    }) loose filled same in
    all ∙ cases k
  where
    cases : (k : ℕ) → lowered_in_run run ≡ lowered_in_run run + lowered_in_runs k []
    cases zero = omega arith
    cases (suc k) = omega arith
runs-lowered (suc k) old new below below' run (p ∷ parts) c loose are filled same =
    let lower = stands_lower old new in
    let of : Block → ℕ = λ b. cond (lower b) 1 0 in
    let above = joined p.run parts in
    let above' = settled_runs k p.run parts in
    let parts-filled = filled-parts run (p.barrier ∷ above) filled in
    let first : count lower run ≡ lowered_in_run run = run-lowered old new below below' run (p.barrier ∷ above)
    (p.barrier ∷ above') c loose parts-filled.0 same in
    let past = past-run old new below below' run above above' p.barrier c loose in
    let level : sizes (below' ++ settle run) ≡ sizes (below ++ run) =
    omega (arith, total-append size below' (settle run), total-append size below run, sizes-settle run loose) in
    let barrier : count lower (p.barrier ∷ []) ≡ 0 = none-lower old new (below ++ run) (below' ++ settle run)
    (p.barrier ∷ []) above above' past level in
    let b = p.barrier ∷ [] in
    let rest : count lower above ≡ lowered_in_runs k (p.run ∷ map (λ (p : Stretch). p.run) parts) =
    runs-lowered k old new (below ++ run ++ b) (below' ++ settle run ++ b) p.run parts
    (past-one past)
    are.1 are.2 parts-filled.1.1
    (omega (
      arith,
      level,
      total-append size (below' ++ settle run) b,
      total-append size (below ++ run) b,
    )) in
    let sum : total of (run ++ p.barrier ∷ above) ≡ total of run + total of (p.barrier ∷ above) =
    total-append of run (p.barrier ∷ above) in
    let one : total of b ≡ 0 = barrier in
    let z : total of (run ++ p.barrier ∷ above)
    ≡ lowered_in_run run + lowered_in_runs k (p.run ∷ map (λ (p : Stretch). p.run) parts) = omega arith in z
  where
    past-one : Changed old new (below ++ run) (below' ++ settle run) (p.barrier ∷ joined p.run parts)
        (p.barrier ∷ settled_runs k p.run parts)
        → Changed old new (below ++ run ++ p.barrier ∷ []) (below' ++ settle run ++ p.barrier ∷ []) (joined p.run parts)
        (settled_runs k p.run parts)
    past-one c = past-block old new (below ++ run) (below' ++ settle run) (joined p.run parts)
        (settled_runs k p.run parts) p.barrier c

-- settling the k lowest runs counts the blocks that stand lower afterwards, in a zone in which no slot leads to two
-- blocks and each block takes bytes
pub settled_lowered : (k : ℕ) (zone : List Block) → ((h : ℕ) → count (is_relocatable h) zone ≤ 1) → tidy zone ≡ zone
    → lowered_in_runs k (runs zone) ≡ lowered zone (settled k zone)
settled_lowered k zone once tidied =
    let new = settled k zone in
    let whole : joined (segments zone).first (segments zone).rest ≡ zone = joined-segments zone in
    let parts = in-parts zone in
    let filled : Filled (joined (segments zone).first (segments zone).rest) =
    subst Filled (sym whole) (filled-apart zone (apart-tidied zone tidied)) in
    sym (runs-lowered k zone new [] [] (segments zone).first (segments zone).rest
    (record { once = once; fewer = λ h. omega arith; was = sym whole; is = λ h. refl }) parts.0 parts.1 filled refl)
    ∙ ap (count (stands_lower zone new)) whole

-- No block stands higher where runs are settled.

reach-settled : (h k : ℕ) (run : List Block) (parts : List Stretch) → Loose run → AreParts parts
    → reach h (settled_runs k run parts) ≤ reach h (joined run parts)
reach-settled h zero run parts loose are = omega arith
reach-settled h (suc k) run [] loose are =
    let P : List Block → List Block → Type 0 = λ l m. reach h l ≤ reach h m in
    let plain : reach h (movers run ++ free (0 + free_sum run) ++ []) ≤ 0 + reach h (run ++ []) =
    reach-settle h 0 run [] loose in
    let less : P (settle run ++ []) (run ++ []) = less-of plain in
    subst (λ l. P l run) (append-nil (settle run)) (subst (λ l. P (settle run ++ []) l) (append-nil run) less)
  where
    less-of : reach h (movers run ++ free (0 + free_sum run) ++ []) ≤ 0 + reach h (run ++ [])
        → reach h (settle run ++ []) ≤ reach h (run ++ [])
    less-of plain =
        let same : reach h (movers run ++ free (0 + free_sum run) ++ []) ≡ reach h (settle run ++ []) =
        ap (λ n. reach h (movers run ++ free n ++ [])) (let z : 0 + free_sum run ≡ free_sum run = omega arith in z) in
        omega arith
reach-settled h (suc k) run (p ∷ parts) loose are =
    let above = joined p.run parts in
    let above' = settled_runs k p.run parts in
    let rest : reach h above' ≤ reach h above = reach-settled h k p.run parts are.1 are.2 in
    let one : reach h (p.barrier ∷ above') ≤ reach h (p.barrier ∷ above) =
    reach-below h (p.barrier ∷ []) above' above rest in
    let tail : reach h (settle run ++ p.barrier ∷ above') ≤ reach h (settle run ++ p.barrier ∷ above) =
    reach-below h (settle run) (p.barrier ∷ above') (p.barrier ∷ above) one in
    let plain : reach h (movers run ++ free (0 + free_sum run) ++ p.barrier ∷ above) ≤ 0
    + reach h (run ++ p.barrier ∷ above) = reach-settle h 0 run (p.barrier ∷ above) loose in
    let same : reach h (movers run ++ free (0 + free_sum run) ++ p.barrier ∷ above)
    ≡ reach h (settle run ++ p.barrier ∷ above) =
    ap (λ n. reach h (movers run ++ free n ++ p.barrier ∷ above))
    (let z : 0 + free_sum run ≡ free_sum run = omega arith in z) in
    omega arith

pub settled_none_rises : (k : ℕ) (zone : List Block) → NoneRises zone (settled k zone)
settled_none_rises k zone = λ h was is e f.
    let parts = in-parts zone in
    let old : reach h zone ≡ was = reach-distance h zone was e in
    let new : reach h (settled k zone) ≡ is = reach-distance h (settled k zone) is f in
    let whole : reach h (joined (segments zone).first (segments zone).rest) ≡ reach h zone =
    ap (reach h) (joined-segments zone) in
    let less : reach h (settled k zone) ≤ reach h (joined (segments zone).first (segments zone).rest) =
    reach-settled h k (segments zone).first (segments zone).rest parts.0 parts.1 in
    omega arith
