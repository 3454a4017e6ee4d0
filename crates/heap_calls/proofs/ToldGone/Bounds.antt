use Rattle.heap_calls.proofs.Cited.{◌≡◌, ℕ, ◌≤◌, Bool, true, false, not, List, [], refl, sym, subst, cond, arith, Option, Some, None}
use Rattle.heap_calls.proofs.Cited.{length, and_parts, cond-true, phys, OsErr, Block, Free, Masters, total, is_purgeable, may_be_purged}
use Rattle.heap_calls.proofs.Cited.{total-le, State, Memory, nothing, purgeable, blocks_purged, Asked, Step, gone_at, Gone, gone_of, gone}
use Rattle.heap_calls.proofs.Cited.{gone_unless, row, gone_in, bar_of, barred_by, Move, did, work, told_blocks}
use Rattle.heap_calls.specs.Row.{purged_by}
use Rattle.heap_calls.proofs.Rows.Kinds.{of-path, none-by, gated-by}
use Rattle.heap_calls.proofs.Rows.Shapes.{by-kind}
use Rattle.heap_calls.proofs.Rows.Most.{PurgesMost, row-most}
use Rattle.heap_calls.proofs.Rows.Telling.{path-told}
use Rattle.heap_calls.proofs.Steps.Ways.{path_of, gone-along, steps-most}
use Rattle.heap_calls.proofs.ToldGone.Sums.{Adds, purged-most}

-- What a call tells of comes to no more than its zone did, by any measure of blocks by which each block that may be
-- purged comes to what is told of it at least.

module _ (n : ℕ) (of : Block → ℕ) (none : (m : ℕ) → of (Free m) ≡ 0) (masters : of Masters ≡ 0)
    (told : List Gone → ℕ) (nil : told [] ≡ 0) (adds : Adds told)
    (goes : (b : Block) → is_purgeable b ≡ true → told (gone_of n b) ≤ of b)
  where
    goes-if : (sp : Block → Bool) (b : Block) → may_be_purged sp b ≡ true → told (gone_of n b) ≤ of b
    goes-if sp b e = goes b (and_parts (is_purgeable b) (not (sp b)) e).0

    -- where there is nothing to do, nothing is told of
    least-bound : (total_of : ℕ) → told [] ≤ total_of
    least-bound total_of = omega (arith, nil)

    open-bound : (o : Option OsErr) (l : List Gone) (bound : ℕ) → told l ≤ bound → told (gone_unless o l) ≤ bound
    open-bound None l bound le = le
    open-bound (Some code) l bound le = least-bound bound

    purged-bound : (k : ℕ) (s : State) → n ≡ length s.names
        → told (gone (length s.names) k nothing s.zone) ≤ total of s.zone
    purged-bound k s named =
        subst (λ (j : ℕ). told (gone j k nothing s.zone) ≤ total of s.zone) named
        (let p = purged-most n of none told nil adds nothing (goes-if nothing) k s.zone in omega arith)

    -- what is told of a block that may be purged
    abbrev told_of_block : Block → ℕ
    told_of_block b = cond (is_purgeable b) (told (gone_of n b)) 0

    told-less : (b : Block) → told_of_block b ≤ of b
    told-less b = cases (is_purgeable b) (goes b)
      where
        cases : (t : Bool) → (t ≡ true → told (gone_of n b) ≤ of b) → cond {A = ℕ} t (told (gone_of n b)) 0 ≤ of b
        cases true le = le refl
        cases false le = omega arith

    -- what goes on a path
    path-bound : (sp : Block → Bool) (path : List Move) (zone : List Block)
        → total told_of_block (did sp path zone).gone ≤ total told_of_block zone
        → told (told_blocks n (did sp path zone).gone) ≤ total of zone
    path-bound sp path zone few = omega (
      arith,
      few,
      path-told n told_of_block (λ k. refl) told nil adds (λ b may. sym (cond-true (is_purgeable b)
          (told (gone_of n b)) 0 may)) sp path zone,
      total-le told_of_block of told-less zone,
    )

    -- each call
    pub told-most : (a : Asked) (m : Memory) → n ≡ length m.heap.names → told (gone_in a m) ≤ total of m.heap.zone
    told-most a m named = subst (λ (l : List Gone). told l ≤ total of m.heap.zone) (sym (gated-by (row a) m))
        (open-bound (barred_by (bar_of (row a)) m) (purged_by (row a) m.heap) (total of m.heap.zone) (by-kind
        (λ b. told (purged_by (row b) m.heap) ≤ total of m.heap.zone) (λ b path. of-path
        (λ r. PurgesMost told_of_block r m.heap → told (purged_by r m.heap) ≤ total of m.heap.zone)
        (λ T bar tell does few. let d = does m.heap in
        subst (λ (j : ℕ). told (told_blocks j (work d m.heap).gone) ≤ total of m.heap.zone) named
        (path-bound d.spared d.path m.heap.zone few)) (λ left r kept. kept) (row b) path
        (row-most told_of_block (λ k. refl) refl m.heap b))
        (λ k. purged-bound (blocks_purged (phys k) m.heap.zone) m.heap named)
        (purged-bound (purgeable m.heap.zone) m.heap named)
        (λ b quiet. subst (λ (l : List Gone). told l ≤ total of m.heap.zone) (sym (none-by (row b) m.heap quiet))
        (least-bound (total of m.heap.zone))) a))

    -- each step of the Resource Manager
    pub step-most : (step : Step) (m : Memory) → n ≡ length m.heap.names → told (gone_at step m) ≤ total of m.heap.zone
    step-most step m named = subst (λ (l : List Gone). told l ≤ total of m.heap.zone) (sym (gone-along step m))
        (subst (λ (j : ℕ). told (told_blocks j (did nothing (path_of step m.heap) m.heap.zone).gone) ≤ total of m.heap.zone)
        named (path-bound nothing (path_of step m.heap) m.heap.zone
        (steps-most told_of_block (λ k. refl) refl step m.heap)))
