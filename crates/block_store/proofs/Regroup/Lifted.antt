-- A run that is raised, and one of which a block is moved to the top.
use Rattle.block_store.proofs.Cited.{◌≡◌, ℕ, ◌+◌, ◌-◌, ◌<◌, ◌≤◌, ◌||◌, zero, suc, Bool, true, false, not, cond, List, [], ◌∷◌, ◌++◌, Some}
use Rattle.block_store.proofs.Cited.{inl, inr, refl, sym, ◌∙◌, ap, subst, arith, append_assoc, filter-append, false≢true, eqb_tells, Flags}
use Rattle.block_store.proofs.Cited.{Block, Free, Nonrelocatable, Masters, Relocatable, is_mover, is_relocatable, total, count, free}
use Rattle.block_store.proofs.Cited.{free_of, free_sum, sizes, add, tidy, RunSpot, in_run, has, movers, settle, low, high, with_run, run_at}
use Rattle.block_store.proofs.Cited.{Loose}
use Rattle.block_store.proofs.Zone.Apart.{Apart}
use Rattle.block_store.proofs.Zone.Tidy.{Adds, total-tidy}
use Rattle.block_store.proofs.Zone.Totals.{total-append}
use Rattle.block_store.proofs.Regroup.Packed.{tidy-below, loose-parts, loose-append, high-is, total-run}
use Rattle.block_store.proofs.Regroup.Parts.{in-free}
use Rattle.block_store.proofs.Regroup.RunLists.{run_at-parts}
use Rattle.block_store.proofs.Regroup.Regrouping.{apart-filter, all-filter}
use Rattle.block_store.proofs.Zone.Joining.{add-twice}

-- a run without relocatable blocks
pub no-movers : (run : List Block) → sizes (movers run) ≡ 0 → movers run ≡ []
no-movers [] e = refl
no-movers (Free n ∷ run) e = no-movers run e
no-movers (Nonrelocatable id content ∷ run) e = no-movers run e
no-movers (Masters ∷ run) e = no-movers run e
no-movers (Relocatable id flags content ∷ run) e = cases flags.locked e (no-movers run)
  where
    b : Block
    b = Relocatable id flags content

    cases : (t : Bool) → sizes (cond (not t) (b ∷ movers run) (movers run)) ≡ 0
        → (sizes (movers run) ≡ 0 → movers run ≡ []) → cond (not t) (b ∷ movers run) (movers run) ≡ []
    cases true e more = more e
    cases false e more = absurd (omega (arith, e))

-- a Free block stands apart from relocatable ones
free-stands : (n : ℕ) (run above : List Block) → (movers run ≡ [] → ⊥)
    → add (Free (suc n)) (movers run ++ above) ≡ Free (suc n) ∷ (movers run ++ above)
free-stands n [] above some = absurd (some refl)
free-stands n (Free m ∷ run) above some = free-stands n run above some
free-stands n (Nonrelocatable id content ∷ run) above some = free-stands n run above some
free-stands n (Masters ∷ run) above some = free-stands n run above some
free-stands n (Relocatable id flags content ∷ run) above some = cases flags.locked some (free-stands n run above)
  where
    b : Block
    b = Relocatable id flags content

    cases : (t : Bool) → (cond (not t) (b ∷ movers run) (movers run) ≡ [] → ⊥)
        → ((movers run ≡ [] → ⊥) → add (Free (suc n)) (movers run ++ above) ≡ Free (suc n) ∷ (movers run ++ above))
        → add (Free (suc n)) (cond (not t) (b ∷ movers run) (movers run) ++ above)
        ≡ Free (suc n) ∷ (cond (not t) (b ∷ movers run) (movers run) ++ above)
    cases true some more = more some
    cases false some more = refl

apart-free : (n : ℕ) → Apart (free n)
apart-free zero = tt
apart-free (suc n) = (refl, tt)

-- the blocks of a raised run stand apart
pub apart-low : (n : ℕ) (run : List Block) → 0 < n → (movers run ≡ [] → ⊥) → Apart (low (Free n) run)
apart-low zero run l some = absurd (omega (arith, l))
apart-low (suc n) run l some = (
  free-stands n run (free (free_sum run - suc n)) some,
  apart-filter is_mover (λ m. refl) run (free (free_sum run - suc n)) (apart-free (free_sum run - suc n)),
)

tidy-both : (n m : ℕ) (above : List Block) → 0 < n → tidy (Free n ∷ (free m ++ above)) ≡ tidy (free (n + m) ++ above)
tidy-both zero m above l = absurd (omega (arith, l))
tidy-both (suc n) zero above l = let e : suc n ≡ suc n + 0 = omega arith in ap (λ k. tidy (free k ++ above)) e
tidy-both (suc n) (suc m) above l =
    let e : suc (n + suc m) ≡ suc n + suc m = omega arith in
    add-twice n m (tidy above) ∙ ap (λ k. tidy (free k ++ above)) e

-- where a run has no relocatable blocks, it is raised as it is packed
pub low-none : (n : ℕ) (r : RunSpot) → 0 < n → n ≤ free_sum r.run → movers r.run ≡ []
    → tidy (with_run (low (Free n)) r) ≡ tidy (with_run settle r)
low-none n r some enough none =
    let left = free_sum r.run - n in
    let e : n + left ≡ free_sum r.run = omega (arith, enough) in
    ap tidy (append_assoc r.below (low (Free n) r.run) r.above)
    ∙ tidy-below r.below (low (Free n) r.run ++ r.above) (settle r.run ++ r.above)
    (ap (λ l. tidy (Free n ∷ (l ++ free left ++ r.above))) none ∙ tidy-both n left r.above some
    ∙ ap (λ k. tidy (free k ++ r.above)) e ∙ ap (λ l. tidy (l ++ free (free_sum r.run) ++ r.above)) (sym none))
    ∙ ap tidy (sym (append_assoc r.below (settle r.run) r.above))

-- the block of a slot in a run, and what is below and above it there
pub record RunOf (number : ℕ) (run : List Block) : Type 0 where
  pub low : List Block
  pub flags : Flags
  pub content : List ℕ
  pub high : List Block
  pub whole : low ++ Relocatable number flags content ∷ high ≡ run

run-of-more : (number : ℕ) (b : Block) (run : List Block) → RunOf number run → RunOf number (b ∷ run)
run-of-more number b run p = record {
  low = b ∷ p.low;
  flags = p.flags;
  content = p.content;
  high = p.high;
  whole = ap (λ l. b ∷ l) p.whole;
}

pub run-of : (number : ℕ) (run : List Block) → has (is_relocatable number) run ≡ true → RunOf number run
run-of number [] e = absurd (false≢true e)
run-of number (Free n ∷ run) e = run-of-more number (Free n) run (run-of number run e)
run-of number (Nonrelocatable id content ∷ run) e = run-of-more number (Nonrelocatable id content) run (run-of number run e)
run-of number (Masters ∷ run) e = run-of-more number Masters run (run-of number run e)
run-of number (Relocatable id flags content ∷ run) e = elim (eqb_tells id number) [
  | inl t ↦ record {
    low = [];
    flags = flags;
    content = content;
    high = run;
    whole = ap (λ k. Relocatable k flags content ∷ run) (sym t.1);
  }
  | inr t ↦ run-of-more number (Relocatable id flags content) run
      (run-of number run (sym (ap (λ u. u || has (is_relocatable number) run) t.0) ∙ e))
]

module _ (number : ℕ) (run : List Block) (p : RunOf number run) where
  abbrev pub block : Block
  block = Relocatable number p.flags p.content

  -- what follows the block once its run is packed
  abbrev pub over : List Block
  over = movers p.high ++ free (free_sum run)

  pub passes : is_relocatable number block ≡ true
  passes = elim (eqb_tells number number) [ inl t ↦ t.0 | inr t ↦ absurd (t.1 refl) ]

  pub loose-block : Loose run → in_run block ≡ true
  loose-block l = (loose-parts p.low (block ∷ p.high) (subst Loose (sym p.whole) l)).1.0

  pub loose-over : Loose run → Loose over
  loose-over l =
      loose-append (movers p.high) (free (free_sum run))
      (all-filter is_mover p.high (loose-parts p.low (block ∷ p.high) (subst Loose (sym p.whole) l)).1.1)
      (in-free (free_sum run))

  movers-parts : Loose run → movers run ≡ movers p.low ++ block ∷ movers p.high
  movers-parts l =
      ap movers (sym p.whole) ∙ filter-append is_mover p.low (block ∷ p.high)
      ∙ ap (λ k. movers p.low ++ k) (ap (λ u. cond u (block ∷ movers p.high) (movers p.high)) (loose-block l))

  -- the packed run
  pub settle-parts : Loose run → settle run ≡ movers p.low ++ (block ∷ over)
  settle-parts l = ap (λ k. k ++ free (free_sum run)) (movers-parts l)
      ∙ append_assoc (movers p.low) (block ∷ movers p.high) (free (free_sum run))

  -- and the same with the block at its top
  pub high-parts : count (is_relocatable number) run ≤ 1
      → high (is_relocatable number) run ≡ movers p.low ++ (over ++ block ∷ [])
  high-parts once =
      let a = total-append free_of p.low (block ∷ p.high) in
      let c = total-append free_of p.low p.high in
      let w = ap free_sum p.whole in
      let f : free_sum (p.low ++ p.high) - 0 ≡ free_sum run = omega (arith, a, c, w) in
      high-is number run p.low p.high block p.whole passes once
      ∙ (λ j. filter-append is_mover p.low p.high j ++ free (f j) ++ block ∷ [])
      ∙ ap (λ l. l ++ block ∷ []) (append_assoc (movers p.low) (movers p.high) (free (free_sum run)))
      ∙ append_assoc (movers p.low) over (block ∷ [])

-- what blocks come to, where a run is changed that comes to as much
pub total-changed : (of : Block → ℕ) → Adds of → (change : List Block → List Block) (place : ℕ) (zone : List Block)
    (r : RunSpot)
    → run_at place zone ≡ Some r → total of (change r.run) ≡ total of r.run
    → total of (tidy (with_run change r)) ≡ total of zone
total-changed of adds change place zone r e keeps =
    total-tidy of adds (with_run change r) ∙ total-run of change r
    ∙ ap (λ n. total of r.below + n + total of r.above) keeps ∙ sym (total-run of (λ l. l) r)
    ∙ ap (total of) (run_at-parts place zone r e).whole
