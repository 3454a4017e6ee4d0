use Rattle.block_store.proofs.Cited.{◌≡◌, ℕ, zero, suc, Bool, true, false, ◌||◌, List, [], ◌∷◌, ◌++◌, refl, sym, ◌∙◌, ap, cond, Some}
use Rattle.block_store.proofs.Cited.{filter, or_parts, list_any-append, Block, Free, size, free_sum, free, tidy, is_mover, is_relocatable}
use Rattle.block_store.proofs.Cited.{has, settle, with_run, RunSpot, run_spot, may_be_purged, lowest_purged, freed, spared, opened, purged}
use Rattle.block_store.proofs.Cited.{Sparing}
use Rattle.block_store.specs.declared.sparing.Sparing.TheVariants as sparing
use Rattle.block_store.proofs.Zone.Tidy.{has-tidy}
use Rattle.block_store.proofs.Zone.Passing.{none-append}
use Rattle.block_store.proofs.Regroup.RunLists.{run_spot-parts}

-- Making room makes no block but Free ones.

-- a test that no Free block passes
abbrev pub NoFree : (Block → Bool) → Type 0
NoFree t = (n : ℕ) → t (Free n) ≡ false

pub none-parts : (t : Block → Bool) (xs ys : List Block) → has t (xs ++ ys) ≡ false → (has t xs ≡ false)
    × (has t ys ≡ false)
none-parts t xs ys e = or_parts (has t xs) (has t ys) (sym (list_any-append t xs ys) ∙ e)

pub none-lowest_purged : (t sp : Block → Bool) → NoFree t → (k : ℕ) (bs : List Block) → has t bs ≡ false
    → has t (lowest_purged k sp bs) ≡ false
none-lowest_purged t sp free zero bs e = e
none-lowest_purged t sp free (suc k) [] e = e
none-lowest_purged t sp free (suc k) (b ∷ bs) e = cases (may_be_purged sp b) (or_parts (t b) (has t bs) e)
    (none-lowest_purged t sp free k bs) (none-lowest_purged t sp free (suc k) bs)
  where
    cases : (m : Bool) → (t b ≡ false) × (has t bs ≡ false) → (has t bs ≡ false → has t (lowest_purged k sp bs) ≡ false)
        → (has t bs ≡ false → has t (lowest_purged (suc k) sp bs) ≡ false)
        → has t (cond m (Free (size b) ∷ lowest_purged k sp bs) (b ∷ lowest_purged (suc k) sp bs)) ≡ false
    cases true parts less same = rw (free (size b), less parts.1) refl
    cases false parts less same = rw (parts.0, same parts.1) refl

pub none-freed : (t u : Block → Bool) → NoFree t → (bs : List Block) → has t bs ≡ false → has t (freed u bs) ≡ false
none-freed t u free [] e = e
none-freed t u free (b ∷ bs) e = cases (u b) (or_parts (t b) (has t bs) e) (none-freed t u free bs)
  where
    cases : (m : Bool) → (t b ≡ false) × (has t bs ≡ false) → (has t bs ≡ false → has t (freed u bs) ≡ false)
        → (t (cond m (Free (size b)) b) || has t (freed u bs)) ≡ false
    cases true parts rest = rw (free (size b), rest parts.1) refl
    cases false parts rest = rw (parts.0, rest parts.1) refl

-- where no block passes, none is freed
pub freed-absent : (t : Block → Bool) (bs : List Block) → has t bs ≡ false → freed t bs ≡ bs
freed-absent t [] e = refl
freed-absent t (b ∷ bs) e =
    let parts = or_parts (t b) (has t bs) e in
    ap (λ u. cond u (Free (size b)) b ∷ freed t bs) parts.0 ∙ ap (λ l. b ∷ l) (freed-absent t bs parts.1)

pub none-filter : (t p : Block → Bool) (bs : List Block) → has t bs ≡ false → has t (filter p bs) ≡ false
none-filter t p [] e = e
none-filter t p (b ∷ bs) e = cases (p b) (or_parts (t b) (has t bs) e) (none-filter t p bs)
  where
    cases : (m : Bool) → (t b ≡ false) × (has t bs ≡ false) → (has t bs ≡ false → has t (filter p bs) ≡ false)
        → has t (cond m (b ∷ filter p bs) (filter p bs)) ≡ false
    cases true parts rest = rw (parts.0, rest parts.1) refl
    cases false parts rest = rest parts.1

pub none-free : (t : Block → Bool) → NoFree t → (n : ℕ) → has t (free n) ≡ false
none-free t none zero = refl
none-free t none (suc n) = rw (none (suc n)) refl

pub none-purged : (t : Block → Bool) → NoFree t → (k : ℕ) (n : Sparing) (zone : List Block) → has t zone ≡ false
    → has t (purged k n zone) ≡ false
none-purged t free k n zone e = has-tidy t free (lowest_purged k (spared n) (opened n zone))
    ∙ none-lowest_purged t (spared n) free k (opened n zone) (open_up n)
  where
    open_up : (n : Sparing) → has t (opened n zone) ≡ false
    open_up sparing.Nothing = e
    open_up (sparing.One slot) = e
    open_up (sparing.Two slot other) = e
    open_up (sparing.Freed slot) = none-freed t (is_relocatable slot) free zone e

-- packing a run
pub none-settled : (t : Block → Bool) → NoFree t → (passes : List Block → Bool) (zone : List Block) (r : RunSpot)
    → run_spot passes zone ≡ Some r → has t zone ≡ false → has t (tidy (with_run settle r)) ≡ false
none-settled t no_free passes zone r e none =
    let outer = none-parts t (r.below ++ r.run) r.above (ap (has t) (run_spot-parts passes zone r e).whole ∙ none) in
    let inner = none-parts t r.below r.run outer.0 in
    has-tidy t no_free (with_run settle r)
    ∙ none-append t (r.below ++ settle r.run) r.above
    (none-append t r.below (settle r.run) inner.0 (none-append t (filter is_mover r.run) (packed r.run)
    (none-filter t is_mover r.run inner.1) (none-free t no_free (free_sum r.run)))) outer.1
  where
    packed : List Block → List Block
    packed run = free (free_sum run)
