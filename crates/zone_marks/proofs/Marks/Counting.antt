-- A walk that counts what it passes.
use Rattle.zone_marks.proofs.Cited.{◌≡◌, ℕ, ◌+◌, ◌≤◌, ◌<◌, ◌⊎◌, Bool, true, false, List, [], ◌∷◌, length, rules, sym, refl, ap, arith, inl}
use Rattle.zone_marks.proofs.Cited.{Block, size, free_of, AtEach, AtMost, Measures, between, left_in, IsOnWay, left-none, counted, join}
use Rattle.zone_marks.proofs.Cited.{load, prefix, stretch_by, suffix, Counting, Runs, Stretch, Whole, Ended}
use Rattle.zone_marks.proofs.Marks.Between.{CountAlike, all-begin, all-within, between-append, none-above}
use Rattle.zone_marks.proofs.Marks.Passing.{Passed, at-map, passed-all, passed-more, passed-on}
use Rattle.zone_marks.proofs.Stretches.Monoid.{counted-none, joined-is}
use Rattle.zone_marks.proofs.Stretches.Sums.{load-counted}

-- the blocks from a place on up to another, of each of which something holds, and what they come to
pub record Walked (w : Counting) (xs : List ℕ) (from at : ℕ) (R : ℕ → Block → Type 0) (total : Stretch) : Type 0 where
  pub passed : Passed xs from at R
  pub comes : stretch_by w passed.done ≡ total

pub prefix-counted : (t : Bool) (n : ℕ) → prefix (counted t n) ≤ n
prefix-counted true n = omega arith
prefix-counted false n = omega arith

pub suffix-load : (s : Stretch) → suffix s ≤ load s
suffix-load (Whole a) = omega arith
suffix-load (Ended p i s) = omega arith

module _ (w : Counting) (xs : List ℕ) (from : ℕ) where
  pub walked-start : (R : ℕ → Block → Type 0) → IsOnWay from xs → Walked w xs from from R (Whole 0)
  walked-start R way = record {
    passed = record { done = []; is = refl; up = omega arith; each = tt; way = way };
    comes = counted-none w;
  }

  module _ (at : ℕ) (R : ℕ → Block → Type 0) (total : Stretch) (c : Walked w xs from at R total) where
    pub walked-step : (S : ℕ → Block → Type 0) → ((p : ℕ) (b : Block) → R p b → S p b) → (end : ℕ) (here : Block)
        → left_in at xs ≡ here ∷ left_in end xs → at + size here ≡ end → IsOnWay end xs → S at here
        → (given more : Stretch) → given ≡ stretch_by w (here ∷ []) → more ≡ join total given
        → Walked w xs from end S more
    walked-step S f end here is up way s given more g j = record {
      passed = passed-on xs from at end R S f c.passed here is up way s;
      comes = sym (joined-is w c.passed.done (here ∷ []) total given more j (sym c.comes) g);
    }

    pub walked-few : suffix total ≤ at
    walked-few = omega (arith, suffix-load, ap load c.comes, load-counted w c.passed.done)

    -- what it tells of the blocks that begin below a bound which it came to
    pub walked-tells : (hi : ℕ) → CountAlike (between from hi from c.passed.done) c.passed.done
        → (hi ≤ at) ⊎ (length xs ≤ at) → stretch_by w (between from hi from (left_in from xs)) ≡ total
    walked-tells hi a e = search (rules, none-above, left-none, between-append)

    -- where the walk began no block at or above the bound
    pub walked-below : (hi : ℕ) → ((p : ℕ) (b : Block) → R p b → p < hi) → (hi ≤ at) ⊎ (length xs ≤ at)
        → stretch_by w (between from hi from (left_in from xs)) ≡ total
    walked-below hi f e = grind (arith, walked-tells, all-begin, at-map)

module _ (xs : List ℕ) (from at stop most : ℕ) (runs : Stretch)
    (c : Walked Runs xs from at (λ p b. (free_of b ≤ most) × (p < stop)) runs) where
  bound : (hi : ℕ) → (hi ≤ at) ⊎ (length xs ≤ at) → AtEach (AtMost most from hi) from (left_in from xs)
  bound hi e = passed-all _ _ (λ _ b. free_of b ≤ most) (λ _ b. free_of b ≤ most) _ _ _ (grind (arith, passed-more))
      (λ _ _ r. r) e

  pub measured-edge : (edge : ℕ) → Measures from at from (left_in from xs)
      (record { edge = edge; most = most; runs = runs })
  measured-edge edge = record {
    most = bound at (inl (omega arith));
    runs = walked-tells _ _ _ _ _ _ c at (grind (arith, all-within)) (inl (omega arith));
  }

  pub measured-below : (place edge : ℕ) → stop ≤ place → (place ≤ at) ⊎ (length xs ≤ at)
      → Measures from place from (left_in from xs) (record { edge = edge; most = most; runs = runs })
  measured-below place edge l e = record {
    most = bound place e;
    runs = walked-below _ _ _ _ _ _ c place (λ p b r. omega arith) e;
  }
