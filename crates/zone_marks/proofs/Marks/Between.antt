-- The blocks that begin between two places, and what tallies say of them.
use Rattle.zone_marks.proofs.Cited.{◌≡◌, ℕ, ◌+◌, ◌≤◌, ◌<◌, ◌⊎◌, Bool, true, false, ◌&&◌, cond, List, [], ◌∷◌, ◌++◌, inl, inr, nat_le}
use Rattle.zone_marks.proofs.Cited.{nat_lt, refl, ap, ◌∙◌, arith, le-leb, lt-ltb, leb-true, leb-false, ltb-true, ltb-false, append-nil}
use Rattle.zone_marks.proofs.Cited.{Block, size, sizes, AtEach, AreTold, IsTally, between, Tallies, Tally, stretch_by, stretch_of, Counting}
use Rattle.zone_marks.proofs.Cited.{Stretch}
use Rattle.zone_marks.specs.declared.landmark.Tally.TheVariants as tally
use Rattle.zone_marks.specs.declared.stretch.Counting.TheVariants as counting
use Rattle.zone_marks.proofs.Stretches.Monoid.{stretch_by-append}

-- blocks that come to the same, counted in each way
pub record CountAlike (some others : List Block) : Type 0 where
  pub same : (w : Counting) → stretch_by w some ≡ stretch_by w others

pub tally-as : (w : Counting) (t : Tally) (some others : List Block) → CountAlike some others → IsTally w t others
    → IsTally w t some
tally-as w (tally.Known s) some others a i = a.same w ∙ i
tally-as w tally.Unknown some others a i = tt

pub alike-as : (t : Tallies) (some others : List Block) → CountAlike some others → AreTold t others → AreTold t some
alike-as t some others a i w = tally-as w _ _ _ a (i w)

-- what is known in each way
pub told-both : (runs : Stretch) (spaces : Tally) (blocks : List Block) → stretch_of blocks ≡ runs
    → IsTally counting.Spaces spaces blocks → AreTold (record { runs = tally.Known runs; spaces = spaces }) blocks
told-both runs spaces blocks e t counting.Runs = e
told-both runs spaces blocks e t counting.Spaces = t

module _ (lo hi : ℕ) where
  -- what holds of them, by whether each block begins there
  pub between-each : (P : ℕ → List Block → List Block → Type 0) → ((x : ℕ) → P x [] [])
      → ((x : ℕ) (b : Block) (bs k : List Block) → lo ≤ x → x < hi → P (x + size b) bs k → P x (b ∷ bs) (b ∷ k))
      → ((x : ℕ) (b : Block) (bs k : List Block) → (x < lo) ⊎ (hi ≤ x) → P (x + size b) bs k → P x (b ∷ bs) k)
      → (x : ℕ) (bs : List Block) → P x bs (between lo hi x bs)
  between-each P none here there x [] = none x
  between-each P none here there x (b ∷ bs) =
      cases (nat_le lo x) (nat_lt x hi) refl refl (between-each P none here there (x + size b) bs)
    where
      cases : (s t : Bool) → nat_le lo x ≡ s → nat_lt x hi ≡ t → P (x + size b) bs (between lo hi (x + size b) bs)
          → P x (b ∷ bs) (cond (s && t) (b ∷ between lo hi (x + size b) bs) (between lo hi (x + size b) bs))
      cases true true e f r = here x b bs _ (leb-true lo x e) (ltb-true x hi f) r
      cases true false e f r = there x b bs _ (inr (ltb-false x hi f)) r
      cases false t e f r = there x b bs _ (inl (leb-false lo x e)) r

  pub between-append : (x : ℕ) (below above : List Block)
      → between lo hi x (below ++ above) ≡ between lo hi x below ++ between lo hi (x + sizes below) above
  between-append x [] above = ap (λ y. between lo hi y above) (let e : x ≡ x + 0 = omega arith in e)
  between-append x (b ∷ below) above =
      ap (λ k. cond (nat_le lo x && nat_lt x hi) (b ∷ k) k) (between-append (x + size b) below above
      ∙ ap (λ y. between lo hi (x + size b) below ++ between lo hi y above)
      (let e : x + size b + sizes below ≡ x + (size b + sizes below) = omega arith in e))
      ∙ either (nat_le lo x && nat_lt x hi) _ _
    where
      either : (t : Bool) (k more : List Block) → cond t (b ∷ k ++ more) (k ++ more) ≡ cond t (b ∷ k) k ++ more
      either true k more = refl
      either false k more = refl

  -- none of the blocks below begins there
  pub none-below : (x : ℕ) (blocks : List Block) → x + sizes blocks ≤ lo → CountAlike (between lo hi x blocks) []
  none-below = between-each (λ x bs k. x + sizes bs ≤ lo → CountAlike k [])
      (λ x m. record { same = λ w. ap (stretch_by w) refl })
      (λ x b bs k l h r m. let q = r (omega arith) in grind arith) (λ x b bs k o r m. r (omega arith))

  -- none of the blocks above does
  pub none-above : (x : ℕ) (blocks : List Block) → hi ≤ x → between lo hi x blocks ≡ []
  none-above = between-each (λ x bs k. hi ≤ x → k ≡ []) (λ x m. refl) (λ x b bs k l h r m. absurd (omega arith))
      (λ x b bs k o r m. r (omega arith))

  -- and none at all, where the first place is no lower
  pub between-none : hi ≤ lo → (x : ℕ) (blocks : List Block) → between lo hi x blocks ≡ []
  between-none m = between-each (λ x bs k. k ≡ []) (λ x. refl) (λ x b bs k l h r. absurd (omega arith))
      (λ x b bs k o r. r)

  pub between-few : (x : ℕ) (blocks : List Block) → sizes (between lo hi x blocks) ≤ sizes blocks
  between-few = between-each (λ x bs k. sizes k ≤ sizes bs) (λ x. omega arith) (λ x b bs k l h r. omega arith)
      (λ x b bs k o r. omega arith)

  -- each of the blocks within does
  pub all-within : (x : ℕ) (blocks : List Block) → lo ≤ x → x + sizes blocks ≤ hi
      → CountAlike (between lo hi x blocks) blocks
  all-within = between-each (λ x bs k. lo ≤ x → x + sizes bs ≤ hi → CountAlike k bs)
      (λ x m n. record { same = λ w. ap (stretch_by w) refl })
      (λ x b bs k l h r m n. let q = r (omega arith) (omega arith) in grind arith)
      (λ x b bs k o r m n. let q = r (omega arith) (omega arith) in grind arith)

  -- and so do those of which each begins below the bound
  pub all-begin : (x : ℕ) (blocks : List Block) → lo ≤ x → AtEach (λ p _. p < hi) x blocks
      → between lo hi x blocks ≡ blocks
  all-begin x [] l e = refl
  all-begin x (b ∷ blocks) l e =
      rw (le-leb lo x l) (rw (lt-ltb x hi e.0) (ap (λ k. b ∷ k) (all-begin (x + size b) blocks (omega arith) e.1)))

  -- the blocks of a zone that begin there, where it is parted so
  pub between-parts : (below here above : List Block) → sizes below ≡ lo → lo + sizes here ≤ hi
      → (hi ≡ lo + sizes here) ⊎ (above ≡ []) → CountAlike (between lo hi 0 (below ++ (here ++ above))) here
  between-parts below here above l h e =
      let n = none-below 0 below (omega arith) in
      let m = all-within (0 + sizes below) here (omega arith) (omega arith) in
      let t = top in
      grind (arith, between-append, stretch_by-append, append-nil)
    where
      top : between lo hi (0 + sizes below + sizes here) above ≡ []
      top = grind (arith, none-above)
