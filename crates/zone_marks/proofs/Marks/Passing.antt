-- A walk that goes over blocks one after another, of each of which something holds.
use Rattle.zone_marks.proofs.Cited.{◌≡◌, ℕ, ◌+◌, ◌≤◌, ◌<◌, inl, inr, ◌⊎◌, List, [], ◌∷◌, ◌++◌, length, sym, refl, ap, ◌∙◌, subst, rules}
use Rattle.zone_marks.proofs.Cited.{arith, append_assoc, Block, size, sizes, left_in, IsOnWay, AtEach, Begins, span-append, left-none}

-- what holds of each block, from where it stands and where it ends
pub at-each : (S : ℕ → Block → Type 0) (x : ℕ) (blocks : List Block)
    → ((p : ℕ) (b : Block) → x ≤ p → p + size b ≤ x + sizes blocks → S p b) → AtEach S x blocks
at-each S x [] f = tt
at-each S x (b ∷ blocks) f = (
  f x b (omega arith) (omega arith),
  at-each S (x + size b) blocks (λ p c l u. f p c (omega arith) (omega arith)),
)

pub at-all : (R : ℕ → Block → Type 0) (x : ℕ) (blocks : List Block) → ((p : ℕ) (b : Block) → x ≤ p → R p b)
    → AtEach R x blocks
at-all R x blocks f = at-each R x blocks (λ p b l _. f p b l)

pub at-both : (R S T : ℕ → Block → Type 0) (x : ℕ) (blocks : List Block)
    → ((p : ℕ) (b : Block) → R p b → S p b → T p b) → AtEach R x blocks → AtEach S x blocks → AtEach T x blocks
at-both R S T x [] f r s = tt
at-both R S T x (b ∷ blocks) f r s = (f x b r.0 s.0, at-both R S T (x + size b) blocks f r.1 s.1)

pub at-map : (R S : ℕ → Block → Type 0) (x : ℕ) (blocks : List Block)
    → ((p : ℕ) (b : Block) → x ≤ p → p + size b ≤ x + sizes blocks → R p b → S p b)
    → AtEach R x blocks → AtEach S x blocks
at-map R S x blocks f = at-both (λ p b. R p b → S p b) R S x blocks (λ p b g r. g r) (at-each _ x blocks f)

pub at-append : (R : ℕ → Block → Type 0) (x : ℕ) (below above : List Block) → AtEach R x below
    → AtEach R (x + sizes below) above → AtEach R x (below ++ above)
at-append R x [] above r s = subst (λ y. AtEach R y above) (let e : x + 0 ≡ x = omega arith in e) s
at-append R x (b ∷ below) above r s = (
  r.0,
  at-append R (x + size b) below above r.1 (subst (λ y. AtEach R y above) (search rules) s),
)

pub at-left : (R : ℕ → Block → Type 0) (x : ℕ) (below above : List Block) → AtEach R x (below ++ above)
    → AtEach R x below
at-left R x [] above r = tt
at-left R x (b ∷ below) above r = (r.0, at-left R (x + size b) below above r.1)

pub at-right : (R : ℕ → Block → Type 0) (x : ℕ) (below above : List Block) → AtEach R x (below ++ above)
    → AtEach R (x + sizes below) above
at-right R x [] above r = subst (λ y. AtEach R y above) (let e : x ≡ x + 0 = omega arith in e) r
at-right R x (b ∷ below) above r = subst (λ y. AtEach R y above) (grind arith) (at-right R (x + size b) below above r.1)

-- one of the blocks became another of as many bytes
pub at-other : (R : ℕ → Block → Type 0) (x : ℕ) (below above : List Block) (b c : Block) → size c ≡ size b
    → ((p : ℕ) → R p b → R p c) → AtEach R x (below ++ b ∷ above) → AtEach R x (below ++ c ∷ above)
at-other R x [] above b c s f e = (f x e.0, subst (λ n. AtEach R (x + n) above) (sym s) e.1)
at-other R x (d ∷ below) above b c s f e = (e.0, at-other R (x + size d) below above b c s f e.1)

-- where blocks begin
pub begins-here : (x : ℕ) (blocks : List Block) → Begins x x blocks
begins-here x [] = refl
begins-here x (b ∷ blocks) = inl refl

pub begins-right : (p x : ℕ) (below above : List Block) → Begins p (x + sizes below) above → Begins p x (below ++ above)
begins-right p x [] above e = subst (λ y. Begins p y above) (let e : x + 0 ≡ x = omega arith in e) e
begins-right p x (b ∷ below) above e = inr (begins-right p (x + size b) below above (grind arith))

pub begins-left : (p x : ℕ) (below above : List Block) → Begins p x below → Begins p x (below ++ above)
begins-left p x [] above e = subst (λ q. Begins q x above) (sym e) (begins-here x _)
begins-left p x (b ∷ below) above (inl e) = inl e
begins-left p x (b ∷ below) above (inr e) = inr (begins-left p (x + size b) below above e)

pub begins-either : (p x : ℕ) (below above : List Block) → Begins p x (below ++ above)
    → Begins p x below ⊎ Begins p (x + sizes below) above
begins-either p x [] above e = inr (subst (λ y. Begins p y above) (let e : x ≡ x + 0 = omega arith in e) e)
begins-either p x (b ∷ below) above (inl e) = inl (inl e)
begins-either p x (b ∷ below) above (inr e) = elim (begins-either p (x + size b) below above e) [
  | inl d ↦ inl (inr d)
  | inr d ↦ inr (subst (λ y. Begins p y above) (grind arith) d)
]

pub begins-within : (p x : ℕ) (blocks : List Block) → Begins p x blocks → (x ≤ p) × (p ≤ x + sizes blocks)
begins-within p x [] e = (omega arith, omega arith)
begins-within p x (b ∷ blocks) (inl e) = (omega arith, omega arith)
begins-within p x (b ∷ blocks) (inr e) = let w = begins-within p (x + size b) blocks e in
    (omega arith, omega arith)

-- a place at which blocks begin parts them
pub record PartsAt (p x : ℕ) (blocks : List Block) : Type 0 where
  pub below : List Block
  pub above : List Block
  pub is : blocks ≡ below ++ above
  pub low : x + sizes below ≡ p

pub parts : (p x : ℕ) (blocks : List Block) → Begins p x blocks → PartsAt p x blocks
parts p x [] e = record { below = []; above = []; is = refl; low = omega arith }
parts p x (b ∷ blocks) (inl e) = record { below = []; above = b ∷ blocks; is = refl; low = omega arith }
parts p x (b ∷ blocks) (inr e) =
    let r = parts p (x + size b) blocks e in
    record { below = b ∷ r.below; above = r.above; is = ap (λ k. b ∷ k) r.is; low = omega arith }

-- the blocks from a place on up to another, of each of which something holds
pub record Passed (xs : List ℕ) (from at : ℕ) (R : ℕ → Block → Type 0) : Type 0 where
  pub done : List Block
  pub is : left_in from xs ≡ done ++ left_in at xs
  pub up : from + sizes done ≡ at
  pub each : AtEach R from done
  pub way : IsOnWay at xs

pub passed-more : (xs : List ℕ) (from at : ℕ) (R S : ℕ → Block → Type 0) → ((p : ℕ) (b : Block) → R p b → S p b)
    → Passed xs from at R → Passed xs from at S
passed-more xs from at R S f p = grind (arith, at-map)

-- past one block more
abbrev pub passed-on : (xs : List ℕ) (from at end : ℕ) (R S : ℕ → Block → Type 0)
    → ((p : ℕ) (b : Block) → R p b → S p b) → Passed xs from at R → (here : Block)
    → left_in at xs ≡ here ∷ left_in end xs → at + size here ≡ end → IsOnWay end xs → S at here → Passed xs from end S
passed-on xs from at end R S f p here is up way s = record {
  done = p.done ++ here ∷ [];
  is = p.is ∙ ap (λ k. p.done ++ k) is ∙ sym (append_assoc p.done (here ∷ []) (left_in end xs));
  up = omega (arith, p.up, span-append, up);
  each = at-append S from p.done (here ∷ []) (at-map R S from p.done (λ q b _ _ r. f q b r) p.each)
      (subst (λ q. S q here) (sym p.up) s, tt);
  way = way;
}

module _ (xs : List ℕ) (from : ℕ) (R : ℕ → Block → Type 0) where
  -- so it is of each block that begins below a bound which the walk came to
  pub passed-all : (S : ℕ → Block → Type 0) (lo hi at : ℕ) → Passed xs from at R
      → ((p : ℕ) (b : Block) → R p b → S p b) → (hi ≤ at) ⊎ (length xs ≤ at)
      → AtEach (λ p b. lo ≤ p → p < hi → S p b) from (left_in from xs)
  passed-all S lo hi at p f e = grind (arith, at-append, at-map, at-all, left-none)
