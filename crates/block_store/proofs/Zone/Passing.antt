use Rattle.block_store.proofs.Cited.{◌≡◌, ℕ, ◌+◌, ◌≤◌, Bool, true, false, ◌||◌, List, [], ◌∷◌, ◌++◌, filter, refl, ◌∙◌, cond, arith}
use Rattle.block_store.proofs.Cited.{cond-false, or_parts, list_any-append, Block, count, has}

-- Whether a block passes a test.

pub none-append : (t : Block → Bool) (xs ys : List Block) → has t xs ≡ false → has t ys ≡ false
    → has t (xs ++ ys) ≡ false
none-append t xs ys a b = list_any-append t xs ys ∙ rw (a, b) refl

pub has-append : (t : Block → Bool) (xs ys : List Block) → has t ys ≡ true → has t (xs ++ ys) ≡ true
has-append t [] ys e = e
has-append t (x ∷ xs) ys e = rw (has-append t xs ys e) (elim (t x) as (λ u. (u || true) ≡ true)
    [ true ↦ refl | false ↦ refl ])

pub has-front : (t : Block → Bool) (xs ys : List Block) → has t xs ≡ true → has t (xs ++ ys) ≡ true
has-front t [] ys e = let f : false ≡ true = e in cc
has-front t (x ∷ xs) ys e = cases (t x) e (has-front t xs ys)
  where
    cases : (u : Bool) → (u || has t xs) ≡ true → (has t xs ≡ true → has t (xs ++ ys) ≡ true)
        → (u || has t (xs ++ ys)) ≡ true
    cases true e more = refl
    cases false e more = more e

-- a test that a block passes counts it
pub has-count : (test : Block → Bool) (bs : List Block) → has test bs ≡ true → 1 ≤ count test bs
has-count test [] e = let f : false ≡ true = e in cc
has-count test (b ∷ bs) e = cases (test b) e (λ e. has-count test bs e)
  where
    cases : (t : Bool) → (t || has test bs) ≡ true → (has test bs ≡ true → 1 ≤ count test bs)
        → 1 ≤ cond {A = ℕ} t 1 0 + count test bs
    cases true e more = omega arith
    cases false e more = let r = more e in omega arith

-- what is left of a test that nothing passes
pub filter-none : (t : Block → Bool) (bs : List Block) → has t bs ≡ false → filter t bs ≡ []
filter-none t [] e = refl
filter-none t (b ∷ bs) e = let p = or_parts (t b) (has t bs) e in cond-false (t b) _ _ p.0 ∙ filter-none t bs p.1

-- what holds of each block of a list holds of each that passes
pub filter-keeps : (P : List Block → Type 0) → P [] → ((b : Block) (bs : List Block) → P (b ∷ bs) → P bs)
    → ((b : Block) (bs cs : List Block) → P (b ∷ bs) → P cs → P (b ∷ cs)) → (test : Block → Bool) (bs : List Block)
    → P bs → P (filter test bs)
filter-keeps P none rest more test [] a = none
filter-keeps P none rest more test (b ∷ bs) a = cases (test b) (filter-keeps P none rest more test bs (rest b bs a))
  where
    cases : (t : Bool) → P (filter test bs) → P (cond t (b ∷ filter test bs) (filter test bs))
    cases true kept = more b bs (filter test bs) a kept
    cases false kept = kept
