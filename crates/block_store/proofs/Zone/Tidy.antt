use Rattle.block_store.proofs.Cited.{◌≡◌, ℕ, ◌+◌, zero, suc, Bool, true, false, ◌||◌, ◌==◌, List, [], ◌∷◌, ◌++◌, refl, sym, ◌∙◌, ap, cond}
use Rattle.block_store.proofs.Cited.{arith, Option, Some, None, Block, Free, Nonrelocatable, Masters, Relocatable, size, total, rename, add}
use Rattle.block_store.proofs.Cited.{tidy, is_relocatable, has, Spot, spot, raised, freed, option_map, none-some, same_Some, or_parts}
use Rattle.block_store.proofs.Cited.{cond-false}

-- a measure of blocks for which two Free blocks are as much as one of their bytes
abbrev pub Adds : (Block → ℕ) → Type 0
Adds of = (n m : ℕ) → of (Free (n + m)) ≡ of (Free n) + of (Free m)

-- what sees two Free blocks as one of their bytes, and none of no bytes, sees no joining
pub add-joined : {A : Type 0} (of : List Block → A) → ((bs : List Block) → of (Free 0 ∷ bs) ≡ of bs)
    → ((n m : ℕ) (bs : List Block) → of (Free (n + m) ∷ bs) ≡ of (Free n ∷ Free m ∷ bs)) → (b : Block)
    (bs : List Block) → of (add b bs) ≡ of (b ∷ bs)
add-joined of none joined (Free zero) bs = sym (none bs)
add-joined of none joined (Free (suc n)) [] = refl
add-joined of none joined (Free (suc n)) (Free m ∷ bs) = joined (suc n) m bs
add-joined of none joined (Free (suc n)) (Nonrelocatable id content ∷ bs) = refl
add-joined of none joined (Free (suc n)) (Masters ∷ bs) = refl
add-joined of none joined (Free (suc n)) (Relocatable id flags content ∷ bs) = refl
add-joined of none joined (Nonrelocatable id content) bs = refl
add-joined of none joined Masters bs = refl
add-joined of none joined (Relocatable id flags content) bs = refl

pub total-add : (of : Block → ℕ) → Adds of → (b : Block) (bs : List Block) → total of (add b bs) ≡ of b + total of bs
total-add of adds = add-joined (total of)
    (λ bs. let e : of (Free (0 + 0)) ≡ of (Free 0) + of (Free 0) = adds 0 0 in omega arith)
    (λ n m bs. omega (arith, adds n m))

-- making Free blocks one keeps such a measure
pub total-tidy : (of : Block → ℕ) → Adds of → (bs : List Block) → total of (tidy bs) ≡ total of bs
total-tidy of adds [] = refl
total-tidy of adds (b ∷ bs) = omega (arith, total-add of adds b (tidy bs), total-tidy of adds bs)

-- a test that no Free block passes
pub has-add : (test : Block → Bool) → ((n : ℕ) → test (Free n) ≡ false) → (b : Block) (bs : List Block)
    → has test (add b bs) ≡ (test b || has test bs)
has-add test none = add-joined (has test) (λ bs. rw (none 0) refl)
    (λ n m bs. rw (none (n + m), none n, none m) refl)

pub has-tidy : (test : Block → Bool) → ((n : ℕ) → test (Free n) ≡ false) → (bs : List Block)
    → has test (tidy bs) ≡ has test bs
has-tidy test none [] = refl
has-tidy test none (b ∷ bs) = has-add test none b (tidy bs) ∙ ap (λ t. test b || t) (has-tidy test none bs)

-- no block that was freed is left
pub has-freed : (test : Block → Bool) → ((n : ℕ) → test (Free n) ≡ false) → (bs : List Block)
    → has test (freed test bs) ≡ false
has-freed test none [] = refl
has-freed test none (b ∷ bs) = rw (has-freed test none bs) (cases (test b) refl)
  where
    cases : (t : Bool) → test b ≡ t → (test (cond t (Free (size b)) b) || false) ≡ false
    cases true e = rw (none (size b)) refl
    cases false e = rw e refl

pub has-released : (id : ℕ) (bs : List Block) → has (is_relocatable id) (tidy (freed (is_relocatable id) bs)) ≡ false
has-released id bs = has-tidy (is_relocatable id) (λ n. refl) (freed (is_relocatable id) bs)
    ∙ has-freed (is_relocatable id) (λ n. refl) bs

-- names that blocks don't have may be changed as one likes
pub rename-unless : (f f' g : ℕ → ℕ) (id : ℕ) → ((k : ℕ) → (k == id) ≡ false → f' k ≡ f k) → (bs : List Block)
    → has (is_relocatable id) bs ≡ false → rename f' g bs ≡ rename f g bs
rename-unless f f' g id same [] none = refl
rename-unless f f' g id same (Free n ∷ bs) none = ap (λ l. Free n ∷ l) (rename-unless f f' g id same bs none)
rename-unless f f' g id same (Nonrelocatable k content ∷ bs) none = ap (λ l. Nonrelocatable (g k) content ∷ l)
    (rename-unless f f' g id same bs none)
rename-unless f f' g id same (Masters ∷ bs) none = ap (λ l. Masters ∷ l) (rename-unless f f' g id same bs none)
rename-unless f f' g id same (Relocatable k flags content ∷ bs) none =
    let parts = or_parts (k == id) (has (is_relocatable id) bs) none in
    rw (same k parts.0) (ap (λ l. Relocatable (f k) flags content ∷ l) (rename-unless f f' g id same bs parts.1))

-- names of pointers that blocks don't have
pub rename_nonrelocatable-unless : (f g g' : ℕ → ℕ) → ((k : ℕ) → g' k ≡ g k) → (bs : List Block) → rename f g' bs ≡ rename f g bs
rename_nonrelocatable-unless f g g' same bs = ap (λ h. rename f h bs) (λ i k. same k i)

-- a spot is a way to see the zone
pub spot-is : (test : Block → Bool) (bs : List Block) (s : Spot) → spot test bs ≡ Some s
    → bs ≡ s.below ++ s.here ∷ s.above
spot-is test [] s e = absurd (none-some _ e)
spot-is test (b ∷ bs) s e = cases (test b) (spot test bs) (spot-is test bs) e
  where
    cases : (t : Bool) (o : Option Spot) → ((s : Spot) → o ≡ Some s → bs ≡ s.below ++ s.here ∷ s.above)
        → cond t (Some (record { below = []; here = b; above = bs })) (option_map (raised b) o) ≡ Some s
        → b ∷ bs ≡ s.below ++ s.here ∷ s.above
    cases true o rest e = ap (λ (s : Spot). s.below ++ s.here ∷ s.above) (same_Some _ _ e)
    cases false None rest e = absurd (none-some _ e)
    cases false (Some s') rest e = ap (λ l. b ∷ l) (rest s' refl)
        ∙ ap (λ (s : Spot). s.below ++ s.here ∷ s.above) (same_Some _ _ e)

-- the block of a spot passes
pub spot-passes : (test : Block → Bool) (bs : List Block) (s : Spot) → spot test bs ≡ Some s → test s.here ≡ true
spot-passes test [] s e = absurd (none-some _ e)
spot-passes test (b ∷ bs) s e = cases (test b) refl (spot test bs) (spot-passes test bs) e
  where
    cases : (t : Bool) → test b ≡ t → (o : Option Spot) → ((s : Spot) → o ≡ Some s → test s.here ≡ true)
        → cond t (Some (record { below = []; here = b; above = bs })) (option_map (raised b) o) ≡ Some s
        → test s.here ≡ true
    cases true is o rest e = ap (λ (s : Spot). test s.here) (sym (same_Some _ _ e)) ∙ is
    cases false is None rest e = absurd (none-some _ e)
    cases false is (Some s') rest e = ap (λ (s : Spot). test s.here) (sym (same_Some _ _ e)) ∙ rest s' refl

-- what is told of the spot that passes doesn't hang on a block below it
pub told-past : {A : Type 0} (of : Spot → A) (test : Block → Bool) (b : Block) (bs : List Block)
    → ((s : Spot) → of (raised b s) ≡ of s) → test b ≡ false
    → option_map of (spot test (b ∷ bs)) ≡ option_map of (spot test bs)
told-past of test b bs same fails = ap (option_map of) (cond-false (test b) _ _ fails) ∙ cases (spot test bs)
  where
    cases : (o : Option Spot) → option_map of (option_map (raised b) o) ≡ option_map of o
    cases None = refl
    cases (Some s) = ap Some (same s)
