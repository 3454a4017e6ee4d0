use Rattle.block_store.proofs.Cited.{◌≡◌, ℕ, ◌+◌, ◌-◌, ◌≤◌, ◌<◌, zero, suc, Bool, true, false, ◌==◌, List, [], ◌∷◌, ◌++◌, length, take}
use Rattle.block_store.proofs.Cited.{drop, refl, sym, ◌∙◌, ap, cond, arith, Option, Some, None, nat_le, append_assoc, take-append-drop}
use Rattle.block_store.proofs.Cited.{cond-true, cond-false, nat_tests, option_map, Block, Free, Nonrelocatable, Masters, Relocatable, size}
use Rattle.block_store.proofs.Cited.{sizes, free_of, add, tidy, tidy_top, Spot, spot, raised, spot_at, freed}
use Rattle.block_store.proofs.Zone.Totals.{total-append}
use Rattle.block_store.proofs.Zone.Tidy.{total-tidy}

-- a spot seen with blocks more at the bottom
abbrev pub raised_by : List Block → Option Spot → Option Spot
raised_by bs o = option_map (λ (s : Spot). record s { below = bs ++ s.below }) o

-- the place so far where the block passes, and where it doesn't
pub spot-here : (t : Block → Bool) (place : ℕ) (b : Block) (above : List Block) → t b ≡ true
    → option_map (λ (s : Spot). place + sizes s.below) (spot t (b ∷ above)) ≡ Some place
spot-here t place b above is = ap (option_map (λ (s : Spot). place + sizes s.below)) (cond-true (t b) _ _ is)
    ∙ ap Some (let z : place + 0 ≡ place = omega arith in z)

pub spot-above : (t : Block → Bool) (place : ℕ) (b : Block) (above : List Block) → t b ≡ false
    → option_map (λ (s : Spot). place + sizes s.below) (spot t (b ∷ above))
    ≡ option_map (λ (s : Spot). (place + size b) + sizes s.below) (spot t above)
spot-above t place b above is = ap (option_map (λ (s : Spot). place + sizes s.below)) (cond-false (t b) _ _ is)
    ∙ cases (spot t above)
  where
    cases : (o : Option Spot) → option_map (λ (s : Spot). place + sizes s.below) (option_map (raised b) o)
        ≡ option_map (λ (s : Spot). (place + size b) + sizes s.below) o
    cases None = refl
    cases (Some s) = ap Some (let z : place + (size b + sizes s.below) ≡ place + size b + sizes s.below = omega arith in
        z)

-- the spot of a place, one block on
pub spot_at-more : (bs : List Block) (rest : ℕ) (b : Block) (above : List Block) → (rest ≡ 0 → ⊥) → size b ≤ rest
    → raised_by bs (spot_at rest (b ∷ above)) ≡ raised_by (bs ++ b ∷ []) (spot_at (rest - size b) above)
spot_at-more bs rest b above some fits =
    ap (raised_by bs) (cond-false (rest == 0) _ _ (grind (arith, nat_tests))
    ∙ cond-true (nat_le (size b) rest) _ _ (grind (arith, nat_tests))) ∙ cases (spot_at (rest - size b) above)
  where
    cases : (o : Option Spot) → raised_by bs (option_map (raised b) o) ≡ raised_by (bs ++ b ∷ []) o
    cases None = refl
    cases (Some s) = ap (λ l. Some (record { below = l; here = s.here; above = s.above }))
        (sym (append_assoc bs (b ∷ []) s.below))

pub spot_at-past : (bs : List Block) (rest : ℕ) (b : Block) (above : List Block) → (rest ≡ 0 → ⊥) → rest < size b
    → raised_by bs (spot_at rest (b ∷ above)) ≡ None
spot_at-past bs rest b above some past = ap (raised_by bs) (cond-false (rest == 0) _ _ (grind (arith, nat_tests))
    ∙ cond-false (nat_le (size b) rest) _ _ (grind (arith, nat_tests)))

pub add-free_free : (n m : ℕ) (above : List Block) → (n ≡ 0 → ⊥) → add (Free n) (Free m ∷ above) ≡ Free (n + m) ∷ above
add-free_free zero m above some = absurd (some refl)
add-free_free (suc n) m above some = refl

pub free_of-le : (b : Block) → free_of b ≤ size b
free_of-le (Free n) = omega arith
free_of-le (Nonrelocatable id content) = omega arith
free_of-le Masters = omega arith
free_of-le (Relocatable id flags content) = omega arith

tidy-step_at : (bs : List Block) (j : ℕ) → j < length bs → take j (take (suc j) bs ++ tidy (drop (suc j) bs))
    ++ tidy_top (drop j (take (suc j) bs ++ tidy (drop (suc j) bs))) ≡ take j bs ++ tidy (drop j bs)
tidy-step_at [] j within = absurd (let z : j < 0 = within in omega arith)
tidy-step_at (b ∷ bs) zero within = refl
tidy-step_at (b ∷ bs) (suc j) within = ap (λ l. b ∷ l) (tidy-step_at bs j (let z : suc j < suc (length bs) = within in
    omega arith))

-- one block more is tidy
pub tidy-step : (bs : List Block) (j i : ℕ) → i ≡ j + 1 → j < length bs
    → take j (take i bs ++ tidy (drop i bs)) ++ tidy_top (drop j (take i bs ++ tidy (drop i bs))) ≡ take j bs
    ++ tidy (drop j bs)
tidy-step bs j i is within =
    ap (λ n. take j (take n bs ++ tidy (drop n bs)) ++ tidy_top (drop j (take n bs ++ tidy (drop n bs))))
    (let z : i ≡ suc j = omega arith in z) ∙ tidy-step_at bs j within

pub sizes-tidied : (bs : List Block) (i : ℕ) → sizes (take i bs ++ tidy (drop i bs)) ≡ sizes bs
sizes-tidied bs i =
    total-append size (take i bs) (tidy (drop i bs)) ∙ ap (λ n. sizes (take i bs) + n)
    (total-tidy size (λ n m. refl) (drop i bs)) ∙ sym (total-append size (take i bs) (drop i bs))
    ∙ ap sizes (take-append-drop i bs)

pub size-freed : (t : Block → Bool) (bs : List Block) → sizes (freed t bs) ≡ sizes bs
size-freed t [] = refl
size-freed t (b ∷ bs) = let e = one (t b) in let r = size-freed t bs in omega arith
  where
    one : (u : Bool) → size (cond u (Free (size b)) b) ≡ size b
    one true = refl
    one false = refl

pub sizes-freed : (t : Block → Bool) (bs : List Block) (i : ℕ) → sizes (freed t (take i bs) ++ drop i bs) ≡ sizes bs
sizes-freed t bs i =
    total-append size (freed t (take i bs)) (drop i bs) ∙ ap (λ n. n + sizes (drop i bs)) (size-freed t (take i bs))
    ∙ sym (total-append size (take i bs) (drop i bs)) ∙ ap sizes (take-append-drop i bs)
