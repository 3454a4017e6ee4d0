-- The largest of holes, found one after another.
use Rattle.partitions.proofs.Cited.{◌≡◌, ℕ, ◌+◌, ◌-◌, ◌<◌, ◌≤◌, List, [], ◌∷◌, refl, sym, ap, ◌∙◌, arith, zero, suc, ◌⊎◌, inl, inr}
use Rattle.partitions.proofs.Cited.{cases_lt, le-ltb, lt-ltb, Window, window, holes, larger_hole, largest}

higher : (low high : Window) → low.len < high.len → larger_hole low high ≡ high
higher low high h = rw (lt-ltb low.len high.len h) refl

lower : (low high : Window) → high.len ≤ low.len → larger_hole low high ≡ low
lower low high h = rw (le-ltb low.len high.len h) refl

regrouped : (a b c : Window) → (a.len < b.len) ⊎ (b.len ≤ a.len) → (b.len < c.len) ⊎ (c.len ≤ b.len)
    → larger_hole (larger_hole a b) c ≡ larger_hole a (larger_hole b c)
regrouped a b c (inl x) (inl y) = ap (λ w. larger_hole w c) (higher a b x) ∙ higher b c y
    ∙ sym (ap (larger_hole a) (higher b c y) ∙ higher a c (omega (arith, x, y)))
regrouped a b c (inl x) (inr y) = ap (λ w. larger_hole w c) (higher a b x) ∙ lower b c y
    ∙ sym (ap (larger_hole a) (lower b c y) ∙ higher a b x)
regrouped a b c (inr x) (inl y) = ap (λ w. larger_hole w c) (lower a b x) ∙ sym (ap (larger_hole a) (higher b c y))
regrouped a b c (inr x) (inr y) = ap (λ w. larger_hole w c) (lower a b x) ∙ lower a c (omega (arith, x, y))
    ∙ sym (ap (larger_hole a) (lower b c y) ∙ lower a b x)

pub larger-larger : (a b c : Window) → larger_hole (larger_hole a b) c ≡ larger_hole a (larger_hole b c)
larger-larger a b c = regrouped a b c (cases_lt a.len b.len) (cases_lt b.len c.len)

-- no hole yet, and one at the bottom of the memory
none-larger : (n : ℕ) → larger_hole (window 0 0) (window 0 n) ≡ window 0 n
none-larger zero = refl
none-larger (suc n) = higher (window 0 0) (window 0 (suc n)) (omega arith)

pub larger_holes : (memory : ℕ) (ws : List Window)
    → larger_hole (window 0 0) (largest (holes memory 0 ws)) ≡ largest (holes memory 0 ws)
larger_holes memory [] = sym (larger-larger (window 0 0) (window 0 (memory - 0)) (window 0 0))
    ∙ ap (λ w. larger_hole w (window 0 0)) (none-larger (memory - 0))
larger_holes memory (w ∷ ws) =
    let above = largest (holes memory (w.at + w.len) ws) in
    sym (larger-larger (window 0 0) (window 0 (w.at - 0)) above) ∙ ap (λ v. larger_hole v above) (none-larger (w.at - 0))
