use Rattle.real_zone.proofs.Cited.{◌≡◌, ℕ, zero, suc, ◌+◌, ◌-◌, ◌<◌, ◌≤◌, List, ◌++◌, sym, ◌∙◌, ap, arith, append_assoc, flat_map}
use Rattle.real_zone.proofs.Cited.{append-nil, found_unnamed, fourths, FoundZone}

-- Zones that stand at multiples of 4.

-- one address more
pub others_more : (dump : List ℕ) (base n k address : ℕ) (front total : List FoundZone) → k < n
    → front ++ flat_map (found_unnamed dump base) (fourths (n - k) address) ≡ total
    → (front ++ found_unnamed dump base address) ++ flat_map (found_unnamed dump base) (fourths (n - (k + 1)) (address + 4)) ≡ total
unfolding fourths
others_more dump base n k address front total h e =
    let left : n - k ≡ suc (n - (k + 1)) = omega arith in
    append_assoc front (found_unnamed dump base address) (flat_map (found_unnamed dump base) (fourths (n - (k + 1)) (address + 4)))
    ∙ ap (λ m. front ++ flat_map (found_unnamed dump base) (fourths m address)) (sym left) ∙ e

-- no address is left
pub others_end : (dump : List ℕ) (base n k address : ℕ) (front total : List FoundZone) → n ≤ k
    → front ++ flat_map (found_unnamed dump base) (fourths (n - k) address) ≡ total → front ≡ total
unfolding fourths
others_end dump base n k address front total h e =
    let none : n - k ≡ zero = omega arith in
    sym (append-nil front) ∙ ap (λ m. front ++ flat_map (found_unnamed dump base) (fourths m address)) (sym none) ∙ e
