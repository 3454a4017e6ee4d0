use Rattle.fork_rules.proofs.Cited.{◌≡◌, ℕ, ◌+◌, ◌-◌, ◌*◌, List, [], ◌∷◌, length, drop, ◌∙◌, ap, arith, take_rest, slice_index, big_number}
use Rattle.fork_rules.proofs.Cited.{part, column}

-- a field of one place
pub one_place : (n n' d d' at at' : ℕ) (places bytes : List ℕ) → n ≡ n' → d ≡ d' → places ≡ at ∷ [] → at + d' ≡ at'
    → column n d places bytes ≡ part n' at' bytes ∷ []
one_place n n' d d' at at' places bytes p q r s =
    ap (λ k. column k d places bytes) p ∙ ap (λ k. column n' k places bytes) q ∙ ap (λ l. column n' d' l bytes) r
    ∙ ap (λ k. part n' k bytes ∷ []) s

-- the rest of the bytes is a part of them
pub all_the_rest : (m : ℕ) (bytes : List ℕ) → part (length bytes - m) m bytes ≡ drop m bytes
all_the_rest m bytes = take_rest bytes m

-- three bytes as a number
pub of_three : (h m l : ℕ) (xs ys : List ℕ) → ys ≡ xs → h ≡ slice_index ys 0 → m ≡ slice_index ys 1 → l ≡ slice_index ys 2
    → 65536 * h + (256 * m + l) ≡ big_number 3 xs
of_three h m l xs ys same p q r =
    let a = p ∙ ap (λ zs. slice_index zs 0) same in
    let b = q ∙ ap (λ zs. slice_index zs 1) same in
    let d = r ∙ ap (λ zs. slice_index zs 2) same in
    omega (arith, a, b, d)
