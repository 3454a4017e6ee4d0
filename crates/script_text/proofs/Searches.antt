use Rattle.script_text.proofs.Cited.{◌≡◌, ◌<◌, ◌≤◌, ℕ, Bool, true, false, List, Option, Some, None, refl, length, arith, common_steps}
use Rattle.script_text.proofs.Cited.{position_or_len_is, position, position_or_len, IsFirstByte}

-- The first byte that passes a test, as it is searched for.

-- what isn't so is not
not_so : (b : Bool) → ¬ (b ≡ true) → b ≡ false
not_so true h = absurd (h refl)
not_so false h = refl

-- a number is not below itself
never : {A : Type 0} (n : ℕ) → n < n → A
never n less = absurd (omega (arith, less))

-- the place that a search returns
pub first_is : (test : ℕ → Bool) (hay : List ℕ) (r : Option ℕ) → IsFirstByte test hay r → r ≡ position test hay
first_is test hay None none =
    let e : position_or_len test hay ≡ length hay = position_or_len_is test hay (length hay) 0 (omega arith)
    (λ k less. not_so _ (none k (omega arith) less)) (λ less. never (length hay) less) in
    grind (arith, common_steps, e)
first_is test hay (Some k) h =
    let low : k < length hay = h.0.high in
    let e : position_or_len test hay ≡ k = position_or_len_is test hay k 0 (omega (arith, low))
    (λ j less. not_so _ (h.0.before j (omega arith) less)) (λ less. h.1) in
    grind (arith, common_steps, e, low)
