-- One more turn of a loop that reads items, and the last of some.
use Rattle.rez_templates.proofs.Cited.{◌≡◌, ℕ, zero, suc, ◌-◌, ◌<◌, Some, None, List, [], ◌∷◌, ◌++◌, ap, refl, ◌∙◌, length, arith, ◌>>=◌}
use Rattle.rez_templates.proofs.Cited.{above, Drafted, with_next, with_items, split_last}

pub items_on : (n : ℕ) (rest : List ℕ) (d : Drafted) → 0 < n → 0 < length rest
    → with_items n rest d ≡ (with_next rest d >>= λ (e, more). with_items (n - 1) more e)
unfolding with_items
items_on n [] d h some = absurd (omega (arith, some))
items_on n (size ∷ bytes) d h some = ap (λ k. with_items k (size ∷ bytes) d) (above n h)

pub items_end : (n : ℕ) (rest : List ℕ) (d : Drafted) → length rest ≡ 0 → with_items n rest d ≡ Some d
unfolding with_items
items_end zero [] d h = refl
items_end (suc n) [] d h = refl
items_end n (size ∷ bytes) d h = absurd (omega (arith, h))

pub items_more : (n : ℕ) (rest : List ℕ) (d : Drafted) → n ≡ 0 → 0 < length rest → with_items n rest d ≡ None
unfolding with_items
items_more n [] d h some = absurd (omega (arith, some))
items_more n (size ∷ bytes) d h some = ap (λ k. with_items k (size ∷ bytes) d) h

split-on : {A : Type 0} (xs : List A) (x : A) → split_last (xs ++ x ∷ []) ≡ Some (xs, x)
split-on [] x = refl
split-on (y ∷ xs) x = rw (split-on xs x) refl

pub last_is : {A : Type 0} (all xs : List A) (x : A) → all ≡ xs ++ x ∷ [] → split_last all ≡ Some (xs, x)
last_is all xs x h = ap split_last h ∙ split-on xs x

pub no_last : {A : Type 0} (all : List A) → length all ≡ 0 → split_last all ≡ None
no_last [] h = refl
no_last (x ∷ xs) h = absurd (omega (arith, h))
