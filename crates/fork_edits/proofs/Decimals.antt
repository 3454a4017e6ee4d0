-- Numbers that are written in decimal are read again.
use Rattle.fork_edits.proofs.Cited.{◌≡◌, ℕ, ◌+◌, ◌-◌, ◌*◌, ◌/◌, ◌%◌, ◌<◌, ◌≤◌, ◌^◌, Bool, true, false, cond, List, [], ◌∷◌, ◌++◌, length}
use Rattle.fork_edits.proofs.Cited.{decimal, Some, None, refl, ◌∙◌, ap, arith, suc, FitsSigned, ℤ, pos, negsuc, ◌==◌, ◌&&◌, nat_le}
use Rattle.fork_edits.proofs.Cited.{option_map, slice_index, signed_decimal, w16, and_right, nat_tests, decimal_by_steps, decimal_nonempty}
use Rattle.fork_edits.proofs.Cited.{number_from, digits_read, number_read, attrs_read, number_after, number_within, below_zero, id_read}
use Rattle.fork_edits.proofs.Cited.{is_between}
use Rattle.fork_edits.proofs.Naming.{IsDigits, digits-decimal}

-- digits that stand for a number, with more of them
after_append : (limit n : ℕ) (ds rest : List ℕ) (k : ℕ) → number_after limit n ds ≡ Some k
    → number_after limit n (ds ++ rest) ≡ number_after limit k rest
after_append limit n [] rest k e = let same : n ≡ k = cc in ap (λ m. number_after limit m rest) same
after_append limit n (d ∷ ds) rest k e =
    step (is_between 48 57 d && nat_le (10 * n + (d - 48)) limit) e (after_append limit (10 * n + (d - 48)) ds rest k)
  where
    step : (t : Bool) → cond t (number_after limit (10 * n + (d - 48)) ds) None ≡ Some k
        → (number_after limit (10 * n + (d - 48)) ds ≡ Some k
        → number_after limit (10 * n + (d - 48)) (ds ++ rest) ≡ number_after limit k rest)
        → cond t (number_after limit (10 * n + (d - 48)) (ds ++ rest)) None ≡ number_after limit k rest
    step true h more = more h
    step false h more = cc

digit : (limit k d : ℕ) → d < 10 → 10 * k + d ≤ limit → number_after limit k ((48 + d) ∷ []) ≡ Some (10 * k + d)
digit limit k d low fits =
    let back : 48 + d - 48 ≡ d = omega arith in
    let least : nat_le 48 (48 + d) ≡ true = grind (arith, nat_tests) in
    let most : nat_le (48 + d) 57 ≡ true = grind (arith, nat_tests) in
    let within : nat_le (10 * k + d) limit ≡ true = grind (arith, nat_tests) in
    rw (back, least, most, within) refl

after_decimal : (limit n : ℕ) → n < 2 ^ 64 → n ≤ limit → number_after limit 0 (decimal n) ≡ Some n
after_decimal limit n small within =
    decimal_by_steps (λ m ds. m ≤ limit → number_after limit 0 ds ≡ Some m) one more n small within
  where
    one : (m : ℕ) → m < 10 → m ≤ limit → number_after limit 0 ((48 + m) ∷ []) ≡ Some m
    one m h fits = digit limit 0 m h (omega arith) ∙ ap Some (omega arith)

    more : (m : ℕ) (ds : List ℕ) → 10 ≤ m → (m / 10 ≤ limit → number_after limit 0 ds ≡ Some (m / 10)) → m ≤ limit
        → number_after limit 0 (ds ++ (48 + m % 10) ∷ []) ≡ Some m
    more m ds h told fits =
        after_append limit 0 ds ((48 + m % 10) ∷ []) (m / 10) (told (omega arith))
        ∙ digit limit (m / 10) (m % 10) (omega arith) (omega arith) ∙ ap Some (omega arith)

some_digit : (n : ℕ) → n < 2 ^ 64 → (length (decimal n) == 0) ≡ false
some_digit n small = let h = decimal_nonempty n small in grind (arith, nat_tests)

pub within_decimal : (limit n : ℕ) → n < 2 ^ 64 → n ≤ limit → number_within limit (decimal n) ≡ Some n
within_decimal limit n small fits = rw (some_digit n small) (after_decimal limit n small fits)

-- numbers up to 255, as attributes are read
from_same : (n : ℕ) (ds : List ℕ) → number_from n ds ≡ number_after 255 n ds
from_same n [] = refl
from_same n (d ∷ ds) = step (is_between 48 57 d && nat_le (10 * n + (d - 48)) 255) (from_same (10 * n + (d - 48)) ds)
  where
    step : (t : Bool) → number_from (10 * n + (d - 48)) ds ≡ number_after 255 (10 * n + (d - 48)) ds
        → cond t (number_from (10 * n + (d - 48)) ds) None ≡ cond t (number_after 255 (10 * n + (d - 48)) ds) None
    step true e = e
    step false e = refl

-- what digits begin with
first_digit : (ds : List ℕ) (b : ℕ) → IsDigits ds → 0 < b → b < 48 → (slice_index ds 0 == b) ≡ false
first_digit [] b h above below = grind (arith, nat_tests)
first_digit (d ∷ ds) b h above below = let low = h.0 in grind (arith, nat_tests)

pub attrs_decimal : (n : ℕ) → n < 256 → attrs_read (decimal n) ≡ Some n
attrs_decimal n fits =
    let small : n < 2 ^ 64 = omega arith in
    let digits = digits-decimal n small in
    let number : digits_read (decimal n) ≡ Some n =
    rw (some_digit n small) (from_same 0 (decimal n) ∙ after_decimal 255 n small (omega arith)) in
    let read : number_read (decimal n) ≡ Some n =
    rw (and_right (nat_le 1 (length (decimal n))) (slice_index (decimal n) 0 == 43)
    (first_digit (decimal n) 43 digits (omega arith) (omega arith))) number in
    rw (
      and_right (length (decimal n) == 3) (slice_index (decimal n) 0 == 36) (first_digit (decimal n) 36 digits (omega arith) (omega arith)),
      read,
    ) refl

pub id_decimal : (z : ℤ) → FitsSigned w16 z → id_read (signed_decimal z) ≡ Some z
id_decimal (pos n) fits =
    let within : n < 2 ^ 15 = fits.sfits in
    let small : n < 2 ^ 64 = omega arith in
    rw (and_right (nat_le 1 (length (decimal n))) (slice_index (decimal n) 0 == 45) (first_digit (decimal n) 45 (digits-decimal n small)
    (omega arith) (omega arith))) (ap (option_map pos) (within_decimal 32767 n small (omega arith)))
id_decimal (negsuc n) fits =
    let within : n < 2 ^ 15 = fits.sfits in
    let some : nat_le 1 (suc (length (decimal (suc n)))) ≡ true = grind (arith, nat_tests) in
    rw some (ap below_zero (within_decimal 32768 (suc n) (omega arith) (omega arith)))
