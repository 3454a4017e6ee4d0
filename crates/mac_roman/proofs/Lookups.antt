use Rattle.mac_roman.proofs.Cited.{◌≡◌, ℕ, ◌+◌, ◌-◌, ◌<◌, Bool, true, false, cond, List, [], ◌∷◌, length, Option, Some, None, refl, sym}
use Rattle.mac_roman.proofs.Cited.{◌∙◌, ap, arith, suc, zero, get_or, ◌==◌, ◌&&◌, not, nat_lt, option_map, list_all, position}
use Rattle.mac_roman.proofs.Cited.{position_from, eqb-true, eq-eqb, and_parts, not-true, nat_tests, position_from-zero, position-Some, high}
use Rattle.mac_roman.proofs.Cited.{char_of, byte_of}

-- The characters of Mac OS Roman, looked up by byte and by character.

-- what passes of all passes of one
pub passes_at : (p : ℕ → Bool) (xs : List ℕ) (i : ℕ) → list_all p xs ≡ true → i < length xs → p (get_or xs i 0) ≡ true
passes_at p [] i all inside = absurd (omega arith)
passes_at p (x ∷ xs) zero all inside = (and_parts (p x) (list_all p xs) all).0
passes_at p (x ∷ xs) (suc i) all inside = passes_at p xs i (and_parts (p x) (list_all p xs) all).1 (omega arith)

-- no number stands twice
abbrev is_distinct : List ℕ → Bool
is_distinct [] = true
is_distinct (x ∷ xs) = list_all (λ y. not (x == y)) xs && is_distinct xs

found_from : (n i : ℕ) (xs : List ℕ) → is_distinct xs ≡ true → i < length xs
    → position_from (λ h. h == get_or xs i 0) n xs ≡ Some (n + i)
found_from n i [] distinct inside = absurd (omega arith)
found_from n zero (x ∷ xs) distinct inside = rw (eq-eqb x x refl) (ap Some (omega arith))
found_from n (suc i) (x ∷ xs) distinct inside =
    let apart = and_parts (list_all (λ (y : ℕ). not (x == y)) xs) (is_distinct xs) distinct in
    rw (not-true (x == get_or xs i 0) (passes_at (λ (y : ℕ). not (x == y)) xs i apart.0 (omega arith)))
    (found_from (n + 1) i xs apart.1 (omega arith) ∙ ap Some (omega arith))

found_at : (i : ℕ) (xs : List ℕ) → is_distinct xs ≡ true → i < length xs
    → position (λ h. h == get_or xs i 0) xs ≡ Some i
found_at i xs distinct inside =
    position_from-zero (λ (h : ℕ). h == get_or xs i 0) xs ∙ found_from 0 i xs distinct inside ∙ ap Some (omega arith)

distinct_high : is_distinct high ≡ true
distinct_high = refl

above_high : list_all (λ c. not (nat_lt c 128)) high ≡ true
above_high = refl

-- the byte of a byte's character
pub byte_again : (b : ℕ) → b < 256 → byte_of (char_of b) ≡ Some b
byte_again b small = cases (nat_lt b 128) refl
  where
    cases : (t : Bool) → nat_lt b 128 ≡ t → byte_of (cond t b (get_or high (b - 128) 0)) ≡ Some b
    cases true h = rw h refl
    cases false h =
        let large : 128 < b + 1 = grind (arith, nat_tests) in
        rw (not-true (nat_lt (get_or high (b - 128) 0) 128)
        (passes_at (λ (c : ℕ). not (nat_lt c 128)) high (b - 128) above_high (omega arith)))
        (ap (option_map (λ (i : ℕ). i + 128)) (found_at (b - 128) high distinct_high (omega arith)) ∙ ap Some (omega arith))

-- the character of a character's byte
pub char_again : (c b : ℕ) → byte_of c ≡ Some b → char_of b ≡ c
char_again c b is = cases (nat_lt c 128) refl is
  where
    high_char : (o : Option ℕ) → position (λ (h : ℕ). h == c) high ≡ o → option_map (λ (i : ℕ). i + 128) o ≡ Some b
        → char_of b ≡ c
    high_char None e h = cc
    high_char (Some i) e h =
        let at = position-Some (λ (h : ℕ). h == c) high i 0 e in
        let same : i + 128 ≡ b = cc in
        let large : nat_lt b 128 ≡ false = grind (arith, nat_tests) in
        let place : b - 128 ≡ i = omega arith in
        rw (large, place) (eqb-true (get_or high i 0) c at.1)

    cases : (t : Bool) → nat_lt c 128 ≡ t
        → cond t (Some c) (option_map (λ (i : ℕ). i + 128) (position (λ (h : ℕ). h == c) high)) ≡ Some b → char_of b ≡ c
    cases true h e =
        let same : c ≡ b = cc in
        rw (← same, h) refl
    cases false h e = high_char (position (λ (h : ℕ). h == c) high) refl e

-- two bytes of one character are one
pub bytes_apart : (a b : ℕ) → a < 256 → b < 256 → char_of a ≡ char_of b → a ≡ b
bytes_apart a b low less same =
    let e : Some a ≡ Some b = sym (byte_again a low) ∙ ap byte_of same ∙ byte_again b less in
    cc

-- the byte that an index in the table stands for
pub low_byte : (c : ℕ) (t : Bool) (o : Option ℕ) → nat_lt c 128 ≡ t → t ≡ true → Some c ≡ cond (nat_lt c 128) (Some c) o
low_byte c true o h e = rw h refl
low_byte c false o h e = cc
