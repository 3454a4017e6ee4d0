use Rattle.fork_edits.proofs.Cited.{◌≡◌, ℕ, ◌+◌, ◌-◌, ◌*◌, ◌/◌, ◌%◌, ◌<◌, ◌≤◌, ◌^◌, Bool, true, false, cond, List, [], ◌∷◌, ◌++◌, length}
use Rattle.fork_edits.proofs.Cited.{refl, sym, ◌∙◌, ap, arith, suc, append_assoc, codes, decimal, drop, ◌⊎◌, inl, inr, FitsSigned, ℤ, pos}
use Rattle.fork_edits.proofs.Cited.{negsuc, ◌==◌, ◌||◌, not, nat_lt, nat_le, to_ascii_lowercase, signed_decimal, w16, w64, mag}
use Rattle.fork_edits.proofs.Cited.{AllByRecursion, str_to_ascii_lowercase, and_parts, leb-true, nat_tests, sfits_widen}
use Rattle.fork_edits.proofs.Cited.{signed_decimal_injective, map-append, append_cancel_right, big_bytes, big_number, big_number-reads_back}
use Rattle.fork_edits.proofs.Cited.{upper_digit, hex_byte, is_between, is_capital, is_small, letter, fixed_byte, case_after, fixed_bytes}
use Rattle.fork_edits.proofs.Cited.{fixed_name, is_plain_byte, safe_byte}
use Rattle.fork_edits.proofs.Naming.{IsDigits, digits-decimal, digit-lower}

-- Bytes that are written so that they may stand in the name of a file are told apart, also in lower case.

-- the value of a hexadecimal digit in lower case
abbrev digit : ℕ → ℕ
digit c = cond (nat_lt c 58) (c - 48) (c - 87)

-- the first byte that a text in lower case stands for, and the rest of the text
abbrev turned : Bool → List ℕ → ℕ × List ℕ
turned small [] = (0, [])
turned small (c ∷ t) = (cond small (c - 32) c, t)

abbrev spelled : List ℕ → ℕ × List ℕ
spelled [] = (0, [])
spelled (c ∷ []) = (0, [])
spelled (c ∷ d ∷ t) = (digit c * 16 + digit d, t)

abbrev plain : Bool → ℕ → ℕ
plain small c = cond (is_small c) (cond small c (c - 32)) c

abbrev first : Bool → List ℕ → ℕ × List ℕ
first small [] = (0, [])
first small (c ∷ t) = cond (c == 43) (turned small t) (cond (c == 95) (spelled t) (plain small c, t))

-- what tests of bounds say
between_bounds : (low high n : ℕ) → is_between low high n ≡ true → (low ≤ n) × (n ≤ high)
between_bounds low high n h =
    let each = and_parts (nat_le low n) (nat_le n high) h in
    (leb-true low n each.0, leb-true n high each.1)

not_above : (m n : ℕ) → m ≤ n → nat_le m n ≡ true
not_above m n h = grind (arith, nat_tests)

above : (m n : ℕ) → n < m → nat_le m n ≡ false
above m n h = grind (arith, nat_tests)

other : (m n : ℕ) → (m < n) ⊎ (n < m) → (m == n) ≡ false
other m n (inl h) = grind (arith, nat_tests)
other m n (inr h) = grind (arith, nat_tests)

-- a capital in lower case, and what is so
low_capital : (b : ℕ) → 65 ≤ b → b ≤ 90 → to_ascii_lowercase b ≡ b + 32
low_capital b l h = grind (arith, nat_tests)

low_small : (b : ℕ) → 97 ≤ b → to_ascii_lowercase b ≡ b
low_small b l = grind (arith, nat_tests)

-- what the tests of a small letter and of a digit say
test_small : (c : ℕ) → 97 ≤ c → c ≤ 122 → ((c == 43) ≡ false) × ((c == 95) ≡ false) × (is_small c ≡ true)
test_small c l h =
    (other c 43 (inr (omega arith)), other c 95 (inr (omega arith)), rw (not_above 97 c l, not_above c 122 h) refl)

test_digit : (c : ℕ) → 48 ≤ c → c ≤ 57 → ((c == 43) ≡ false) × ((c == 95) ≡ false) × (is_small c ≡ false)
test_digit c l h =
    (other c 43 (inr (omega arith)), other c 95 (inl (omega arith)), rw (above 97 c (omega arith)) refl)

digit_again : (n : ℕ) → n < 16 → digit (to_ascii_lowercase (upper_digit n)) ≡ n
digit_again n h = grind (arith, nat_tests)

-- of what is no letter the digits are plain
plain_digit : (b : ℕ) → is_capital b ≡ false → is_small b ≡ false → is_plain_byte b ≡ is_between 48 57 b
plain_digit b c s = or_none (is_between 48 57 b) (is_capital b) (is_small b) c s
  where
    or_none : (d c s : Bool) → c ≡ false → s ≡ false → (d || c || s) ≡ d
    or_none true false false h e = refl
    or_none false false false h e = refl
    or_none d true s h e = cc
    or_none d false true h e = cc

pair_with : (m n : ℕ) (t : List ℕ) → m ≡ n → (let x : ℕ × List ℕ = (m, t) in x) ≡ (n, t)
pair_with m n t e = ap (λ (k : ℕ). (let x : ℕ × List ℕ = (k, t) in x)) e

-- a byte that is written is the first
first_other : (small : Bool) (b : ℕ) (t : List ℕ) → b < 256
    → first small (str_to_ascii_lowercase (95 ∷ hex_byte b) ++ t) ≡ (b, t)
first_other small b t fits =
    let high : digit (to_ascii_lowercase (upper_digit (b / 16))) ≡ b / 16 = digit_again (b / 16) (omega arith) in
    let low : digit (to_ascii_lowercase (upper_digit (b % 16))) ≡ b % 16 = digit_again (b % 16) (omega arith) in
    pair_with _ b t (ap (λ (k : ℕ). k * 16 + digit (to_ascii_lowercase (upper_digit (b % 16)))) high
    ∙ ap (λ (k : ℕ). b / 16 * 16 + k) low ∙ omega arith)

first_digit : (small : Bool) (b : ℕ) (t : List ℕ) → is_between 48 57 b ≡ true
    → first small (str_to_ascii_lowercase (b ∷ []) ++ t) ≡ (b, t)
first_digit small b t h =
    let l = between_bounds 48 57 b h in
    let e = test_digit b l.0 l.1 in
    rw (digit-lower b l.1, e.0, e.1, e.2) refl

first_small : (small : Bool) (b : ℕ) (t : List ℕ) → is_small b ≡ true
    → first small (str_to_ascii_lowercase (letter (not small) b) ++ t) ≡ (b, t)
first_small true b t h =
    let l = between_bounds 97 122 b h in
    let e = test_small b l.0 l.1 in
    rw (low_small b l.0, e.0, e.1, e.2) refl
first_small false b t h = rw (low_small b (between_bounds 97 122 b h).0) refl

first_capital : (small : Bool) (b : ℕ) (t : List ℕ) → is_capital b ≡ true
    → first small (str_to_ascii_lowercase (letter small b) ++ t) ≡ (b, t)
first_capital true b t h =
    let l = between_bounds 65 90 b h in
    rw (low_capital b l.0 l.1) (pair_with (b + 32 - 32) b t (omega arith))
first_capital false b t h =
    let l = between_bounds 65 90 b h in
    let e = test_small (b + 32) (omega (arith, l)) (omega (arith, l)) in
    rw (low_capital b l.0 l.1, e.0, e.1, e.2) (pair_with (b + 32 - 32) b t (omega arith))

first_is : (small : Bool) (b : ℕ) (t : List ℕ) → b < 256
    → first small (str_to_ascii_lowercase (fixed_byte small b) ++ t) ≡ (b, t)
first_is small b t fits = by_capital (is_capital b) refl
  where
    by_digit : (d : Bool) → is_between 48 57 b ≡ d
        → first small (str_to_ascii_lowercase (cond d (b ∷ []) (95 ∷ hex_byte b)) ++ t) ≡ (b, t)
    by_digit true h = first_digit small b t h
    by_digit false h = first_other small b t fits

    by_small : (c : Bool) → is_small b ≡ c → is_capital b ≡ false
        → first small (str_to_ascii_lowercase (cond c (letter (not small) b) (safe_byte b)) ++ t) ≡ (b, t)
    by_small true h e = first_small small b t h
    by_small false h e = rw (plain_digit b e h) (by_digit (is_between 48 57 b) refl)

    by_capital : (c : Bool) → is_capital b ≡ c
        → first small (str_to_ascii_lowercase (cond c (letter small b) (cond (is_small b) (letter (not small) b) (safe_byte b))) ++ t)
        ≡ (b, t)
    by_capital true h = first_capital small b t h
    by_capital false h = by_small (is_small b) refl h

-- bytes of which as many are written, with what follows
pub bytes_same : (small : Bool) (xs ys t u : List ℕ) → length xs ≡ length ys
    → AllByRecursion (λ b. b < 256) xs → AllByRecursion (λ b. b < 256) ys
    → str_to_ascii_lowercase (fixed_bytes small xs) ++ t ≡ str_to_ascii_lowercase (fixed_bytes small ys) ++ u
    → (xs ≡ ys) × (t ≡ u)
bytes_same small [] [] t u size low less same = (refl, same)
bytes_same small [] (y ∷ ys) t u size low less same = absurd (omega arith)
bytes_same small (x ∷ xs) [] t u size low less same = absurd (omega arith)
bytes_same small (x ∷ xs) (y ∷ ys) t u size low less same =
    let split : (b : ℕ) (bytes v : List ℕ) → str_to_ascii_lowercase (fixed_bytes small (b ∷ bytes)) ++ v
    ≡ str_to_ascii_lowercase (fixed_byte small b)
    ++ (str_to_ascii_lowercase (fixed_bytes (case_after small b) bytes) ++ v) = λ b bytes v.
    ap (λ l. l ++ v) (map-append to_ascii_lowercase (fixed_byte small b) (fixed_bytes (case_after small b) bytes))
    ∙ append_assoc (str_to_ascii_lowercase (fixed_byte small b))
    (str_to_ascii_lowercase (fixed_bytes (case_after small b) bytes)) v in
    let both = sym (first_is small x (str_to_ascii_lowercase (fixed_bytes (case_after small x) xs) ++ t) low.0)
    ∙ ap (first small) (sym (split x xs t) ∙ same ∙ split y ys u)
    ∙ first_is small y (str_to_ascii_lowercase (fixed_bytes (case_after small y) ys) ++ u) less.0 in
    let here : x ≡ y = ap (λ (p : ℕ × List ℕ). p.0) both in
    let rest : str_to_ascii_lowercase (fixed_bytes (case_after small x) xs) ++ t
    ≡ str_to_ascii_lowercase (fixed_bytes (case_after small x) ys) ++ u =
    ap (λ (p : ℕ × List ℕ). p.1) both
    ∙ ap (λ (k : ℕ). str_to_ascii_lowercase (fixed_bytes (case_after small k) ys) ++ u) (sym here) in
    let more = bytes_same (case_after small x) xs ys t u (omega arith) low.1 less.1 rest in
    (ap (λ (k : ℕ). k ∷ xs) here ∙ ap (λ l. y ∷ l) more.0, more.1)

-- decimal numbers are the same in lower case
lower_digits : (ds : List ℕ) → IsDigits ds → str_to_ascii_lowercase ds ≡ ds
lower_digits [] h = refl
lower_digits (d ∷ ds) h = ap (λ (c : ℕ). c ∷ str_to_ascii_lowercase ds) (digit-lower d h.1)
    ∙ ap (λ l. d ∷ l) (lower_digits ds h.2)

lower_signed : (z : ℤ) → mag z < 2 ^ 63 → str_to_ascii_lowercase (signed_decimal z) ≡ signed_decimal z
lower_signed (pos n) small = lower_digits (decimal n) (digits-decimal n (omega (arith, small)))
lower_signed (negsuc n) small =
    ap (λ l. 45 ∷ l) (lower_digits (decimal (suc n)) (digits-decimal (suc n) (omega (arith, small))))

-- the name of a file, by its parts
name_parts : (kind : ℕ) (id : ℤ) → mag id < 2 ^ 63 → str_to_ascii_lowercase (fixed_name kind id)
    ≡ str_to_ascii_lowercase (fixed_bytes false (big_bytes 4 kind)) ++ 45 ∷ (signed_decimal id ++ codes ".bin")
name_parts kind id small =
    let front : List ℕ = fixed_bytes false (big_bytes 4 kind) in
    ap str_to_ascii_lowercase (append_assoc (front ++ codes "-") (signed_decimal id) (codes ".bin")
    ∙ append_assoc front (codes "-") (signed_decimal id ++ codes ".bin"))
    ∙ map-append to_ascii_lowercase front (45 ∷ (signed_decimal id ++ codes ".bin"))
    ∙ ap (λ l. str_to_ascii_lowercase front ++ 45 ∷ l) (map-append to_ascii_lowercase (signed_decimal id) (codes ".bin")
    ∙ ap (λ l. l ++ codes ".bin") (lower_signed id small))

small_bytes : (kind : ℕ) → AllByRecursion (λ b. b < 256) (big_bytes 4 kind)
small_bytes kind = (omega arith, (omega arith, (omega arith, (omega arith, tt))))

-- names that are the same in either case are of one type and one ID
pub fixed_apart : (j k : ℕ) (x y : ℤ) → j < 2 ^ 32 → k < 2 ^ 32 → FitsSigned w16 x → FitsSigned w16 y
    → str_to_ascii_lowercase (fixed_name j x) ≡ str_to_ascii_lowercase (fixed_name k y) → (j ≡ k) × (x ≡ y)
fixed_apart j k x y low high one two same =
    let small : mag x < 2 ^ 63 = (sfits_widen {w = w16} {w' = w64} tt one).sfits in
    let less : mag y < 2 ^ 63 = (sfits_widen {w = w16} {w' = w64} tt two).sfits in
    let both = bytes_same false (big_bytes 4 j) (big_bytes 4 k) (45 ∷ (signed_decimal x ++ codes ".bin"))
    (45 ∷ (signed_decimal y ++ codes ".bin")) refl (small_bytes j) (small_bytes k)
    (sym (name_parts j x small) ∙ same ∙ name_parts k y less) in (
      sym (big_number-reads_back 4 j [] low) ∙ ap (λ l. big_number 4 (l ++ [])) both.0 ∙ big_number-reads_back 4 k [] high,
      signed_decimal_injective x y small less (append_cancel_right (signed_decimal x) (signed_decimal y) (codes ".bin")
          (ap (λ (l : List ℕ). drop 1 l) both.1)),
    )
