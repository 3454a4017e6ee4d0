-- Digits from the left.
use Rattle.script_text.proofs.Cited.{◌≡◌, ℕ, ◌+◌, ◌-◌, ◌*◌, ◌≤◌, ◌<◌, true, List, [], ◌∷◌, ◌++◌, Option, Some, None, refl, sym, ap, ◌∙◌}
use Rattle.script_text.proofs.Cited.{append_assoc, length, get_or, take, drop, arith, common_steps, is_ascii_digit, option_map, number_from}
use Rattle.script_text.proofs.Cited.{number_within, byte_at, hex_bytes}

-- a number doesn't fall as digits follow
grows : (n : ℕ) (digits : List ℕ) → n ≤ number_from n digits
grows n [] = omega arith
grows n (c ∷ digits) = let h = grows (10 * n + (c - 48)) digits in omega arith

-- a digit at the front is read
at_digit : (limit n c : ℕ) (rest : List ℕ) → is_ascii_digit c ≡ true
    → number_within limit n (c ∷ rest) ≡ number_within limit (10 * n + (c - 48)) rest
at_digit limit n c rest h = rw h refl

-- a number over the limit stays over it
is_over : (limit n : ℕ) (rest : List ℕ) → limit < n → number_within limit n rest ≡ None
is_over limit n rest h = let g = grows n rest in grind arith

-- the bytes that were read, before those that are still to be read
abbrev pub with_front : List ℕ → Option (List ℕ) → Option (List ℕ)
with_front front read = option_map (λ bytes. front ++ bytes) read

-- a digit that passes the limit: no number within it goes on so
pub over : (limit n : ℕ) (rest : List ℕ) → 1 ≤ length rest → is_ascii_digit (get_or rest 0 0) ≡ true
    → limit < 10 * n + (get_or rest 0 0 - 48) → number_within limit n rest ≡ None
over limit n [] some d large = absurd (omega arith)
over limit n (c ∷ rest) some d large = at_digit limit n c rest d ∙ is_over limit _ rest large

-- a byte moves over to those that were read
byte_first : (front : List ℕ) (byte : ℕ) (read : Option (List ℕ))
    → with_front (front ++ byte ∷ []) read ≡ with_front front (option_map (λ bytes. byte ∷ bytes) read)
byte_first front byte None = refl
byte_first front byte (Some bytes) = ap (λ bs. Some bs) (simp append_assoc)

-- two hexadecimal digits are read
pub byte_read : (front rest : List ℕ) (byte : ℕ) → 2 ≤ length rest
    → Some byte ≡ byte_at (get_or rest 0 0) (get_or rest 1 0)
    → with_front (front ++ byte ∷ []) (hex_bytes (drop 2 rest)) ≡ with_front front (hex_bytes rest)
byte_read front [] byte two h = absurd (omega arith)
byte_read front (a ∷ []) byte two h = absurd (omega arith)
byte_read front (a ∷ b ∷ more) byte two h = byte_first front byte (hex_bytes more) ∙ rw (sym h) refl

-- what is left behind n of the bytes
pub all_behind : (n : ℕ) (rest : List ℕ) → take (length rest - n) (drop n rest) ≡ drop n rest
all_behind n rest = grind (arith, common_steps)
