use Rattle.job_tasks.proofs.Cited.{◌≡◌, ◌<◌, ◌≤◌, ◌^◌, ℕ, true, List, [], ◌∷◌, length, Option, None, Result, Ok, Err, refl, rules, arith}
use Rattle.job_tasks.proofs.Cited.{list_all, is_ascii_digit, ParsesUnsigned, parse_digits, number_from, greatest_memory, numerals}
use Rattle.job_tasks.proofs.Cited.{within_limits, partition_size}

-- Texts of digits, as they are parsed.

-- a number that is no size
outside : (n : ℕ) → (512 ≤ n → n ≤ greatest_memory → ⊥) → None ≡ within_limits n
outside n never = search (rules, arith)

-- a text that writes no number of 32 bits
unread : (text : List ℕ) → ¬ ((0 < length text) × (number_from 0 text < 2 ^ 32))
    → None ≡ within_limits (number_from 0 text)
unread [] never = refl
unread (c ∷ text) never = outside (number_from 0 (c ∷ text)) (λ low high. never (omega arith, omega arith))

-- the size of a number that was parsed
abbrev pub size_of : {E : Type 0} → Result ℕ E → Option ℕ
size_of (Ok n) = within_limits n
size_of (Err e) = None

-- a text of digits gives the size that it writes
pub size_parsed : (E : Type 0) (text : List ℕ) (r : Result ℕ E) → ParsesUnsigned 32 10 text r
    → list_all is_ascii_digit text ≡ true → size_of r ≡ partition_size text
size_parsed E text (Ok n) parsed digits =
    let is_it : n ≡ number_from 0 text = (parse_digits numerals {E = E} 32 text (Ok n) parsed digits).1 in
    rw (digits, is_it) refl
size_parsed E text (Err e) parsed digits =
    let never : ¬ ((0 < length text) × (number_from 0 text < 2 ^ 32))
    = parse_digits numerals {E = E} 32 text (Err e) parsed digits in
    rw digits (unread text never)

pub size_read : (E : Type 0) (text : List ℕ) (n : ℕ) → ParsesUnsigned {E = E} 32 10 text (Ok n)
    → list_all is_ascii_digit text ≡ true → within_limits n ≡ partition_size text
size_read E text n parsed digits = size_parsed E text (Ok n) parsed digits

pub size_unread : (E : Type 0) (text : List ℕ) (e : E) → ParsesUnsigned 32 10 text (Err e)
    → list_all is_ascii_digit text ≡ true → None ≡ partition_size text
size_unread E text e parsed digits = size_parsed E text (Err e) parsed digits
