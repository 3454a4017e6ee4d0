use Rattle.zone_script_laws.proofs.Cited.{◌≡◌, ℕ, ◌+◌, ◌/◌, ◌%◌, ◌^◌, ◌<◌, ◌≤◌, suc, Bool, true, false, ◌==◌, ◌&&◌, ◌||◌, nat_le, nat_lt}
use Rattle.zone_script_laws.proofs.Cited.{List, refl, ◌∙◌, ap, cond, Some, None, arith, length, decimal, list_all, option_map}
use Rattle.zone_script_laws.proofs.Cited.{is_ascii_digit, is_ascii_alphabetic, and_from, le-leb, ltb-true, ltb-false, nat_tests}
use Rattle.zone_script_laws.proofs.Cited.{digits_decimal, digits_value-decimal, decimal_nonempty, length-decimal-le, Letters, Number, Label}
use Rattle.zone_script_laws.proofs.Cited.{Size, is_label_byte, begins_label, number_from, number_within, value, numerals, hex_digit}
use Rattle.zone_script_laws.proofs.Cited.{digit_at, hex_text, named}
use Rattle.zone_script_laws.proofs.Letters.{all-weaker}

-- Names and decimal numbers, as a script of a zone writes them, are the values of arguments.

-- hexadecimal digits are letters
hex-letter : (d : ℕ) → d < 16 → is_label_byte (hex_digit d) ≡ true
hex-letter d small = cases (nat_lt d 10) refl
  where
    cases : (t : Bool) → nat_lt d 10 ≡ t → is_label_byte (cond t (48 + d) (55 + d)) ≡ true
    cases true e = let l = ltb-true d 10 e in grind (arith, nat_tests)
    cases false e = let l = ltb-false d 10 e in grind (arith, nat_tests)

digit-letter : (n unit : ℕ) → is_label_byte (digit_at n unit) ≡ true
unfolding digit_at
digit-letter n unit = hex-letter (n / unit % 16) (omega arith)

pub hex-letters : (n : ℕ) → list_all is_label_byte (hex_text n) ≡ true
unfolding hex_text
hex-letters n =
    and_from _ _ (digit-letter n 0x10000000) (and_from _ _ (digit-letter n 0x1000000) (and_from _ _ (digit-letter n 0x100000)
    (and_from _ _ (digit-letter n 0x10000) (and_from _ _ (digit-letter n 0x1000) (and_from _ _ (digit-letter n 0x100)
    (and_from _ _ (digit-letter n 0x10) (and_from _ _ (digit-letter n 1) refl)))))))

pub hex-long : (n : ℕ) → length (hex_text n) ≡ 8
unfolding hex_text
hex-long n = refl

-- a name: a letter, and a hexadecimal number
pub record IsName (name : List ℕ) : Type 0 where
  pub begins : begins_label name ≡ true
  pub letters : list_all is_label_byte name ≡ true
  pub long : length name ≡ 9

pub named-so : (l address : ℕ) → is_ascii_alphabetic l ≡ true → is_label_byte l ≡ true → IsName (named l address)
named-so l address first letter = record {
  begins = ap (λ t. t || (l == 95)) first;
  letters = and_from (is_label_byte l) (list_all is_label_byte (hex_text address)) letter (hex-letters address);
  long = ap suc (hex-long address);
}

pub name-value : (name : List ℕ) → IsName name → value Label name ≡ Some (Letters name)
name-value name h =
    ap (λ t. option_map Letters (cond (t && list_all is_label_byte name && nat_le (length name) 63) (Some name) None)) h.begins
    ∙ ap (λ t. option_map Letters (cond (t && nat_le (length name) 63) (Some name) None)) h.letters
    ∙ ap (λ n. option_map Letters (cond (nat_le n 63) (Some name) None)) h.long

-- a number in decimal
digit-is-letter : (c : ℕ) → is_ascii_digit c ≡ true → is_label_byte c ≡ true
digit-is-letter c is = ap (λ t. ((t || nat_le 65 c && nat_le c 90) || nat_le 97 c && nat_le c 122) || c == 95) is

pub decimal-letters : (n : ℕ) → n < 2 ^ 64 → list_all is_label_byte (decimal n) ≡ true
decimal-letters n small = all-weaker is_ascii_digit is_label_byte digit-is-letter (decimal n) (digits_decimal numerals n small)

pub decimal-some : (n : ℕ) → n ≤ 2147483647 → 0 < length (decimal n)
decimal-some n small = decimal_nonempty n (omega arith)

pub decimal-long : (n : ℕ) → n ≤ 2147483647 → length (decimal n) ≤ 10
decimal-long n small = length-decimal-le 10 n (omega arith) (omega arith) (omega arith)

pub number-value : (n : ℕ) → n ≤ 2147483647 → value Size (decimal n) ≡ Some (Number n)
number-value n small =
    let low : n < 2 ^ 64 = omega arith in
    let some = decimal_nonempty n low in
    ap (λ t. option_map Number (cond (t && nat_le (length (decimal n)) 10) (number_within 2147483647 0 (decimal n)) None))
    (le-leb 1 (length (decimal n)) (omega arith))
    ∙ ap (λ t. option_map Number (cond t (number_within 2147483647 0 (decimal n)) None))
    (le-leb (length (decimal n)) 10 (decimal-long n small))
    ∙ ap (λ t. option_map Number (cond (t && nat_le (number_from 0 (decimal n)) 2147483647) (Some (number_from 0 (decimal n))) None))
    (digits_decimal numerals n low)
    ∙ ap (λ k. option_map Number (cond (nat_le k 2147483647) (Some k) None)) (digits_value-decimal numerals n low)
    ∙ ap (λ t. option_map Number (cond t (Some n) None)) (le-leb n 2147483647 small)
