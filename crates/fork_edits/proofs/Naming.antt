use Rattle.fork_edits.proofs.Cited.{◌≡◌, ℕ, ◌+◌, ◌-◌, ◌*◌, ◌/◌, ◌%◌, ◌<◌, ◌≤◌, ◌^◌, Bool, true, false, cond, List, [], ◌∷◌, ◌++◌, length}
use Rattle.fork_edits.proofs.Cited.{lit≤, replicate, decimal, codes, refl, sym, ◌∙◌, ap, arith, suc, zero, append_assoc, ◌==◌}
use Rattle.fork_edits.proofs.Cited.{to_ascii_lowercase, str_to_ascii_lowercase, nat_tests, decimal_by_steps, Row, place_text, resource_part}
use Rattle.fork_edits.proofs.Cited.{file_name}

-- The numbers in the names of files tell the names apart.

-- the number that digits stand for, behind another number
abbrev value : ℕ → List ℕ → ℕ
value n [] = n
value n (d ∷ ds) = value (n * 10 + (d - 48)) ds

-- a digit more
value-push : (n d : ℕ) (ds : List ℕ) → value n (ds ++ d ∷ []) ≡ value n ds * 10 + (d - 48)
value-push n d [] = refl
value-push n d (e ∷ ds) = value-push (n * 10 + (e - 48)) d ds

-- zeros before the digits say nothing
value-zeros : (k : ℕ) (ds : List ℕ) → value 0 (replicate k 48 ++ ds) ≡ value 0 ds
value-zeros zero ds = refl
value-zeros (suc k) ds = value-zeros k ds

-- the digits of a number stand for it
value-decimal : (n : ℕ) → n < 2 ^ 64 → value 0 (decimal n) ≡ n
value-decimal n small = decimal_by_steps (λ m ds. value 0 ds ≡ m) one more n small
  where
    one : (m : ℕ) → m < 10 → value 0 ((48 + m) ∷ []) ≡ m
    one m h = omega arith

    more : (m : ℕ) (ds : List ℕ) → 10 ≤ m → value 0 ds ≡ m / 10 → value 0 (ds ++ (48 + m % 10) ∷ []) ≡ m
    more m ds h e = value-push 0 (48 + m % 10) ds ∙ omega arith

value-place : (n : ℕ) → n < 2 ^ 64 → value 0 (place_text n) ≡ n
value-place n small = value-zeros (4 - length (decimal n)) (decimal n) ∙ value-decimal n small

-- the bytes before the first dash
abbrev front : List ℕ → List ℕ
front [] = []
front (c ∷ rest) = cond (c == 45) [] (c ∷ front rest)

-- bytes of which each is a decimal digit
abbrev pub IsDigits : List ℕ → Type 0
IsDigits [] = Unit {0}
IsDigits (d ∷ ds) = (48 ≤ d) × (d ≤ 57) × IsDigits ds

digits-append : (xs ys : List ℕ) → IsDigits xs → IsDigits ys → IsDigits (xs ++ ys)
digits-append [] ys h k = k
digits-append (x ∷ xs) ys h k = (h.0, h.1, digits-append xs ys h.2 k)

digits-zeros : (k : ℕ) → IsDigits (replicate k 48)
digits-zeros zero = tt
digits-zeros (suc k) = (lit≤ tt, lit≤ tt, digits-zeros k)

pub digits-decimal : (n : ℕ) → n < 2 ^ 64 → IsDigits (decimal n)
digits-decimal n small = decimal_by_steps (λ m ds. IsDigits ds) one more n small
  where
    one : (m : ℕ) → m < 10 → IsDigits ((48 + m) ∷ [])
    one m h = (omega arith, omega arith, tt)

    more : (m : ℕ) (ds : List ℕ) → 10 ≤ m → IsDigits ds → IsDigits (ds ++ (48 + m % 10) ∷ [])
    more m ds h e = digits-append ds ((48 + m % 10) ∷ []) e (omega arith, omega arith, tt)

pub digits-place : (n : ℕ) → n < 2 ^ 64 → IsDigits (place_text n)
digits-place n small = digits-append (replicate (4 - length (decimal n)) 48) (decimal n)
    (digits-zeros (4 - length (decimal n))) (digits-decimal n small)

-- a digit is no letter and no dash
pub digit-lower : (d : ℕ) → d ≤ 57 → to_ascii_lowercase d ≡ d
digit-lower d h = grind (arith, nat_tests)

digit-dash : (d : ℕ) → 48 ≤ d → (d == 45) ≡ false
digit-dash d h = grind (arith, nat_tests)

-- digits stand before the first dash, in either case of what follows
front-digits : (ds rest : List ℕ) → IsDigits ds → front (str_to_ascii_lowercase (ds ++ 45 ∷ rest)) ≡ ds
front-digits [] rest h = refl
front-digits (d ∷ ds) rest h =
    ap (λ (c : ℕ). cond (c == 45) [] (c ∷ front (str_to_ascii_lowercase (ds ++ 45 ∷ rest)))) (digit-lower d h.1)
    ∙ step (d == 45) (digit-dash d h.0) (front-digits ds rest h.2)
  where
    step : (t : Bool) → t ≡ false → front (str_to_ascii_lowercase (ds ++ 45 ∷ rest)) ≡ ds
        → cond t [] (d ∷ front (str_to_ascii_lowercase (ds ++ 45 ∷ rest))) ≡ d ∷ ds
    step true e all = cc
    step false e all = ap (λ (l : List ℕ). d ∷ l) all

-- the name of a file up to its first dash
name-split : (n : ℕ) (x : Row) → file_name n x ≡ place_text n ++ 45 ∷ (resource_part x ++ codes ".bin")
name-split n x = append_assoc (place_text n ++ 45 ∷ []) (resource_part x) (codes ".bin")
    ∙ append_assoc (place_text n) (45 ∷ []) (resource_part x ++ codes ".bin")

front-name : (n : ℕ) (x : Row) → n < 2 ^ 64 → front (str_to_ascii_lowercase (file_name n x)) ≡ place_text n
front-name n x small = ap (λ (l : List ℕ). front (str_to_ascii_lowercase l)) (name-split n x)
    ∙ front-digits (place_text n) (resource_part x ++ codes ".bin") (digits-place n small)

-- names that are the same in either case have the same number
pub names_apart : (m n : ℕ) (x y : Row) → m < 2 ^ 64 → n < 2 ^ 64
    → str_to_ascii_lowercase (file_name m x) ≡ str_to_ascii_lowercase (file_name n y) → m ≡ n
names_apart m n x y low high e =
    sym (value-place m low) ∙ ap (value 0) (sym (front-name m x low) ∙ ap front e ∙ front-name n y high)
    ∙ value-place n high
