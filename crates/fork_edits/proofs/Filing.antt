-- The names of the files of resources are read again.
use Rattle.fork_edits.proofs.Cited.{◌≡◌, ℕ, ◌/◌, ◌%◌, ◌<◌, ◌≤◌, ◌^◌, Bool, true, false, cond, List, [], ◌∷◌, ◌++◌, length, decimal, take}
use Rattle.fork_edits.proofs.Cited.{Option, Some, None, refl, arith, zero, suc, FitsSigned, ℤ, pos, negsuc, ◌==◌, not, bytes_eq, IfSome}
use Rattle.fork_edits.proofs.Cited.{signed_decimal, w16, AllByRecursion, flat_map, list_all, and_right, nat_tests, length-append}
use Rattle.fork_edits.proofs.Cited.{each-append, big_bytes, upper_digit, is_plain_byte, safe_byte, name_part, place_text, file_name}
use Rattle.fork_edits.proofs.Cited.{is_capital, is_small, letter, fixed_byte, case_after, fixed_bytes, fixed_name, is_file_byte, file_read}
use Rattle.fork_edits.proofs.Cited.{Row, hex_byte}
use Rattle.fork_edits.proofs.Naming.{IsDigits, digits-decimal, digits-place}
use Rattle.fork_edits.proofs.Quoting.{IsByte}
use Rattle.fork_edits.proofs.Wording.{IsGraph}

-- a byte that may stand in the name of a file
abbrev pub IsFiled : ℕ → Type 0
IsFiled b = is_file_byte b ≡ true

filed_within : (b : ℕ) → 48 ≤ b → b ≤ 126 → IsFiled b
filed_within b low high = grind (arith, nat_tests)

filed_digits : (ds : List ℕ) → IsDigits ds → AllByRecursion IsFiled ds
filed_digits [] h = tt
filed_digits (d ∷ ds) h = (filed_within d h.0 (omega (arith, h.1)), filed_digits ds h.2)

filed_digit : (n : ℕ) → n < 16 → IsFiled (upper_digit n)
filed_digit n h = grind (arith, nat_tests)

filed_hex : (b : ℕ) → b < 256 → AllByRecursion IsFiled (95 ∷ hex_byte b)
filed_hex b small = (refl, (filed_digit (b / 16) (omega arith), (filed_digit (b % 16) (omega arith), tt)))

filed_plain : (b : ℕ) → is_plain_byte b ≡ true → IsFiled b
filed_plain b h = grind (arith, nat_tests)

filed_safe : (b : ℕ) → b < 256 → AllByRecursion IsFiled (safe_byte b)
filed_safe b small = by_test (is_plain_byte b) refl
  where
    by_test : (t : Bool) → is_plain_byte b ≡ t → AllByRecursion IsFiled (cond t (b ∷ []) (95 ∷ hex_byte b))
    by_test true h = (filed_plain b h, tt)
    by_test false h = filed_hex b small

filed_letter : (t : Bool) (b : ℕ) → IsFiled b → AllByRecursion IsFiled (letter t b)
filed_letter true b h = (refl, (h, tt))
filed_letter false b h = (h, tt)

filed_capital : (b : ℕ) → is_capital b ≡ true → IsFiled b
filed_capital b h = grind (arith, nat_tests)

filed_small : (b : ℕ) → is_small b ≡ true → IsFiled b
filed_small b h = grind (arith, nat_tests)

filed_fixed_byte : (small : Bool) (b : ℕ) → b < 256 → AllByRecursion IsFiled (fixed_byte small b)
filed_fixed_byte small b fits = by_capital (is_capital b) refl
  where
    by_small : (t : Bool) → is_small b ≡ t → AllByRecursion IsFiled (cond t (letter (not small) b) (safe_byte b))
    by_small true h = filed_letter (not small) b (filed_small b h)
    by_small false h = filed_safe b fits

    by_capital : (t : Bool) → is_capital b ≡ t
        → AllByRecursion IsFiled (cond t (letter small b) (cond (is_small b) (letter (not small) b) (safe_byte b)))
    by_capital true h = filed_letter small b (filed_capital b h)
    by_capital false h = by_small (is_small b) refl

filed_fixed_bytes : (small : Bool) (bytes : List ℕ) → AllByRecursion IsByte bytes → AllByRecursion IsFiled (fixed_bytes small bytes)
filed_fixed_bytes small [] h = tt
filed_fixed_bytes small (b ∷ bytes) h =
    each-append IsFiled (fixed_byte small b) (fixed_bytes (case_after small b) bytes) (filed_fixed_byte small b h.0)
    (filed_fixed_bytes (case_after small b) bytes h.1)

filed_safe_bytes : (bytes : List ℕ) → AllByRecursion IsByte bytes → AllByRecursion IsFiled (flat_map safe_byte bytes)
filed_safe_bytes [] h = tt
filed_safe_bytes (b ∷ bytes) h =
    each-append IsFiled (safe_byte b) (flat_map safe_byte bytes) (filed_safe b h.0) (filed_safe_bytes bytes h.1)

filed_signed : (z : ℤ) → FitsSigned w16 z → AllByRecursion IsFiled (signed_decimal z)
filed_signed (pos n) fits =
    let within : n < 2 ^ 15 = fits.sfits in
    filed_digits (decimal n) (digits-decimal n (omega arith))
filed_signed (negsuc n) fits =
    let within : n < 2 ^ 15 = fits.sfits in
    (refl, filed_digits (decimal (suc n)) (digits-decimal (suc n) (omega arith)))

filed_end : AllByRecursion IsFiled (46 ∷ 98 ∷ 105 ∷ 110 ∷ [])
filed_end = (refl, (refl, (refl, (refl, tt))))

pub four_bytes : (kind : ℕ) → AllByRecursion IsByte (big_bytes 4 kind)
four_bytes kind = (omega arith, (omega arith, (omega arith, (omega arith, tt))))

pub first_bytes : (n : ℕ) (bytes : List ℕ) → AllByRecursion IsByte bytes → AllByRecursion IsByte (take n bytes)
first_bytes zero bytes h = tt
first_bytes (suc n) [] h = tt
first_bytes (suc n) (b ∷ bytes) h = (h.0, first_bytes n bytes h.1)

-- a name of at least four bytes is the name of a file
longer : (xs ys : List ℕ) → length ys < length xs → bytes_eq xs ys ≡ false
longer [] ys h = absurd (omega arith)
longer (x ∷ xs) [] h = refl
longer (x ∷ xs) (y ∷ ys) h = and_right (x == y) (bytes_eq xs ys) (longer xs ys (omega arith))

all_filed : (bytes : List ℕ) → AllByRecursion IsFiled bytes → list_all is_file_byte bytes ≡ true
all_filed [] h = refl
all_filed (b ∷ bytes) h = rw h.0 (all_filed bytes h.1)

file_graph : (bytes : List ℕ) → AllByRecursion IsFiled bytes → AllByRecursion IsGraph bytes
file_graph [] h = tt
file_graph (b ∷ bytes) h = (bounds b h.0, file_graph bytes h.1)
  where
    bounds : (b : ℕ) → IsFiled b → IsGraph b
    bounds b e =
        let low : 33 ≤ b = grind (arith, nat_tests) in
        let high : b ≤ 126 = grind (arith, nat_tests) in
        (low, high)

-- the name of a file as a list has it
pub record IsFile (text : List ℕ) : Type 0 where
  pub read : file_read text ≡ Some text
  pub graph : AllByRecursion IsGraph text

is_file : (text : List ℕ) → AllByRecursion IsFiled text → 4 ≤ length text → IsFile text
is_file text h long =
    let some : (length text == 0) ≡ false = grind (arith, nat_tests) in
    record {
      read = rw (some, longer text (46 ∷ []) (omega arith), longer text (46 ∷ 46 ∷ []) (omega arith), all_filed text h) refl;
      graph = file_graph text h;
    }

ended : (text : List ℕ) → AllByRecursion IsFiled text → IsFile (text ++ 46 ∷ 98 ∷ 105 ∷ 110 ∷ [])
ended text h =
    is_file (text ++ 46 ∷ 98 ∷ 105 ∷ 110 ∷ []) (each-append IsFiled text (46 ∷ 98 ∷ 105 ∷ 110 ∷ []) h filed_end)
    (omega (arith, length-append text (46 ∷ 98 ∷ 105 ∷ 110 ∷ [])))

with_dash : (text rest : List ℕ) → AllByRecursion IsFiled text → AllByRecursion IsFiled rest
    → AllByRecursion IsFiled ((text ++ 45 ∷ []) ++ rest)
with_dash text rest h k = each-append IsFiled (text ++ 45 ∷ []) rest (each-append IsFiled text (45 ∷ []) h (refl, tt)) k

pub fixed_file : (kind : ℕ) (id : ℤ) → FitsSigned w16 id → IsFile (fixed_name kind id)
fixed_file kind id fits =
    ended (fixed_bytes false (big_bytes 4 kind) ++ 45 ∷ [] ++ signed_decimal id)
    (with_dash (fixed_bytes false (big_bytes 4 kind)) (signed_decimal id) (filed_fixed_bytes false (big_bytes 4 kind) (four_bytes kind))
    (filed_signed id fits))

filed_name : (name : Option (List ℕ)) → IfSome name (AllByRecursion IsByte) → AllByRecursion IsFiled (name_part name)
filed_name None h = tt
filed_name (Some name) h = (refl, filed_safe_bytes (take 48 name) (first_bytes 48 name h))

pub numbered_file : (n : ℕ) (x : Row) → n < 2 ^ 64 → FitsSigned w16 x.resource.id
    → IfSome x.resource.name (AllByRecursion IsByte) → IsFile (file_name n x)
numbered_file n x small fits bytes =
    ended (place_text n ++ 45 ∷ [] ++ (flat_map safe_byte (big_bytes 4 x.kind) ++ 45 ∷ [] ++ signed_decimal x.resource.id
    ++ name_part x.resource.name)) (with_dash (place_text n) (flat_map safe_byte (big_bytes 4 x.kind) ++ 45 ∷ []
    ++ signed_decimal x.resource.id ++ name_part x.resource.name) (filed_digits (place_text n) (digits-place n small))
    (each-append IsFiled (flat_map safe_byte (big_bytes 4 x.kind) ++ 45 ∷ [] ++ signed_decimal x.resource.id) (name_part x.resource.name)
    (with_dash (flat_map safe_byte (big_bytes 4 x.kind)) (signed_decimal x.resource.id)
    (filed_safe_bytes (big_bytes 4 x.kind) (four_bytes x.kind)) (filed_signed x.resource.id fits)) (filed_name x.resource.name bytes)))
