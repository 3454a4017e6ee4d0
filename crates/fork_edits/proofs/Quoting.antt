-- Types, bytes in hexadecimal digits, and names in quotes, are read again.
use Rattle.fork_edits.proofs.Cited.{◌≡◌, ℕ, ◌*◌, ◌/◌, ◌%◌, ◌<◌, ◌≤◌, Bool, true, false, cond, List, [], ◌∷◌, ◌++◌, length, Some, refl, sym}
use Rattle.fork_edits.proofs.Cited.{◌∙◌, ap, arith, suc, append_assoc, append-nil, subst, ◌==◌, ◌||◌, not, nat_le, AllByRecursion, flat_map}
use Rattle.fork_edits.proofs.Cited.{list_all, and_parts, and_right, leb-true, nat_tests, encode_ascii, each-append, upper_digit, Ascii}
use Rattle.fork_edits.proofs.Cited.{is_printable, character, Draft, type_length, entry_read, with_entry, line_read, quoted_from}
use Rattle.fork_edits.proofs.Cited.{quoted_read, hex_byte, is_clear, four_text, char_text, name_text, byte_value, bytes_spelled}
use Rattle.fork_edits.proofs.Cited.{digit_value, type_read}
use Rattle.fork_edits.specs.declared.quoted.Within.TheVariants as within
use Rattle.fork_edits.specs.Quoted.{short_name}
use Rattle.fork_edits.proofs.Wording.{IsPrint, IsGraph, printed, word_first}

abbrev pub IsByte : ℕ → Type 0
IsByte b = b < 256

-- a digit has its value
digit_back : (n : ℕ) → n < 16 → digit_value (upper_digit n) ≡ Some n
digit_back n h = grind (arith, nat_tests)

pub byte_back : (b : ℕ) → b < 256 → byte_value (upper_digit (b / 16)) (upper_digit (b % 16)) ≡ Some b
byte_back b h =
    rw (digit_back (b / 16) (omega arith), digit_back (b % 16) (omega arith)) (ap Some (omega arith))

digit_graph : (n : ℕ) → n < 16 → IsGraph (upper_digit n)
digit_graph n h = grind (arith, nat_tests)

-- bytes in digits
pub hex_back : (bytes : List ℕ) → AllByRecursion IsByte bytes → bytes_spelled (flat_map hex_byte bytes) ≡ Some bytes
hex_back [] h = refl
hex_back (b ∷ bytes) h = rw (byte_back b h.0, hex_back bytes h.1) refl

pub hex_graph : (bytes : List ℕ) → AllByRecursion IsByte bytes → AllByRecursion IsGraph (flat_map hex_byte bytes)
hex_graph [] h = tt
hex_graph (b ∷ bytes) h =
    let small = h.0 in
    (digit_graph (b / 16) (omega arith), (digit_graph (b % 16) (omega arith), hex_graph bytes h.1))

pub hex_length : (bytes : List ℕ) → length (flat_map hex_byte bytes) ≡ 2 * length bytes
hex_length [] = refl
hex_length (b ∷ bytes) = let more = hex_length bytes in omega arith

-- a printable character stands for itself
pub itself : (b : ℕ) → b ≤ 126 → character b ≡ b ∷ []
itself b h =
    let low : (nat_le (suc b) 128) ≡ true = grind (arith, nat_tests) in
    rw low (encode_ascii b (omega arith))

print_bounds : (b : ℕ) → is_printable b ≡ true → IsPrint b
print_bounds b h =
    let each = and_parts (nat_le 32 b) (nat_le b 126) h in
    (leb-true 32 b each.0, leb-true b 126 each.1)

-- printable bytes stand for themselves
clear_whole : (bytes : List ℕ) → list_all (is_clear Ascii) bytes ≡ true → flat_map character bytes ≡ bytes
clear_whole [] h = refl
clear_whole (b ∷ bytes) h =
    let each = and_parts (is_clear Ascii b) (list_all (is_clear Ascii) bytes) h in
    let clear = and_parts (is_printable b) (not (b == 39)) each.0 in
    let bounds = print_bounds b clear.0 in
    ap (λ l. l ++ flat_map character bytes) (itself b bounds.1) ∙ ap (λ l. b ∷ l) (clear_whole bytes each.1)

clear_print : (bytes : List ℕ) → list_all (is_clear Ascii) bytes ≡ true → AllByRecursion IsPrint bytes
clear_print [] h = tt
clear_print (b ∷ bytes) h =
    let each = and_parts (is_clear Ascii b) (list_all (is_clear Ascii) bytes) h in
    let clear = and_parts (is_printable b) (not (b == 39)) each.0 in
    (print_bounds b clear.0, clear_print bytes each.1)

-- the text of a type at the start of a line
pub record IsType (text four : List ℕ) : Type 0 where
  pub read : type_read text ≡ Some four
  pub long : (rest : List ℕ) → type_length (text ++ 32 ∷ rest) ≡ length text
  pub print : AllByRecursion IsPrint text
  pub taken : (rest : List ℕ) (d : Draft) → line_read (text ++ rest) d ≡ with_entry (entry_read (text ++ rest)) d

-- a line that begins with a quote or a dollar sign is that of a resource
pub no_zero : (n : ℕ) → (suc n == 0) ≡ false
no_zero n = grind (arith, nat_tests)

quote_taken : (rest : List ℕ) (d : Draft) → line_read (39 ∷ rest) d ≡ with_entry (entry_read (39 ∷ rest)) d
quote_taken rest d = rw (no_zero (length rest)) refl

dollar_taken : (rest : List ℕ) (d : Draft) → line_read (36 ∷ rest) d ≡ with_entry (entry_read (36 ∷ rest)) d
dollar_taken rest d = rw (no_zero (length rest)) refl

quote_long : (a b c d : ℕ) (rest : List ℕ) → type_length (39 ∷ a ∷ b ∷ c ∷ d ∷ 39 ∷ 32 ∷ rest) ≡ 6
quote_long a b c d rest =
    let some : nat_le 6 (length (39 ∷ a ∷ b ∷ c ∷ d ∷ 39 ∷ 32 ∷ rest)) ≡ true = grind (arith, nat_tests) in
    rw some refl

dollar_long : (bytes rest : List ℕ) → AllByRecursion IsGraph bytes → type_length ((36 ∷ bytes) ++ 32 ∷ rest) ≡ suc (length bytes)
dollar_long bytes rest h =
    rw (and_right (nat_le 6 (length (36 ∷ bytes ++ 32 ∷ rest))) (36 == 39) refl)
    (word_first (36 ∷ bytes) rest ((omega arith, omega arith), h))

pub four_is : (a b c d : ℕ) → AllByRecursion IsByte (a ∷ b ∷ c ∷ d ∷ [])
    → IsType (four_text Ascii (a ∷ b ∷ c ∷ d ∷ [])) (a ∷ b ∷ c ∷ d ∷ [])
four_is a b c d small = by_test (list_all (is_clear Ascii) four) refl
  where
    four : List ℕ
    four = a ∷ b ∷ c ∷ d ∷ []

    quoted : list_all (is_clear Ascii) four ≡ true → IsType (39 ∷ a ∷ b ∷ c ∷ d ∷ 39 ∷ []) four
    quoted h = record {
      read = refl;
      long = λ rest. quote_long a b c d rest;
      print = ((omega arith, omega arith), each-append IsPrint four (39 ∷ []) (clear_print four h) ((omega arith, omega arith), tt));
      taken = λ rest e. quote_taken (a ∷ b ∷ c ∷ d ∷ 39 ∷ rest) e;
    }

    by_test : (t : Bool) → list_all (is_clear Ascii) four ≡ t
        → IsType (cond t (39 ∷ (flat_map character four ++ 39 ∷ [])) (36 ∷ flat_map hex_byte four)) four
    by_test true h = subst (λ l. IsType (39 ∷ (l ++ 39 ∷ [])) four) (sym (clear_whole four h)) (quoted h)
    by_test false h = record {
      read = hex_back four small;
      long = λ rest. dollar_long (flat_map hex_byte four) rest (hex_graph four small);
      print = ((omega arith, omega arith), printed (flat_map hex_byte four) (hex_graph four small));
      taken = λ rest e. dollar_taken (flat_map hex_byte four ++ rest) e;
    }

-- a byte of a name
nils : (l : List ℕ) → (((l ++ []) ++ []) ++ []) ++ [] ≡ l
nils l = simp append-nil

char_back : (b : ℕ) (name rest : List ℕ) → b < 256
    → quoted_from within.Quotes name (char_text Ascii b ++ rest) ≡ quoted_from within.Quotes (name ++ b ∷ []) rest
char_back b name rest small = by_mark (b == 34 || b == 92) refl
  where
    plain : (b == 34) ≡ false → (b == 92) ≡ false
        → quoted_from within.Quotes name (b ∷ rest) ≡ quoted_from within.Quotes (name ++ b ∷ []) rest
    plain e f = rw (e, f) refl

    digits : quoted_from within.Quotes name (92 ∷ 48 ∷ 120 ∷ (hex_byte b ++ rest)) ≡ quoted_from within.Quotes (name ++ b ∷ []) rest
    digits = rw (byte_back b small) (ap (λ l. quoted_from within.Quotes (l ++ b ∷ []) rest) (nils name))

    by_print : (t : Bool) → is_printable b ≡ t → (b == 34) ≡ false → (b == 92) ≡ false
        → quoted_from within.Quotes name (cond t (character b) (92 ∷ 48 ∷ 120 ∷ hex_byte b) ++ rest)
        ≡ quoted_from within.Quotes (name ++ b ∷ []) rest
    by_print true h e f =
        ap (λ l. quoted_from within.Quotes name (l ++ rest)) (itself b (print_bounds b h).1) ∙ plain e f
    by_print false h e f = digits

    marked : (b == 34 || b == 92) ≡ true → quoted_from within.Quotes name (92 ∷ b ∷ rest) ≡ quoted_from within.Quotes (name ++ b ∷ []) rest
    marked h =
        let no : (b == 48) ≡ false = grind (arith, nat_tests) in
        rw (no, h) (ap (λ l. quoted_from within.Quotes (l ++ b ∷ []) rest) (append-nil name))

    by_mark : (t : Bool) → (b == 34 || b == 92) ≡ t
        → quoted_from within.Quotes name (cond t (92 ∷ b ∷ []) (cond (is_printable b) (character b) (92 ∷ 48 ∷ 120 ∷ hex_byte b)) ++ rest)
        ≡ quoted_from within.Quotes (name ++ b ∷ []) rest
    by_mark true h = marked h
    by_mark false h =
        let e : (b == 34) ≡ false = grind (arith, nat_tests) in
        let f : (b == 92) ≡ false = grind (arith, nat_tests) in
        by_print (is_printable b) refl e f

quoted_back : (text name : List ℕ) → AllByRecursion IsByte text
    → quoted_from within.Quotes name (flat_map (char_text Ascii) text ++ 34 ∷ []) ≡ Some (name ++ text)
quoted_back [] name h = refl
quoted_back (b ∷ text) name h =
    ap (quoted_from within.Quotes name) (append_assoc (char_text Ascii b) (flat_map (char_text Ascii) text) (34 ∷ []))
    ∙ char_back b name (flat_map (char_text Ascii) text ++ 34 ∷ []) h.0
    ∙ quoted_back text (name ++ b ∷ []) h.1 ∙ ap Some (append_assoc name (b ∷ []) text)

-- a name in quotes
pub name_back : (name : List ℕ) → AllByRecursion IsByte name → length name ≤ 255 → quoted_read (name_text Ascii (Some name)) ≡ Some name
name_back name h few =
    let short : nat_le (length name) 255 ≡ true = grind (arith, nat_tests) in
    ap short_name (quoted_back name [] h) ∙ rw short refl

char_print : (b : ℕ) → b < 256 → AllByRecursion IsPrint (char_text Ascii b)
char_print b small = by_mark (b == 34 || b == 92) refl
  where
    by_print : (t : Bool) → is_printable b ≡ t → AllByRecursion IsPrint (cond t (character b) (92 ∷ 48 ∷ 120 ∷ hex_byte b))
    by_print true h = let bounds = print_bounds b h in subst (AllByRecursion IsPrint) (sym (itself b bounds.1)) (bounds, tt)
    by_print false h = (
      (omega arith, omega arith),
      (
        (omega arith, omega arith),
        (
          (omega arith, omega arith),
          printed (hex_byte b) (digit_graph (b / 16) (omega arith), (digit_graph (b % 16) (omega arith), tt)),
        ),
      ),
    )

    by_mark : (t : Bool) → (b == 34 || b == 92) ≡ t
        → AllByRecursion IsPrint (cond t (92 ∷ b ∷ []) (cond (is_printable b) (character b) (92 ∷ 48 ∷ 120 ∷ hex_byte b)))
    by_mark true h =
        let low : 32 ≤ b = grind (arith, nat_tests) in
        let most : b ≤ 126 = grind (arith, nat_tests) in
        ((omega arith, omega arith), ((low, most), tt))
    by_mark false h = by_print (is_printable b) refl

chars_print : (name : List ℕ) → AllByRecursion IsByte name → AllByRecursion IsPrint (flat_map (char_text Ascii) name)
chars_print [] h = tt
chars_print (b ∷ name) h =
    each-append IsPrint (char_text Ascii b) (flat_map (char_text Ascii) name) (char_print b h.0) (chars_print name h.1)

pub name_print : (name : List ℕ) → AllByRecursion IsByte name → AllByRecursion IsPrint (name_text Ascii (Some name))
name_print name h = (
  (omega arith, omega arith),
  each-append IsPrint (flat_map (char_text Ascii) name) (34 ∷ []) (chars_print name h) ((omega arith, omega arith), tt),
)
