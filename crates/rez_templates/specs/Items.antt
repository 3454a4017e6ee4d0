use Rattle.std.specs.Prelude.{ℕ, zero, suc, ◌+◌, ◌-◌, ◌*◌, ◌/◌, ◌%◌, ◌==◌, nat_le, nat_lt, Bool, true, false, not, ◌&&◌, bytes_eq}
use Rattle.std.specs.Prelude.{Option, Some, None, List, [], ◌∷◌, ◌++◌, length, take, drop, codes, decimal, if◌then◌else◌}
use Rattle.std.specs.List.{flat_map}
use Rattle.mac_words.specs.Digits.{upper_digit}
use Rattle.rez_types.specs.Options.{◌>>=◌, given}
use Rattle.rez_templates.specs.declared.item.CountFrom.{CountFrom}
use Rattle.rez_templates.specs.declared.item.CountFrom.TheVariants as from
use Rattle.rez_templates.specs.declared.item.ListEnd.{ListEnd}
use Rattle.rez_templates.specs.declared.item.ListEnd.TheVariants as ends

-- Templates as statements `type` in the language of Rez. Templates: ResEdit Reference, the chapter on templates. Statements: Macintosh
-- Programmer's Workshop: Building and Managing Programs in MPW, chapter Rez.

-- What an item of a template stands for: a field that is always stated alike; a string of so many bytes in hexadecimal; so many bytes
-- that have no meaning; the number of elements of the list after it, or one less; the beginning of a list that ends so; the end of a list.
pub data Item : Type 0 where
  Field : (text : List ℕ) → Item
  Hex : (bytes : ℕ) → Item
  Fill : (bytes : ℕ) → Item
  Count : (from : CountFrom) → Item
  Begin : (end : ListEnd) → Item
  End : Item

-- Decimal numbers, by the four characters that an item has.
abbrev pub decimal_item : List ℕ → Option Item
decimal_item code =
    if bytes_eq code (codes "DBYT") then Some (Field (codes "byte; "))
    else if bytes_eq code (codes "DWRD") then Some (Field (codes "integer; "))
    else if bytes_eq code (codes "DLNG") then Some (Field (codes "longint; "))
    else if bytes_eq code (codes "UBYT") then Some (Field (codes "unsigned byte; "))
    else if bytes_eq code (codes "UWRD") then Some (Field (codes "unsigned integer; "))
    else if bytes_eq code (codes "ULNG") then Some (Field (codes "unsigned longint; "))
    else None

-- Numbers in another form.
abbrev pub other_item : List ℕ → Option Item
other_item code =
    if bytes_eq code (codes "HBYT") then Some (Field (codes "hex byte; "))
    else if bytes_eq code (codes "HWRD") then Some (Field (codes "hex integer; "))
    else if bytes_eq code (codes "HLNG") then Some (Field (codes "hex longint; "))
    else if bytes_eq code (codes "BBIT") then Some (Field (codes "boolean; "))
    else if bytes_eq code (codes "BOOL") then Some (Field (codes "hex integer false, true = 256; "))
    else if bytes_eq code (codes "TNAM") then Some (Field (codes "literal longint; "))
    else None

-- Strings.
abbrev pub text_item : List ℕ → Option Item
text_item code =
    if bytes_eq code (codes "CHAR") then Some (Field (codes "char; "))
    else if bytes_eq code (codes "PSTR") then Some (Field (codes "pstring; "))
    else if bytes_eq code (codes "CSTR") then Some (Field (codes "cstring; "))
    else if bytes_eq code (codes "HEXD") then Some (Field (codes "hex string; "))
    else None

-- Coordinates, and the ID of a resource.
abbrev pub place_item : List ℕ → Option Item
place_item code =
    if bytes_eq code (codes "RECT") then Some (Field (codes "rect; "))
    else if bytes_eq code (codes "PNT ") then Some (Field (codes "point; "))
    else if bytes_eq code (codes "RSID") then Some (Field (codes "integer; "))
    else None

-- Alignments, and bytes that have no meaning.
abbrev pub gap_item : List ℕ → Option Item
gap_item code =
    if bytes_eq code (codes "AWRD") then Some (Field (codes "align word; "))
    else if bytes_eq code (codes "ALNG") then Some (Field (codes "align long; "))
    else if bytes_eq code (codes "FBYT") then Some (Fill 1)
    else if bytes_eq code (codes "FWRD") then Some (Fill 2)
    else if bytes_eq code (codes "FLNG") then Some (Fill 4)
    else None

-- Lists and their counts.
abbrev pub list_item : List ℕ → Option Item
list_item code =
    if bytes_eq code (codes "OCNT") then Some (Count from.One)
    else if bytes_eq code (codes "ZCNT") then Some (Count from.Zero)
    else if bytes_eq code (codes "LSTB") then Some (Begin ends.Resource)
    else if bytes_eq code (codes "LSTZ") then Some (Begin ends.Zero)
    else if bytes_eq code (codes "LSTC") then Some (Begin ends.Counted)
    else if bytes_eq code (codes "LSTE") then Some End
    else None

-- The value of a hexadecimal digit in upper case.
abbrev pub digit_value : ℕ → Option ℕ
digit_value c =
    if nat_le 48 c && nat_le c 57 then Some (c - 48)
    else if nat_le 65 c && nat_le c 70 then Some (c - 55)
    else None

-- `H` and three hexadecimal digits: so many bytes.
abbrev pub hex_of : ℕ → ℕ → ℕ → Option Item
hex_of high middle low =
    digit_value high
    >>= λ h. digit_value middle >>= λ m. digit_value low >>= λ l. Some (Hex (256 * h + 16 * m + l))

abbrev pub hex_item : List ℕ → Option Item
hex_item (c ∷ high ∷ middle ∷ low ∷ []) = if c == 72 then hex_of high middle low else None
hex_item code = None

-- What four characters stand for.
infixr 10 ◌or◌
abbrev pub ◌or◌ : {A : Type 0} → Option A → Option A → Option A
(Some x) or y = Some x
None or y = y

unfoldable pub item_of : List ℕ → Option Item
item_of code =
    decimal_item code or other_item code or text_item code or place_item code or gap_item code or list_item code or hex_item code

-- A declaration as far as it is drafted: the text of its fields; the bytes without a meaning that follow them; how the lists end that are
-- open, the innermost last; how many counts there are; and whether the last of them waits for its list.
pub record Drafted : Type 0 where
  pub text : List ℕ
  pub fill : ℕ
  pub lists : List ListEnd
  pub counts : ℕ
  pub waits : Bool

-- Nothing so far.
abbrev pub no_draft : Drafted
no_draft = record { text = []; fill = 0; lists = []; counts = 0; waits = false }

-- Bytes that have no meaning, one after another, are one fill.
unfoldable pub fill_text : ℕ → List ℕ
fill_text bytes = if bytes == 0 then [] else codes "fill byte[" ++ decimal bytes ++ codes "]; "

-- Text after what is drafted.
abbrev pub with_text : List ℕ → Drafted → Drafted
with_text text d = record d { text = d.text ++ fill_text d.fill ++ text; fill = 0 }

-- The name of the list whose count is the n-th.
abbrev pub list_name : ℕ → List ℕ
list_name n = codes "List" ++ decimal n

-- A count, and what stands before its list.
abbrev pub count_end : CountFrom → List ℕ
count_end from.One = codes "); "
count_end from.Zero = codes ") - 1; "

unfoldable pub count_text : CountFrom → ℕ → List ℕ
count_text f n = codes "integer = $$CountOf(" ++ list_name n ++ count_end f

unfoldable pub begin_text : ListEnd → ℕ → List ℕ
begin_text ends.Counted n = codes "array " ++ list_name n ++ codes " { "
begin_text e n = codes "array { "

-- What stands after a list.
unfoldable pub end_text : ListEnd → List ℕ
end_text ends.Zero = codes "}; byte = 0; "
end_text e = codes "}; "

-- A field.
abbrev pub with_field : List ℕ → Drafted → Option Drafted
with_field text d = Some (with_text text d)

-- A string in hexadecimal.
unfoldable pub hex_text : ℕ → List ℕ
hex_text bytes = codes "hex string[" ++ decimal bytes ++ codes "]; "

-- Bytes that have no meaning: a fill has at most 256.
unfoldable pub with_fill : ℕ → Drafted → Option Drafted
with_fill bytes d = given (nat_le (d.fill + bytes) 256) (record d { fill = d.fill + bytes })

-- A count: it is that of the next list. A declaration has at most 512 fields, so there are at most as many counts.
unfoldable pub with_count : CountFrom → Drafted → Option Drafted
with_count f d = given (not d.waits && nat_lt d.counts 512)
    (record (with_text (count_text f (d.counts + 1)) d) { counts = d.counts + 1; waits = true })

-- The beginning of a list: where a count waits, one that it counts, and no such list elsewhere.
abbrev pub may_begin : ListEnd → Bool → Bool
may_begin ends.Counted waits = waits
may_begin e waits = not waits

unfoldable pub with_list : ListEnd → Drafted → Option Drafted
with_list e d = given (may_begin e d.waits)
    (record (with_text (begin_text e d.counts) d) { lists = d.lists ++ e ∷ []; waits = false })

-- The last of some, and those before it.
abbrev pub split_last : {A : Type 0} → List A → Option (List A × A)
split_last [] = None
split_last (x ∷ xs) = elim (split_last xs) [ None ↦ Some ([], x) | Some p ↦ Some (x ∷ p.0, p.1) ]

-- The end of the innermost list.
abbrev pub ended : Drafted → List ListEnd × ListEnd → Option Drafted
ended d p = Some (record (with_text (end_text p.1) d) { lists = p.0 })

unfoldable pub with_end : Drafted → Option Drafted
with_end d = given (not d.waits) d >>= λ e. split_last e.lists >>= λ p. ended e p

-- One item more.
abbrev pub with_item : Item → Drafted → Option Drafted
with_item (Field text) d = with_field text d
with_item (Hex bytes) d = with_field (hex_text bytes) d
with_item (Fill bytes) d = with_fill bytes d
with_item (Count f) d = with_count f d
with_item (Begin e) d = with_list e d
with_item End d = with_end d

-- What four characters stand for, added.
abbrev pub with_known : Option Item → Drafted → Option Drafted
with_known None d = None
with_known (Some item) d = with_item item d

abbrev pub with_code : List ℕ → Drafted → Option Drafted
with_code code d = with_known (item_of code) d

-- The four characters after a label of so many bytes, and what stands after them.
abbrev pub code_in : ℕ → List ℕ → Option (List ℕ × List ℕ)
code_in size bytes =
    given (nat_le 4 (length (drop size bytes))) (take 4 (drop size bytes), drop 4 (drop size bytes))

-- The next item, and the bytes after it: a label, which begins with its length, and four characters. The label says nothing.
unfoldable pub with_next : List ℕ → Drafted → Option (Drafted × List ℕ)
with_next [] d = None
with_next (size ∷ bytes) d = code_in size bytes >>= λ (code, rest). with_code code d >>= λ e. Some (e, rest)

-- At most n items.
unfoldable pub with_items : ℕ → List ℕ → Drafted → Option Drafted
with_items n [] d = Some d
with_items zero (size ∷ bytes) d = None
with_items (suc n) (size ∷ bytes) d = with_next (size ∷ bytes) d >>= λ (e, rest). with_items n rest e

-- No list and no count is open.
abbrev pub is_whole : Drafted → Bool
is_whole d = not d.waits && length d.lists == 0

-- The text of the fields, if they are whole.
unfoldable pub fields_text : Drafted → Option (List ℕ)
fields_text d = given (is_whole d) (d.text ++ fill_text d.fill)

-- A byte between quotes.
abbrev pub escaped : ℕ → List ℕ
escaped b = 92 ∷ 48 ∷ 120 ∷ upper_digit (b / 16) ∷ upper_digit (b % 16) ∷ []

-- The statement `type` that declares the type of these four bytes by fields.
unfoldable pub statement : List ℕ → List ℕ → List ℕ
statement ty fields = codes "type '" ++ flat_map escaped ty ++ codes "' { " ++ fields ++ codes "};"

-- The statement that says what a template says of the type of these four bytes, if one can. Declarations have at most 512 fields, so
-- what can be declared has at most 1,024 items.
unfoldable pub template_statement : List ℕ → List ℕ → Option (List ℕ)
template_statement ty datum =
    with_items 1024 datum no_draft >>= λ d. fields_text d >>= λ fields. Some (statement ty fields)
