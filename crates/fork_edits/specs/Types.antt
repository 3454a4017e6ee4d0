use Rattle.std.specs.Prelude.{ℕ, ◌+◌, ◌-◌, ◌*◌, Bool, ◌&&◌, ◌==◌, nat_le, Option, Some, None, List, [], ◌∷◌, ◌++◌}
use Rattle.std.specs.Prelude.{if◌then◌else◌, codes, length, take, drop, slice_index}

-- Types as people write them. A type has four bytes; a blank is a byte like any other.
-- More Macintosh Toolbox, chapter 1, "Resource Types".

-- The number lies between two others, or is one of them.
abbrev pub is_between : ℕ → ℕ → ℕ → Bool
is_between low high n = nat_le low n && nat_le n high

-- The value of a hexadecimal digit, in either case.
abbrev pub digit_value : ℕ → Option ℕ
digit_value c =
    if is_between 48 57 c then Some (c - 48)
    else if is_between 65 70 c then Some (c - 65 + 10)
    else if is_between 97 102 c then Some (c - 97 + 10)
    else None

-- The value of two digits of which each has a value.
abbrev pub joined_digits : Option ℕ → Option ℕ → Option ℕ
joined_digits (Some high) (Some low) = Some (high * 16 + low)
joined_digits (Some high) None = None
joined_digits None low = None

-- The value of two hexadecimal digits.
abbrev pub byte_value : ℕ → ℕ → Option ℕ
byte_value high low = joined_digits (digit_value high) (digit_value low)

-- A byte before others, where all of them are there.
abbrev pub before : Option ℕ → Option (List ℕ) → Option (List ℕ)
before (Some b) (Some bytes) = Some (b ∷ bytes)
before (Some b) None = None
before None bytes = None

-- The bytes that pairs of hexadecimal digits spell, to the end of the text.
abbrev pub bytes_spelled : List ℕ → Option (List ℕ)
bytes_spelled [] = Some []
bytes_spelled (c ∷ []) = None
bytes_spelled (c ∷ d ∷ rest) = before (byte_value c d) (bytes_spelled rest)

-- A text of one to four bytes stands for itself, with blanks after it up to four bytes.
abbrev pub is_plain : List ℕ → Bool
is_plain text = is_between 1 4 (length text)

abbrev pub padded : List ℕ → List ℕ
padded text = text ++ drop (length text) (codes "    ")

-- Four bytes in quotes.
abbrev pub is_quoted : List ℕ → Bool
is_quoted text = length text == 6 && slice_index text 0 == 39 && slice_index text 5 == 39

-- A dollar sign and eight digits.
abbrev pub is_spelled : List ℕ → Bool
is_spelled text = length text == 9 && slice_index text 0 == 36

-- The four bytes of the type that a text stands for: 'STR ' in quotes, STR with no quotes, or $53545220.
abbrev pub type_read : List ℕ → Option (List ℕ)
type_read text =
    if is_plain text then Some (padded text)
    else if is_quoted text then Some (take 4 (drop 1 text))
    else if is_spelled text then bytes_spelled (drop 1 text)
    else None
