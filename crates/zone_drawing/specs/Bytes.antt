use Rattle.std.specs.Prelude.{ℕ, ◌+◌, ◌/◌, ◌%◌, nat_le, Bool, ◌&&◌, Option, Some, None, List, [], ◌∷◌, ◌++◌}
use Rattle.std.specs.Prelude.{length, map, codes, if◌then◌else◌}
use Rattle.std.specs.List.{flat_map}
use Rattle.mac_words.specs.Digits.{upper_digit}
use Rattle.zone_drawing.specs.declared.style.Style.TheVariants as style
use Rattle.zone_drawing.specs.Digits.{hex_digits}
use Rattle.zone_drawing.specs.Text.{left}
use Rattle.zone_drawing.specs.Totals.{after_text}

-- The bytes of a block, 16 in a row.

-- A byte as two hexadecimal digits after a blank; and as a character, `.` where it has no printable one in ASCII.
abbrev pub byte_digits : ℕ → List ℕ
byte_digits b = 32 ∷ upper_digit (b / 16) ∷ upper_digit (b % 16) ∷ []

abbrev pub byte_character : ℕ → ℕ
byte_character b = if nat_le 32 b && nat_le b 126 then b else 46

-- A row: the distance of its first byte from the first byte of the block's content, its bytes in digits, and as characters.
-- There is no line of no bytes.
abbrev pub row_line : ℕ → List ℕ → List ℕ
row_line from row = hex_digits from ++ codes " " ++ left (style.Columns 0) 48 (flat_map byte_digits row) ++ codes "  "
    ++ map byte_character row ++ codes "\n"

abbrev pub row_text : ℕ → List ℕ → List ℕ
row_text from [] = []
row_text from (b ∷ row) = row_line from (b ∷ row)

-- A row has 16 bytes at most.
abbrev pub is_full : List ℕ → Bool
is_full row = nat_le 16 (length row)

-- The rows of bytes, of which the first row has some already.
abbrev pub rows : List ℕ → List ℕ → List (List ℕ)
rows row [] = row ∷ []
rows row (b ∷ bytes) = if is_full row then row ∷ rows (b ∷ []) bytes else rows (row ++ b ∷ []) bytes

-- The bytes of rows.
abbrev pub bytes_in : List (List ℕ) → List ℕ
bytes_in [] = []
bytes_in (row ∷ more) = row ++ bytes_in more

-- Rows one below the other, the first of which begins at this distance.
abbrev pub rows_text : ℕ → List (List ℕ) → List ℕ
rows_text from [] = []
rows_text from (row ∷ more) = row_text from row ++ rows_text (from + length row) more

abbrev pub bytes_text : List ℕ → List ℕ
bytes_text bytes = rows_text 0 (rows [] bytes)

-- The bytes of the block of what a name stands for, or words where that has no block.
abbrev pub content_text : List ℕ → Option (List ℕ) → List ℕ
content_text name None = name ++ codes " has no block\n"
content_text name (Some bytes) = bytes_text bytes

-- These, and the line that says after which step they are shown.
abbrev pub block_text : List ℕ → Option (List ℕ) → List ℕ → List ℕ
block_text name bytes step = content_text name bytes ++ codes "\n" ++ after_text (style.Columns 0) step
