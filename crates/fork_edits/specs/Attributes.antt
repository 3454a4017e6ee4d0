use Rattle.std.specs.Prelude.{ℕ, ◌+◌, ◌-◌, ◌*◌, Bool, ◌&&◌, ◌==◌, nat_le, Option, Some, None, List, [], ◌∷◌, bit_or}
use Rattle.std.specs.Prelude.{if◌then◌else◌, codes, drop, length, slice_index, bytes_eq, is_some, unwrap_or}
use Rattle.std.specs.List.{slice_split}
use Rattle.fork_edits.specs.Types.{is_between, byte_value}

-- Attributes as people write them.
-- More Macintosh Toolbox, chapter 1, "Resource Attributes"; the words are those of the Rez language.

-- The number that decimal digits stand for, if it is at most 255: the digits follow those of the number n.
abbrev pub number_from : ℕ → List ℕ → Option ℕ
number_from n [] = Some n
number_from n (c ∷ rest) =
    if is_between 48 57 c && nat_le (10 * n + (c - 48)) 255 then number_from (10 * n + (c - 48)) rest else None

-- The number that a text of one or more decimal digits stands for, if it is at most 255.
abbrev pub digits_read : List ℕ → Option ℕ
digits_read text = if length text == 0 then None else number_from 0 text

-- The number that decimal digits stand for, before which a plus may stand. Zeros may stand before other digits.
abbrev pub number_read : List ℕ → Option ℕ
number_read text =
    if nat_le 1 (length text) && slice_index text 0 == 43 then digits_read (drop 1 text) else digits_read text

-- The attribute that a word stands for.
abbrev pub word_value : List ℕ → Option ℕ
word_value word =
    if bytes_eq word (codes "sysheap") then Some 64
    else if bytes_eq word (codes "purgeable") then Some 32
    else if bytes_eq word (codes "locked") then Some 16
    else if bytes_eq word (codes "protected") then Some 8
    else if bytes_eq word (codes "preload") then Some 4
    else None

-- The attributes that words stand for, beside those there are.
abbrev pub words_value : ℕ → List (List ℕ) → Option ℕ
words_value attrs [] = Some attrs
words_value attrs (word ∷ words) = if is_some (word_value word)
    then words_value (bit_or attrs (unwrap_or (word_value word) 0)) words else None

-- A comma.
abbrev pub is_comma : ℕ → Bool
is_comma b = b == 44

-- The attributes that a text stands for: $40, a number from 0 to 255 in decimal, or words with commas between them.
abbrev pub attrs_read : List ℕ → Option ℕ
attrs_read text =
    if length text == 3 && slice_index text 0 == 36 then byte_value (slice_index text 1) (slice_index text 2)
    else if is_some (number_read text) then number_read text
    else words_value 0 (slice_split is_comma text)
