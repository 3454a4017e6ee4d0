use Rattle.std.specs.Prelude.{ℕ, ◌+◌, ◌-◌, ◌*◌, ◌%◌, ◌==◌, nat_le, Bool, ◌&&◌, ◌||◌, bytes_eq, codes, length, take, drop}
use Rattle.std.specs.Prelude.{Option, Some, None, Result, Ok, Err, List, [], ◌∷◌, ◌++◌, if◌then◌else◌}
use Rattle.byteorder.specs.Endian.{big_number}
use Rattle.fork_format.specs.Content.{Content}
use Rattle.rez_text.specs.declared.fault.FaultKind.{FaultKind}
use Rattle.rez_text.specs.declared.fault.FaultKind.TheVariants as faults
use Rattle.rez_text.specs.declared.mode.Place.{Place}
use Rattle.rez_text.specs.declared.mode.Place.TheVariants as place
use Rattle.rez_text.specs.State.{State, come_to, with_content, ◌>>=◌}

-- Hexadecimal digits, and the comments that state what no statement of Rez does.

-- A blank, or the end of a line.
abbrev pub is_blank : ℕ → Bool
is_blank b = b == 32 || b == 9 || b == 10 || b == 13

-- The value of a hexadecimal digit, in upper or lower case.
abbrev pub hex_value : ℕ → Option ℕ
hex_value c =
    if nat_le 48 c && nat_le c 57 then Some (c - 48)
    else if nat_le 65 c && nat_le c 70 then Some (c - 55)
    else if nat_le 97 c && nat_le c 102 then Some (c - 87)
    else None

-- The byte of two digits.
abbrev pub byte_of : ℕ → ℕ → ℕ
byte_of high low = (16 * high + low) % 256

-- The bytes that hexadecimal digits write, two for each byte, with any blanks between digits: after the bytes so far,
-- and the high digit that waits for its low one.
abbrev pub hex_from : Option ℕ → List ℕ → List ℕ → Option (List ℕ)
hex_from None bytes [] = Some bytes
hex_from (Some high) bytes [] = None
hex_from None bytes (c ∷ rest) =
    if is_blank c then hex_from None bytes rest
    else elim (hex_value c) [ None ↦ None | Some high ↦ hex_from (Some high) bytes rest ]
hex_from (Some high) bytes (c ∷ rest) =
    if is_blank c then hex_from (Some high) bytes rest
    else elim (hex_value c) [ None ↦ None | Some low ↦ hex_from None (bytes ++ byte_of high low ∷ []) rest ]

-- So many bytes.
abbrev pub of_length : ℕ → Option (List ℕ) → Option (List ℕ)
of_length n None = None
of_length n (Some bytes) = if length bytes == n then Some bytes else None

-- A text without the blanks with which it begins.
abbrev pub after_blanks : List ℕ → List ℕ
after_blanks [] = []
after_blanks (b ∷ bytes) = if is_blank b then after_blanks bytes else b ∷ bytes

-- The text begins with the words.
abbrev pub begins : List ℕ → List ℕ → Bool
begins words text = nat_le (length words) (length text) && bytes_eq (take (length words) text) words

-- The n bytes that a text states in hexadecimal after the words with which it begins.
unfoldable pub bytes_after : List ℕ → ℕ → List ℕ → Option (List ℕ)
bytes_after words n text =
    if begins words text then of_length n (hex_from None [] (drop (length words) text)) else None

-- Two bytes as the attributes of the map.
abbrev pub with_map_attributes : Option (List ℕ) → Content → Result Content FaultKind
with_map_attributes None c = Err faults.NotMapAttributes
with_map_attributes (Some bytes) c = Ok (record { area = c.area; attrs = big_number 2 bytes; groups = c.groups })

-- 240 bytes as those after the header.
abbrev pub with_area : Option (List ℕ) → Content → Result Content FaultKind
with_area None c = Err faults.NotHeaderBytes
with_area (Some bytes) c = Ok (record { area = bytes; attrs = c.attrs; groups = c.groups })

-- What a comment states, from its first byte on that is no blank: if it begins with `map attributes`, then that and ` $` and
-- four hexadecimal digits are the attributes of the map; if it begins with `header bytes`, then that and 480 hexadecimal
-- digits are the 240 bytes after the header; and a comment that begins so and is not that is a fault. Blanks and ends of
-- lines may stand among the digits. Any other comment states nothing.
abbrev pub stated : List ℕ → Content → Result Content FaultKind
stated text c =
    if begins (codes "map attributes") text then with_map_attributes (bytes_after (codes "map attributes $") 2 text) c
    else if begins (codes "header bytes") text then with_area (bytes_after (codes "header bytes") 240 text) c
    else Ok c

-- The content once a comment between statements is read.
unfoldable pub remarked : List ℕ → Content → Result Content FaultKind
remarked text c = stated (after_blanks text) c

-- A comment. Only between statements it may state something.
abbrev pub comment_at : Place → State → Result State FaultKind
comment_at place.Outside s =
    remarked s.gathered s.said.content
    >>= λ c. Ok (come_to place.Outside (record s { said = with_content c s.said }))
comment_at p s = Ok (come_to p s)

unfoldable pub comment : State → Result State FaultKind
comment s = comment_at s.place s
