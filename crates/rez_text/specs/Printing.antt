use Rattle.std.specs.Prelude.{ℕ, ℤ, zero, suc, ◌+◌, ◌-◌, ◌*◌, ◌/◌, ◌%◌, ◌==◌, nat_le, nat_lt, Bool, not, ◌&&◌, ◌||◌}
use Rattle.std.specs.Prelude.{Option, Some, None, List, [], ◌∷◌, ◌++◌, length, take, drop, replicate, codes}
use Rattle.std.specs.Prelude.{bit_and, if◌then◌else◌}
use Rattle.std.specs.List.{flat_map, list_all}
use Rattle.std.specs.Fmt.{signed_decimal}
use Rattle.byteorder.specs.Endian.{big_bytes}
use Rattle.mac_words.specs.Digits.{upper_digit}
use Rattle.mac_roman.specs.declared.charset.Charset.{Charset}
use Rattle.mac_roman.specs.declared.charset.Charset.TheVariants as charset
use Rattle.mac_roman.specs.Charset.{prints, character}
use Rattle.fork_format.specs.Content.{Ref, Group, Content}
use Rattle.rez_text.specs.declared.lettering.Lettering.{Lettering}
use Rattle.rez_text.specs.declared.lettering.Lettering.TheVariants.{Plain, Roman}

-- The content of a resource fork as source of Rez, in the form that DeRez prints.

-- A byte in hexadecimal, in upper case.
abbrev pub byte_hex : ℕ → List ℕ
byte_hex b = upper_digit (b / 16) ∷ upper_digit (b % 16) ∷ []

-- A blank stands before each second byte of a line but the first: before its n-th byte, from 0 on.
abbrev pub gap : ℕ → List ℕ
gap n = if nat_lt 0 n && n % 2 == 0 then 32 ∷ [] else []

-- Bytes in hexadecimal, in groups of four digits; the first of them is the n-th of its line.
abbrev pub grouped : ℕ → List ℕ → List ℕ
grouped n [] = []
grouped n (b ∷ bytes) = gap n ++ byte_hex b ++ grouped (n + 1) bytes

-- A byte that is printable ASCII.
abbrev pub is_printable : ℕ → Bool
is_printable b = nat_le 32 b && nat_le b 126

-- A byte beside its hexadecimal digits, in the characters of a set, or as it is: `.` for each byte that is not printed as a character,
-- and for `*`, so that no comment ends early.
abbrev pub shown : Lettering → ℕ → List ℕ
shown (Plain set) b = if prints set b && not (b == 42) then character b else 46 ∷ []
shown Roman b = if prints charset.Utf8 b && not (b == 42) then b ∷ [] else 46 ∷ []

-- The blanks between the hexadecimal string of n bytes and the comment, which begins at the 54th place after the tab.
abbrev pub margin : ℕ → List ℕ
margin n = replicate (54 - (3 + 2 * n + (n - 1) / 2)) 32

-- Bytes as a hexadecimal string after a tab.
abbrev pub hex_column : List ℕ → List ℕ
hex_column bytes = 9 ∷ 36 ∷ 34 ∷ [] ++ grouped 0 bytes ++ 34 ∷ []

-- Bytes as the text of a comment, at the end of a line.
abbrev pub text_column : Lettering → List ℕ → List ℕ
text_column lettering bytes = codes "/* " ++ flat_map (shown lettering) bytes ++ codes " */\n"

-- A line of at most 16 bytes of data, and beside it the bytes as text.
abbrev pub data_line : Lettering → List ℕ → List ℕ
data_line lettering bytes = hex_column bytes ++ margin (length bytes) ++ text_column lettering bytes

-- n lines of 16 bytes each, the last of which may have fewer.
abbrev pub data_lines : Lettering → ℕ → List ℕ → List ℕ
data_lines lettering zero bytes = []
data_lines lettering (suc n) bytes = data_line lettering (take 16 bytes) ++ data_lines lettering n (drop 16 bytes)

-- How many lines bytes have.
abbrev pub line_count : List ℕ → ℕ
line_count bytes = (length bytes + 15) / 16

-- A byte that stands as it is between quotes: one that is printable ASCII, and in Mac OS Roman each from 0x80 on too.
abbrev pub stands : Lettering → ℕ → Bool
stands (Plain set) b = is_printable b
stands Roman b = is_printable b || nat_le 128 b

-- A byte between quotes: a quote of that kind and `\` after a `\`, and a byte that does not stand as it is as `\0x` and two hexadecimal
-- digits.
abbrev pub escaped : Lettering → ℕ → ℕ → List ℕ
escaped lettering quote b =
    if b == quote then 92 ∷ b ∷ []
    else if b == 92 then 92 ∷ 92 ∷ []
    else if stands lettering b then b ∷ []
    else 92 ∷ 48 ∷ 120 ∷ byte_hex b

-- Bytes between quotes.
abbrev pub in_quotes : Lettering → ℕ → List ℕ → List ℕ
in_quotes lettering quote bytes = quote ∷ [] ++ flat_map (escaped lettering quote) bytes ++ quote ∷ []

-- A name after a comma, where there is one. A name of no bytes differs from no name.
abbrev pub name_argument : Lettering → Option (List ℕ) → List ℕ
name_argument lettering None = []
name_argument lettering (Some name) = codes ", " ++ in_quotes lettering 34 name

-- The word of an attribute after a comma, where the attributes have its bit.
abbrev pub word_for : ℕ → List ℕ → ℕ → List ℕ
word_for bit word attrs = if bit_and attrs bit == 0 then [] else codes ", " ++ word

-- The attributes by their words: More Macintosh Toolbox, chapter 1, "Resource Attributes".
abbrev pub attribute_words : ℕ → List ℕ
attribute_words attrs =
    word_for 64 (codes "sysheap") attrs ++ word_for 32 (codes "purgeable") attrs ++ word_for 16 (codes "locked") attrs
    ++ word_for 8 (codes "protected") attrs ++ word_for 4 (codes "preload") attrs

-- Attributes by their words, or, where a bit is set that has no word (128, 2 or 1), as a number.
abbrev pub attributes_argument : ℕ → List ℕ
attributes_argument attrs =
    if bit_and attrs 131 == 0 then attribute_words attrs else codes ", $" ++ byte_hex attrs

-- A type between quotes, which is ASCII in either lettering.
unfoldable pub type_literal : ℕ → List ℕ
type_literal kind = in_quotes (Plain charset.Ascii) 39 (big_bytes 4 kind)

-- The type and the ID of a resource, and what stands before them.
abbrev pub opening : ℕ → ℤ → List ℕ
opening kind id = codes "data " ++ type_literal kind ++ codes " (" ++ signed_decimal id

-- What stands before the data of a resource: its type, ID, name and attributes.
unfoldable pub statement_head : Lettering → ℕ → Ref → List ℕ
statement_head lettering kind r =
    opening kind r.id ++ name_argument lettering r.name ++ attributes_argument r.attrs ++ codes ") {\n"

-- A resource as a statement, and an empty line.
abbrev pub statement : Lettering → ℕ → Ref → List ℕ
statement lettering kind r =
    statement_head lettering kind r ++ data_lines lettering (line_count r.datum) r.datum ++ codes "};\n\n"

-- The resources of a type.
abbrev pub group_statements : Lettering → Group → List ℕ
group_statements lettering g = flat_map (statement lettering g.kind) g.refs

-- The attributes of the map as a comment.
abbrev pub attributes_comment : ℕ → List ℕ
attributes_comment attrs =
    codes "/* map attributes $" ++ byte_hex (attrs / 256) ++ byte_hex (attrs % 256) ++ codes " */\n"

-- This comment where the attributes aren't 0.
abbrev pub attributes_remark : ℕ → List ℕ
attributes_remark attrs = if attrs == 0 then [] else attributes_comment attrs

-- A line of at most 16 bytes within a comment.
abbrev pub area_line : List ℕ → List ℕ
area_line bytes = 10 ∷ 9 ∷ [] ++ grouped 0 bytes

-- n such lines of 16 bytes each, the last of which may have fewer.
abbrev pub area_lines : ℕ → List ℕ → List ℕ
area_lines zero bytes = []
area_lines (suc n) bytes = area_line (take 16 bytes) ++ area_lines n (drop 16 bytes)

-- The 240 bytes after the header as a comment.
abbrev pub area_comment : List ℕ → List ℕ
area_comment area = codes "/* header bytes" ++ area_lines (line_count area) area ++ codes "\n*/\n"

-- This comment where the bytes aren't all 0.
abbrev pub area_remark : List ℕ → List ℕ
area_remark area = if list_all (λ b. b == 0) area then [] else area_comment area

-- A content as source.
abbrev pub lettered_source : Lettering → Content → List ℕ
lettered_source lettering c =
    attributes_remark c.attrs ++ area_remark c.area ++ flat_map (group_statements lettering) c.groups

-- The same in ASCII, but for the comments beside data, which are in the characters of a set.
unfoldable pub source_of : Charset → Content → List ℕ
source_of set c = lettered_source (Plain set) c
