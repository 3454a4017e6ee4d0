use Rattle.std.specs.Prelude.{ℕ, ◌-◌, ◌==◌, ◌&&◌, Bool, true, false, not, nat_le, Option, Some, None, List, [], ◌∷◌, ◌++◌}
use Rattle.std.specs.Prelude.{length, replicate, max, codes, decimal, if◌then◌else◌}
use Rattle.std.specs.List.{flat_map, list_all}
use Rattle.std.specs.Fmt.{signed_decimal}
use Rattle.byteorder.specs.Endian.{big_bytes}
use Rattle.script_text.specs.Transcript.{hex}
use Rattle.zone_drawing.specs.declared.digits.Digits.{Digits}
use Rattle.zone_drawing.specs.declared.line.Owner.{Owner}
use Rattle.zone_drawing.specs.declared.line.Shape.{Shape}
use Rattle.zone_drawing.specs.declared.line.Shape.TheVariants as shape
use Rattle.zone_drawing.specs.declared.style.Style.{Style}
use Rattle.zone_drawing.specs.declared.style.Style.TheVariants as style
use Rattle.zone_drawing.specs.Digits.{size_text}
use Rattle.zone_drawing.specs.Line.{Line}

-- How the blocks of a zone are written: in columns for people, or for other programs with a tab between fields.

-- What stands between two fields.
abbrev pub between : Style → List ℕ
between style.Tabs = codes "\t"
between (style.Columns names) = codes " "

-- A field with blanks after it, and with blanks before it, so that columns of this many bytes line up.
abbrev pub left : Style → ℕ → List ℕ → List ℕ
left style.Tabs width field = field
left (style.Columns names) width field = field ++ replicate (width - length field) 32

abbrev pub right : Style → ℕ → List ℕ → List ℕ
right style.Tabs width field = field
right (style.Columns names) width field = replicate (width - length field) 32 ++ field

-- The word that says of a line for other programs what it is.
abbrev pub opened : Style → List ℕ → List ℕ
opened style.Tabs word = word ++ codes "\t"
opened (style.Columns names) word = []

-- The width of the column of names.
abbrev pub name_width : Style → ℕ
name_width style.Tabs = 0
name_width (style.Columns names) = names

-- What a block is.
abbrev pub shape_text : Shape → List ℕ
shape_text shape.Free = codes "free"
shape_text shape.Nonrelocatable = codes "nonrelocatable"
shape_text shape.Masters = codes "master pointers"
shape_text (shape.Relocatable flags) = codes "relocatable"

-- The logical size, where a block has a content of its own.
abbrev pub logical_text : Digits → Shape → ℕ → List ℕ
logical_text d shape.Free bytes = codes "-"
logical_text d shape.Nonrelocatable bytes = size_text d bytes
logical_text d shape.Masters bytes = codes "-"
logical_text d (shape.Relocatable flags) bytes = size_text d bytes

-- Whether a block is locked, and whether it is purgeable.
abbrev pub is_locked : Shape → Bool
is_locked shape.Free = false
is_locked shape.Nonrelocatable = false
is_locked shape.Masters = false
is_locked (shape.Relocatable flags) = flags.locked

abbrev pub is_purgeable : Shape → Bool
is_purgeable shape.Free = false
is_purgeable shape.Nonrelocatable = false
is_purgeable shape.Masters = false
is_purgeable (shape.Relocatable flags) = flags.purgeable

-- A word where something holds, else `-`.
abbrev pub marked : Bool → List ℕ → List ℕ
marked true word = word
marked false word = codes "-"

-- A name, or `-` where there is none.
abbrev pub name_text : Option (List ℕ) → List ℕ
name_text None = codes "-"
name_text (Some name) = name

-- A type: its four bytes between quotes where each is a printable character of ASCII and none is a quote, else `$` and
-- hexadecimal digits.
abbrev pub is_plain : ℕ → Bool
is_plain b = nat_le 32 b && nat_le b 126 && not (b == 39)

abbrev pub type_text : List ℕ → List ℕ
type_text bytes = if list_all is_plain bytes then codes "'" ++ bytes ++ codes "'" else codes "$" ++ hex bytes

-- The type and the ID of a resource, and the number of its file; `-` where there is none.
abbrev pub type_field : Option Owner → List ℕ
type_field None = codes "-"
type_field (Some o) = type_text (big_bytes 4 o.kind)

abbrev pub id_field : Option Owner → List ℕ
id_field None = codes "-"
id_field (Some o) = signed_decimal o.id

abbrev pub file_field : Option Owner → List ℕ
file_field None = codes "-"
file_field (Some o) = decimal o.file

-- The fields of a block: where it lies and what it is; what is known of it; and the resource that it holds.
abbrev pub place_fields : Digits → Style → Line → List ℕ
place_fields d s l = right s 9 (size_text d l.place) ++ between s ++ right s 9 (size_text d l.size) ++ between s
    ++ left s 15 (shape_text l.shape) ++ between s ++ right s 9 (logical_text d l.shape l.bytes)

abbrev pub state_fields : Style → Line → List ℕ
state_fields s l = left s (name_width s) (name_text l.tag.name) ++ between s
    ++ left s 6 (marked (is_locked l.shape) (codes "locked")) ++ between s
    ++ left s 9 (marked (is_purgeable l.shape) (codes "purgeable"))

abbrev pub owner_fields : Style → Option Owner → List ℕ
owner_fields s o = left s 9 (type_field o) ++ between s ++ right s 6 (id_field o) ++ between s
    ++ right s 4 (file_field o)

-- The line of a block, and those of blocks.
abbrev pub line_text : Digits → Style → Line → List ℕ
line_text d s l = opened s (codes "block") ++ place_fields d s l ++ between s ++ state_fields s l ++ between s
    ++ owner_fields s l.tag.owner ++ codes "\n"

abbrev pub lines_text : Digits → Style → List Line → List ℕ
lines_text d s lines = flat_map (line_text d s) lines

-- The line above columns: what stands before the title of the column of names, and after it.
unfoldable pub head_before : List ℕ
head_before = codes "   offset      size what              logical "

unfoldable pub head_after : List ℕ
head_after = codes " locked purgeable type          ID file\n"

abbrev pub head_text : Style → List ℕ
head_text style.Tabs = []
head_text (style.Columns names) = head_before ++ left (style.Columns names) names (codes "name") ++ head_after

-- The greatest length of the names of these blocks, and the width of a column that has the title `name` as well.
abbrev pub longest : List Line → ℕ
longest [] = 0
longest (l ∷ lines) = max (length (name_text l.tag.name)) (longest lines)

abbrev pub widest : List Line → ℕ
widest lines = max 4 (longest lines)
