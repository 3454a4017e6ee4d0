use Rattle.std.specs.Prelude.{ℕ, zero, suc, ◌+◌, ◌==◌, nat_lt, Bool, true, false}
use Rattle.std.specs.Prelude.{Option, Some, None, List, [], ◌∷◌, ◌++◌, length, slice_get, codes, decimal, if◌then◌else◌}
use Rattle.byteorder.specs.Endian.{big_bytes}
use Rattle.rez_types.specs.declared.declaration.Form.{Form}
use Rattle.rez_types.specs.declared.declaration.Form.TheVariants as form
use Rattle.rez_types.specs.declared.declaration.Boundary.{Boundary}
use Rattle.rez_types.specs.declared.declaration.Boundary.TheVariants as boundary
use Rattle.rez_types.specs.declared.declaration.TextEnd.{TextEnd}
use Rattle.rez_types.specs.declared.declaration.TextEnd.TheVariants as end
use Rattle.rez_types.specs.Fields.{NamedNumber, NamedText, Part, Integer, Constant, Count, FillBits, Case}
use Rattle.rez_types.specs.Fields.{ArrayEnd, Fixed, Counted}
use Rattle.rez_types.specs.Fields.{Field, Run, Fill, Align, Text, Point, Rect, Array, Switch, Declaration}
use Rattle.rez_printing.specs.Pieces.{in_quotes, hex_number, signed_number}

-- A declaration as a statement `type`, on one line.

-- So many things in brackets.
unfoldable pub in_brackets : ℕ → List ℕ
in_brackets n = 91 ∷ [] ++ decimal n ++ 93 ∷ []

-- The word for an integer of so many bits.
abbrev pub width_word : ℕ → List ℕ
width_word n =
    if n == 8 then codes "byte"
    else if n == 16 then codes "integer"
    else if n == 32 then codes "longint"
    else codes "bitstring" ++ in_brackets n

-- An integer of a form and so many bits.
abbrev pub integer_word : Form → ℕ → List ℕ
integer_word form.Signed width = width_word width
integer_word form.Unsigned width = codes "unsigned " ++ width_word width
integer_word form.Hex width = codes "hex " ++ width_word width
integer_word form.Binary width = codes "binary " ++ width_word width
integer_word form.Literal width = codes "literal " ++ width_word width
integer_word form.Boolean width = codes "boolean"

-- The number of a named constant.
abbrev pub constant_text : Form → ℕ → ℕ → List ℕ
constant_text form.Signed width n = signed_number width n
constant_text form.Hex width n = hex_number n
constant_text f width n = decimal n

-- What stands before the n-th of several named constants, from 0 on.
abbrev pub before_constant : ℕ → List ℕ
before_constant n = if n == 0 then 32 ∷ [] else codes ", "

-- A named constant by the text of what it stands for.
unfoldable pub constant_named : ℕ → List ℕ → List ℕ → List ℕ
constant_named n name value = before_constant n ++ name ++ codes " = " ++ value

-- The named numbers of an integer, from the n-th on.
abbrev pub numbers_from : ℕ → Form → ℕ → List NamedNumber → List ℕ
numbers_from n f width [] = []
numbers_from n f width (c ∷ constants) =
    constant_named n c.name (constant_text f width c.pattern) ++ numbers_from (n + 1) f width constants

-- The named strings of a string, from the n-th on.
abbrev pub texts_from : ℕ → List NamedText → List ℕ
texts_from n [] = []
texts_from n (c ∷ constants) = constant_named n c.name (in_quotes 34 c.text) ++ texts_from (n + 1) constants

-- The name of an array that the count at this place of its block ends.
abbrev pub name_counted : ℕ → Field → Option (List ℕ)
name_counted place (Array name (Counted k) block) = if k == place then Some name else None
name_counted place f = None

-- The name of the first such array among fields.
abbrev pub array_counted : ℕ → List Field → List ℕ
array_counted place [] = []
array_counted place (f ∷ fields) = elim (name_counted place f) [ Some name ↦ name | None ↦ array_counted place fields ]

-- A count of so many bits of the elements of an array.
abbrev pub minus_one : Bool → List ℕ
minus_one true = codes " - 1"
minus_one false = []

unfoldable pub count_head : ℕ → List ℕ
count_head width = width_word width ++ codes " = $$CountOf("

unfoldable pub count_text : ℕ → List ℕ → Bool → List ℕ
count_text width name is_less_one = count_head width ++ name ++ 41 ∷ [] ++ minus_one is_less_one

-- A constant of so many bits.
abbrev pub key_word : Bool → List ℕ
key_word true = codes "key "
key_word false = []

unfoldable pub fixed_text : ℕ → ℕ → Bool → List ℕ
fixed_text width pattern is_key = key_word is_key ++ width_word width ++ codes " = " ++ hex_number pattern

-- A part of a run, where so many counts of its block stand before it, and the block has these fields.
abbrev pub part_text : List Field → ℕ → Part → List ℕ
part_text all counts (Integer width form constants) = integer_word form width ++ numbers_from 0 form width constants
part_text all counts (Constant width pattern is_key) = fixed_text width pattern is_key
part_text all counts (Count width is_less_one) = count_text width (array_counted counts all) is_less_one
part_text all counts (FillBits width) = codes "fill bit" ++ in_brackets width

-- How many counts stand before what follows a part. No declaration has more than 512 fields, so no more are counted.
abbrev pub counts_after : Part → ℕ → ℕ
counts_after (Count width is_less_one) counts = if nat_lt counts 512 then counts + 1 else counts
counts_after p counts = counts

abbrev pub counts_past : List Part → ℕ → ℕ
counts_past [] counts = counts
counts_past (p ∷ parts) counts = counts_past parts (counts_after p counts)

-- The parts of a run in turn.
abbrev pub parts_text : List Field → ℕ → List Part → List ℕ
parts_text all counts [] = []
parts_text all counts (p ∷ parts) =
    part_text all counts p ++ codes "; " ++ parts_text all (counts_after p counts) parts

-- A fill of bytes.
abbrev pub fill_word : ℕ → List ℕ
fill_word n = codes "fill byte" ++ (if n == 1 then [] else in_brackets n)

-- An alignment.
abbrev pub align_word : Boundary → List ℕ
align_word boundary.Word = codes "align word"
align_word boundary.Long = codes "align long"

-- A string.
abbrev pub hex_word : Bool → List ℕ
hex_word true = codes "hex "
hex_word false = []

abbrev pub text_word : TextEnd → List ℕ
text_word end.Pascal = codes "pstring"
text_word end.C = codes "cstring"
text_word end.Char = codes "char"
text_word (end.Fixed n) = codes "string" ++ in_brackets n
text_word end.Resource = codes "string"

unfoldable pub string_word : TextEnd → Bool → List NamedText → List ℕ
string_word e is_hex constants = hex_word is_hex ++ text_word e ++ texts_from 0 constants

-- What stands before the fields of an array: its name and its length, where it has them.
abbrev pub name_word : List ℕ → List ℕ
name_word name = if length name == 0 then [] else name ++ 32 ∷ []

abbrev pub length_word : ArrayEnd → List ℕ
length_word (Fixed n) = in_brackets n ++ 32 ∷ []
length_word e = []

unfoldable pub array_word : List ℕ → ArrayEnd → List ℕ
array_word name e = codes "array " ++ name_word name ++ length_word e ++ codes "{ "

-- The cases of a switch. `inner` prints a block.
unfoldable pub case_word : List ℕ → List ℕ
case_word name = codes "case " ++ name ++ codes ": "

abbrev pub cases_text : (ℕ → List ℕ) → List Case → List ℕ
cases_text inner [] = []
cases_text inner (c ∷ cases) = case_word c.name ++ inner c.block ++ cases_text inner cases

-- An array and a switch.
unfoldable pub array_text : (ℕ → List ℕ) → List ℕ → ArrayEnd → ℕ → List ℕ
array_text inner name e block = array_word name e ++ inner block ++ codes "}"

unfoldable pub switch_text : (ℕ → List ℕ) → List Case → List ℕ
switch_text inner cases = codes "switch { " ++ cases_text inner cases ++ codes "}"

-- A field that is no run. `inner` prints a block.
abbrev pub whole_text : (ℕ → List ℕ) → Field → List ℕ
whole_text inner (Run bytes parts) = []
whole_text inner (Fill n) = fill_word n
whole_text inner (Align to) = align_word to
whole_text inner (Text e is_hex constants) = string_word e is_hex constants
whole_text inner Point = codes "point"
whole_text inner Rect = codes "rect"
whole_text inner (Array name e block) = array_text inner name e block
whole_text inner (Switch key cases) = switch_text inner cases

-- A field, where so many counts of its block stand before it, and the block has these fields.
abbrev pub field_text : (ℕ → List ℕ) → List Field → ℕ → Field → List ℕ
field_text inner all counts (Run bytes parts) = parts_text all counts parts
field_text inner all counts f = whole_text inner f ++ codes "; "

abbrev pub counts_after_field : Field → ℕ → ℕ
counts_after_field (Run bytes parts) counts = counts_past parts counts
counts_after_field f counts = counts

-- Fields in turn.
abbrev pub fields_from : (ℕ → List ℕ) → List Field → ℕ → List Field → List ℕ
fields_from inner all counts [] = []
fields_from inner all counts (f ∷ fields) =
    field_text inner all counts f ++ fields_from inner all (counts_after_field f counts) fields

-- The fields of a block, where there is one.
abbrev pub fields_text : (ℕ → List ℕ) → Option (List Field) → List ℕ
fields_text inner None = []
fields_text inner (Some fields) = fields_from inner fields 0 fields

-- A block, in which blocks stand at most `depth - 1` deep.
abbrev pub block_text : ℕ → List (List Field) → ℕ → List ℕ
block_text zero blocks block = []
block_text (suc depth) blocks block = fields_text (block_text depth blocks) (slice_get blocks block)

-- A type by the number of its four characters.
unfoldable pub type_word : ℕ → List ℕ
type_word ty = codes "type " ++ in_quotes 39 (big_bytes 4 ty) ++ codes " { "

-- The declaration of a type, with blocks at most 8 deep, up to its closing brace.
unfoldable pub open_text : ℕ → Declaration → List ℕ
open_text ty d = type_word ty ++ fields_from (block_text 8 d.blocks) d.fields 0 d.fields

-- The declaration of a type.
unfoldable pub declared_text : ℕ → Declaration → List ℕ
declared_text ty d = open_text ty d ++ codes "};"

-- The same with one field more, at the end: a hexadecimal string up to the end of the resource.
unfoldable pub tailed_text : ℕ → Declaration → List ℕ
tailed_text ty d = open_text ty d ++ codes "hex string; };"
