-- Worked texts, on the definitions alone.
use Rattle.rez_printing.proofs.Cited.{◌≡◌, ℕ, true, false, Some, None, List, [], ◌∷◌, ◌++◌, codes, refl, digits, NamedNumber, Integer}
use Rattle.rez_printing.proofs.Cited.{Constant, Count, FillBits, Fixed, Counted, Field, Run, Fill, Align, Text, Point, Rect, Array, Switch}
use Rattle.rez_printing.proofs.Cited.{Declaration, Value, Style, in_quotes, string_text, hex_text, points, row_text, picture_text}
use Rattle.rez_printing.proofs.Cited.{fill_comment, array_comment, element_comment, hex_number, binary_number, next_value, next_number}
use Rattle.rez_printing.proofs.Cited.{opened, closed, commented, filled, counted_at, shown_integer, shown_bits, passed_count, shown_fill}
use Rattle.rez_printing.proofs.Cited.{shown_text, shown_coordinates, shown_array, shown_switch, shown, in_brackets, constant_named}
use Rattle.rez_printing.proofs.Cited.{count_head, count_text, fixed_text, string_word, array_word, case_word, array_text, switch_text}
use Rattle.rez_printing.proofs.Cited.{type_word, open_text, declared_text, tailed_text}
use Rattle.rez_types.specs.declared.declaration.Form.TheVariants as form
use Rattle.rez_types.specs.declared.declaration.Boundary.TheVariants as boundary
use Rattle.rez_types.specs.declared.declaration.TextEnd.TheVariants as end
use Rattle.rez_types.specs.Values as value
use Rattle.rez_printing.specs.declared.style.Numbering.TheVariants as numbering
use Rattle.rez_printing.specs.declared.style.Letters.TheVariants as letter
use Rattle.rez_printing.specs.declared.style.Pictures.TheVariants as picture

-- without numbers and pictures, in ASCII
abbrev plain : Style
plain = record { numbering = numbering.None; letters = letter.Ascii; pictures = picture.None }

-- a declaration without blocks
abbrev of_fields : List Field → Declaration
of_fields fields = record { fields = fields; blocks = [] }

-- a string, with a CR in it and at its end
abbrev strings : Declaration
strings = of_fields (Text end.Pascal false [] ∷ [])

one_string : shown plain strings (value.Text (codes "Don't \"quit\"\n\tnow" ++ 13 ∷ 65 ∷ 13 ∷ []) ∷ [])
    ≡ Some (codes "\t\"Don't \\\"quit\\\"\\0x0A\\tnow\\n\"\n\t\t\"A\\n\"\n")
unfolding shown shown_text next_value opened string_text
one_string = refl

string_declared : declared_text 0x53545220 strings ≡ codes "type 'STR ' { pstring; };"
unfolding declared_text open_text type_word in_quotes string_word
string_declared = refl

string_tailed : tailed_text 0x53545220 strings ≡ codes "type 'STR ' { pstring; hex string; };"
unfolding tailed_text open_text type_word in_quotes string_word
string_tailed = refl

-- several strings, and none
abbrev list : Declaration
list = record {
  fields = Run 2 (Count 16 false ∷ []) ∷ Array (codes "StringArray") (Counted 0) 0 ∷ [];
  blocks = (Text end.Pascal false [] ∷ []) ∷ [];
}

two_strings : shown plain list
    (value.Count 2 ∷ value.Element ∷ value.Text (codes "Disk full") ∷ value.Element ∷ value.Text [] ∷ value.NoElement ∷ [])
    ≡ Some (codes "\t{\n\t\t\"Disk full\";\n\t\t\"\"\n\t}\n")
unfolding shown shown_array shown_text passed_count next_value opened closed string_text
two_strings = refl

-- the same with numbers, in Mac Roman
abbrev numbered_roman : Style
numbered_roman = record { numbering = numbering.Elements; letters = letter.Roman; pictures = picture.None }

two_numbered : shown numbered_roman list
    (value.Count 2 ∷ value.Element ∷ value.Text (codes "Caf" ++ 142 ∷ []) ∷ value.Element ∷ value.Text [] ∷ value.NoElement ∷ [])
    ≡ Some (codes "\t{\t/* array StringArray: 2 elements */\n\t\t/* [1] */\n\t\t\"Caf" ++ 142 ∷ codes "\";\n\t\t/* [2] */\n\t\t\"\"\n\t}\n")
unfolding shown shown_array shown_text passed_count next_value opened closed counted_at array_comment element_comment string_text digits
two_numbered = refl

no_strings : shown plain list (value.Count 0 ∷ value.NoElement ∷ []) ≡ Some (codes "\t{\n\t}\n")
unfolding shown shown_array passed_count next_value opened closed
no_strings = refl

list_declared : declared_text 0x53545223 list
    ≡ codes "type 'STR#' { integer = $$CountOf(StringArray); array StringArray { pstring; }; };"
unfolding declared_text open_text type_word in_quotes count_text count_head array_text array_word string_word
list_declared = refl

-- items of a dialog: a button and an icon
abbrev named : List ℕ → ℕ → NamedNumber
named name pattern = record { name = name; pattern = pattern }

abbrev enabled : List NamedNumber
enabled = named (codes "enabled") 0 ∷ named (codes "disabled") 1 ∷ []

abbrev items : Declaration
items = record {
  fields = Run 2 (Count 16 true ∷ []) ∷ Array (codes "DITLarray") (Counted 0) 2 ∷ [];
  blocks =
      (Run 1 (Integer 1 form.Boolean enabled ∷ Constant 7 4 true ∷ []) ∷ Text end.Pascal false [] ∷ []) ∷
      (Run 1 (Integer 1 form.Boolean enabled ∷ Constant 7 32 true ∷ []) ∷ Run 1 (Constant 8 2 false ∷ [])
      ∷ Run 2 (Integer 16 form.Signed [] ∷ []) ∷ []) ∷
      (
      Fill 4 ∷ Rect ∷
      Switch
      (record { before = 0; bytes = 1; below = 0; width = 7 })
      (record { name = codes "Button"; pattern = 4; block = 0 } ∷ record { name = codes "Icon"; pattern = 32; block = 1 } ∷ []) ∷
      Align boundary.Word ∷ []
      ) ∷ [];
}

two_items : shown plain items (
    value.Count 2 ∷ value.Element ∷ value.Filled (0 ∷ 0 ∷ 0 ∷ 0 ∷ []) ∷
    value.Number 10 ∷ value.Number 65526 ∷ value.Number 30 ∷ value.Number 80 ∷
    value.Case 0 ∷ value.Number 0 ∷ value.Text (codes "Hi") ∷ value.Filled (107 ∷ []) ∷
    value.Element ∷ value.Filled (0 ∷ 0 ∷ 0 ∷ 1 ∷ []) ∷
    value.Number 0 ∷ value.Number 0 ∷ value.Number 32 ∷ value.Number 32 ∷
    value.Case 1 ∷ value.Number 1 ∷ value.Number 128 ∷ value.Filled [] ∷ value.NoElement ∷ []
    )
    ≡ Some (codes
    "\t{\n\t\t{10, -10, 30, 80}, Button { enabled, \"Hi\" } /* fill $6B */;\n\t\t/* fill $00000001 */ {0, 0, 32, 32}, Icon { disabled, 128 }\n\t}\n")
unfolding shown shown_array shown_switch shown_coordinates shown_fill shown_integer shown_text passed_count next_number next_value opened
    closed digits string_text commented fill_comment filled
two_items = refl

items_declared : declared_text 0x4449544C items
    ≡ codes
    "type 'DITL' { integer = $$CountOf(DITLarray) - 1; array DITLarray { fill byte[4]; rect; switch { case Button: boolean enabled = 0, disabled = 1; key bitstring[7] = 0x4; pstring; case Icon: boolean enabled = 0, disabled = 1; key bitstring[7] = 0x20; byte = 0x2; integer; }; align word; }; };"
unfolding declared_text open_text type_word in_quotes count_text count_head fixed_text string_word constant_named in_brackets array_word
    case_word array_text switch_text hex_number digits
items_declared = refl

-- an item of a menu: named numbers, characters, and bits of a fill that are not all 0
abbrev entry : Declaration
entry = of_fields (
    Run 4 (Integer 31 form.Hex (named (codes "allEnabled") 0x7FFFFFFF ∷ []) ∷ Integer 1 form.Boolean [] ∷ []) ∷
    Text end.Pascal false [] ∷
    Run 1 (Integer 8 form.Signed (named (codes "none") 0 ∷ named (codes "last") 255 ∷ []) ∷ []) ∷
    Text end.Char false [] ∷
    Run 1 (FillBits 1 ∷ Integer 7 form.Unsigned [] ∷ []) ∷ []
    )

one_entry : shown plain entry (
    value.Number 0x7FFFFFFF ∷ value.Number 1 ∷ value.Text (codes "Quit") ∷ value.Number 255 ∷ value.Text (81 ∷ []) ∷
    value.Number 1 ∷ value.Number 64 ∷ []
    )
    ≡ Some (codes "\tallEnabled,\n\ttrue,\n\t\"Quit\",\n\tlast,\n\t\"Q\" /* fill $01 */,\n\t64\n")
unfolding shown shown_integer shown_bits shown_text next_number next_value opened digits string_text commented fill_comment filled
one_entry = refl

entry_declared : declared_text 0x4D454E55 entry
    ≡ codes
    "type 'MENU' { hex bitstring[31] allEnabled = 0x7FFFFFFF; boolean; pstring; byte none = 0, last = -1; char; fill bit[1]; unsigned bitstring[7]; };"
unfolding declared_text open_text type_word in_quotes string_word constant_named in_brackets hex_number digits
entry_declared = refl

-- every other form; a hexadecimal string of more than one line, and one without bytes
abbrev forms : Declaration
forms = of_fields (
    Run 4 (Integer 32 form.Literal [] ∷ []) ∷
    Run 1 (Integer 4 form.Literal [] ∷ Integer 4 form.Binary [] ∷ []) ∷
    Run 2 (Integer 16 form.Hex [] ∷ []) ∷
    Point ∷
    Text (end.Fixed 18) true [] ∷
    Align boundary.Long ∷
    Text end.Resource true (record { name = codes "empty"; text = [] } ∷ []) ∷ []
    )

all_forms : shown plain forms (
    value.Number 0x61270009 ∷ value.Number 10 ∷ value.Number 6 ∷ value.Number 0xAB ∷ value.Number 65535 ∷ value.Number 32768 ∷
    value.Text (0 ∷ 1 ∷ 2 ∷ 3 ∷ 4 ∷ 5 ∷ 6 ∷ 7 ∷ 8 ∷ 9 ∷ 10 ∷ 11 ∷ 12 ∷ 13 ∷ 14 ∷ 15 ∷ 16 ∷ 17 ∷ []) ∷
    value.Filled (0 ∷ []) ∷ value.Text [] ∷ []
    )
    ≡ Some (codes
    "\t'a\\'\\0x00\\t',\n\t10,\n\t0b110,\n\t0xAB,\n\t{-1, -32768},\n\t$\"0001 0203 0405 0607 0809 0A0B 0C0D 0E0F\"\n\t\t$\"1011\",\n\tempty\n")
unfolding shown shown_integer shown_coordinates shown_fill shown_text next_number next_value opened closed digits in_quotes hex_number
    binary_number hex_text filled
all_forms = refl

forms_declared : declared_text 0x54455354 forms
    ≡ codes
    "type 'TEST' { literal longint; literal bitstring[4]; binary bitstring[4]; hex integer; point; hex string[18]; align long; hex string empty = \"\"; };"
unfolding declared_text open_text type_word in_quotes string_word constant_named in_brackets digits
forms_declared = refl

-- an array in an element, with elements and without
abbrev grid : Declaration
grid = record {
  fields = Array [] (Fixed 2) 1 ∷ [];
  blocks =
      (Run 1 (Integer 8 form.Unsigned [] ∷ []) ∷ Run 1 (Integer 8 form.Signed [] ∷ []) ∷ []) ∷
      (Run 1 (Count 8 false ∷ []) ∷ Array (codes "Row") (Counted 0) 0 ∷ []) ∷ [];
}

two_rows : shown plain grid (
    value.Element ∷ value.Count 2 ∷ value.Element ∷ value.Number 1 ∷ value.Number 2 ∷
    value.Element ∷ value.Number 3 ∷ value.Number 254 ∷ value.NoElement ∷
    value.Element ∷ value.Count 0 ∷ value.NoElement ∷ value.NoElement ∷ []
    )
    ≡ Some (codes "\t{\n\t\t{ 1, 2; 3, -2 };\n\t\t{ }\n\t}\n")
unfolding shown shown_array shown_integer passed_count next_number next_value opened closed digits
two_rows = refl

grid_declared : declared_text 0x54455354 grid
    ≡ codes "type 'TEST' { array [2] { byte = $$CountOf(Row); array Row { unsigned byte; byte; }; }; };"
unfolding declared_text open_text type_word in_quotes count_text count_head array_word array_text in_brackets digits
grid_declared = refl

rows_numbered : shown numbered_roman grid (
    value.Element ∷ value.Count 2 ∷ value.Element ∷ value.Number 1 ∷ value.Number 2 ∷
    value.Element ∷ value.Number 3 ∷ value.Number 254 ∷ value.NoElement ∷
    value.Element ∷ value.Count 0 ∷ value.NoElement ∷ value.NoElement ∷ []
    )
    ≡ Some (codes
    "\t{\t/* array: 2 elements */\n\t\t/* [1] */\n\t\t{ /* array Row: 2 elements */ /* [1] */ 1, 2; /* [2] */ 3, -2 };\n\t\t/* [2] */\n\t\t{ /* array Row: 0 elements */ }\n\t}\n")
unfolding shown shown_array shown_integer passed_count next_number next_value opened closed counted_at array_comment element_comment digits
rows_numbered = refl

-- a pattern as a picture, and a string that is none
abbrev pictured : Style
pictured = record { numbering = numbering.None; letters = letter.Ascii; pictures = picture.OneBit }

one_pattern : shown pictured (of_fields (Text (end.Fixed 8) true [] ∷ Text (end.Fixed 2) true [] ∷ []))
    (value.Text (0 ∷ 255 ∷ 1 ∷ 128 ∷ 0x55 ∷ 0xAA ∷ 0x3C ∷ 0xC3 ∷ []) ∷ value.Text (1 ∷ 2 ∷ []) ∷ [])
    ≡ Some (codes
    "\t$\"00\" /* ........ */\n\t$\"FF\" /* ######## */\n\t$\"01\" /* .......# */\n\t$\"80\" /* #....... */\n\t$\"55\" /* .#.#.#.# */\n\t$\"AA\" /* #.#.#.#. */\n\t$\"3C\" /* ..####.. */\n\t$\"C3\" /* ##....## */,\n\t$\"0102\"\n")
unfolding shown shown_text next_value opened hex_text points row_text picture_text
one_pattern = refl

-- nothing is stated; and values of another kind, too few of them, a number that is too wide
blank : shown plain (of_fields (Fill 2 ∷ [])) (value.Filled (0 ∷ 0 ∷ []) ∷ []) ≡ Some []
unfolding shown shown_fill next_value filled
blank = refl

other_kind : shown plain strings (value.Number 1 ∷ []) ≡ None
unfolding shown shown_text next_value
other_kind = refl

too_few : shown plain strings [] ≡ None
unfolding shown shown_text next_value
too_few = refl

too_many : shown plain strings (value.Text [] ∷ value.Text [] ∷ []) ≡ None
unfolding shown shown_text next_value opened
too_many = refl

too_wide : shown plain (of_fields (Run 1 (Integer 8 form.Unsigned [] ∷ []) ∷ [])) (value.Number 256 ∷ []) ≡ None
unfolding shown shown_integer next_number next_value
too_wide = refl
