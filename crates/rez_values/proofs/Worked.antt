-- Worked statements, on the definitions alone. The layouts are those of Inside Macintosh.
use Rattle.rez_values.proofs.Cited.{◌≡◌, ℕ, true, false, Ok, Err, List, [], ◌∷◌, ◌++◌, map, replicate, codes, refl, NamedNumber, Integer}
use Rattle.rez_values.proofs.Cited.{Constant, Count, FillBits, Fixed, Counted, Before, Field, Run, Fill, Align, Text, Rect, Array, Switch}
use Rattle.rez_values.proofs.Cited.{Declaration, Value, of_fields, with_block, Token, Lexeme, marked, separated, trailed, opened, closed}
use Rattle.rez_values.proofs.Cited.{put, number, integer_taken, count_taken, fill_bits_taken, fill_taken, align_taken, text_taken}
use Rattle.rez_values.proofs.Cited.{corners_taken, closes, begun, element_taken, array_taken, switch_taken, finished, taken}
use Rattle.rez_types.specs.declared.declaration.Form.TheVariants as form
use Rattle.rez_types.specs.declared.declaration.Boundary.TheVariants as boundary
use Rattle.rez_types.specs.declared.declaration.TextEnd.TheVariants as end
use Rattle.rez_types.specs.Values as value
use Rattle.rez_tokens.specs.Tokens as token
use Rattle.rez_values.specs.declared.fault.ValueFault.TheVariants as faults

-- tokens on a line
abbrev on : ℕ → List Lexeme → List Token
on line lexemes = map (λ l. record { line = line; lexeme = l }) lexemes

-- `{`, `}`, `,`, `;` and `-`
abbrev open_brace : Lexeme
open_brace = token.Mark 123

abbrev close_brace : Lexeme
close_brace = token.Mark 125

abbrev comma : Lexeme
comma = token.Mark 44

abbrev semicolon : Lexeme
semicolon = token.Mark 59

abbrev minus : Lexeme
minus = token.Mark 45

abbrev named : List ℕ → ℕ → NamedNumber
named name pattern = record { name = name; pattern = pattern }

abbrev pstring : Field
pstring = Text end.Pascal false []

-- type 'STR ' { pstring; };
abbrev one_string : Declaration
one_string = of_fields (pstring ∷ [])

-- "Hel" "lo"; and a number in its place, two strings, and no token
string_is : (taken one_string (on 1 (token.Text (codes "Hel") ∷ token.Text (codes "lo") ∷ []))
    ≡ Ok (value.Text (codes "Hello") ∷ []))
    × (taken one_string (on 1 (token.Text (codes "No") ∷ semicolon ∷ [])) ≡ Ok (value.Text (codes "No") ∷ []))
    × (taken one_string (on 2 (token.Number 5 ∷ [])) ≡ Err (2, faults.StringNeeded))
    × (taken one_string (on 1 (token.Text (codes "No") ∷ comma ∷ []) ++ on 2 (token.Text (codes "Yes") ∷ []))
    ≡ Err (2, faults.NothingMore))
    × (taken one_string [] ≡ Err (1, faults.StringNeeded))
    × (taken one_string (on 3 (token.Text (replicate 256 65) ∷ [])) ≡ Err (3, faults.LongString))
unfolding marked separated trailed opened closed put number integer_taken count_taken fill_bits_taken fill_taken align_taken text_taken
    corners_taken closes begun element_taken array_taken switch_taken finished taken
string_is = (refl, refl, refl, refl, refl, refl)

-- type 'STR#' { integer = $$CountOf(StringArray); array StringArray { pstring; }; };
abbrev strings : Declaration
strings =
    with_block (Run 2 (Count 16 false ∷ []) ∷ Array (codes "StringArray") (Counted 0) 0 ∷ []) (pstring ∷ [])

-- { "No"; "Yes" }, where a separator may stand after the last; { }; a separator before the first, and none between
strings_are : (taken strings (on 1 (open_brace ∷ token.Text (codes "No") ∷ semicolon ∷ token.Text (codes "Yes") ∷ close_brace ∷ []))
    ≡ Ok (value.Count 2 ∷ value.Element ∷ value.Text (codes "No") ∷ value.Element ∷ value.Text (codes "Yes") ∷ value.NoElement ∷ []))
    × (taken strings (on 1 (open_brace ∷ token.Text (codes "No") ∷ comma ∷ close_brace ∷ []))
    ≡ Ok (value.Count 1 ∷ value.Element ∷ value.Text (codes "No") ∷ value.NoElement ∷ []))
    × (taken strings (on 1 (open_brace ∷ close_brace ∷ [])) ≡ Ok (value.Count 0 ∷ value.NoElement ∷ []))
    × (taken strings (on 1 (open_brace ∷ []) ++ on 2 (comma ∷ close_brace ∷ [])) ≡ Err (2, faults.StringNeeded))
    × (taken strings (on 1 (open_brace ∷ token.Text (codes "No") ∷ []) ++ on 2 (token.Number 12 ∷ close_brace ∷ []))
    ≡ Err (2, faults.SeparatorNeeded))
    × (taken strings (on 1 (token.Text (codes "No") ∷ [])) ≡ Err (1, faults.ArrayNeeded))
    × (taken strings (on 1 (open_brace ∷ token.Text (codes "No") ∷ [])) ≡ Err (1, faults.ClosingBraceNeeded))
unfolding marked separated trailed opened closed put number integer_taken count_taken fill_bits_taken fill_taken align_taken text_taken
    corners_taken closes begun element_taken array_taken switch_taken finished taken
strings_are = (refl, refl, refl, refl, refl, refl, refl)

-- boolean enabled, disabled; key bitstring[7] = KEY; pstring;
abbrev item_of : ℕ → List Field
item_of key =
    Run 1 (Integer 1 form.Boolean (named (codes "enabled") 0 ∷ named (codes "disabled") 1 ∷ []) ∷ Constant 7 key true ∷ [])
    ∷ pstring ∷ []

-- two of the items of a 'DITL': a button and a text
abbrev items : Declaration
items = record {
  fields = Run 2 (Count 16 true ∷ []) ∷ Array (codes "DITLarray") (Counted 0) 2 ∷ [];
  blocks =
      item_of 4 ∷ item_of 8 ∷ (
      Fill 4 ∷ Rect ∷ Switch (record { before = 0; bytes = 1; below = 0; width = 7 }) (
      record { name = codes "Button"; pattern = 4; block = 0 } ∷ record { name = codes "StaticText"; pattern = 8; block = 1 } ∷ []
      ) ∷ Align boundary.Word ∷ []
      ) ∷ [];
}

-- a rectangle, and an item
abbrev rectangle : ℕ → ℕ → ℕ → ℕ → List Lexeme
rectangle top left bottom right =
    open_brace ∷ token.Number top ∷ comma ∷ token.Number left ∷ comma ∷ token.Number bottom ∷ comma ∷ token.Number right
    ∷ close_brace ∷ []

abbrev item : List ℕ → List ℕ → List ℕ → List Lexeme
item case state text = token.Word case ∷ open_brace ∷ token.Word state ∷ comma ∷ token.Text text ∷ close_brace ∷ []

-- { {10, 20, 30, 80}, Button { enabled, "OK" }; {40, 20, -1, 0}, statictext { TRUE, "Hi!" } /* fill $6B */ }
abbrev button_and_text : List Lexeme
button_and_text =
    open_brace ∷ rectangle 10 20 30 80 ++ comma ∷ item (codes "Button") (codes "enabled") (codes "OK")
    ++ semicolon ∷ open_brace ∷ token.Number 40 ∷ comma ∷ token.Number 20 ∷ comma ∷ minus ∷ token.Number 1 ∷ comma ∷ token.Number 0
    ∷ close_brace ∷ comma ∷ item (codes "statictext") (codes "TRUE") (codes "Hi!") ++ token.Filled (0x6B ∷ []) ∷ close_brace ∷ []

items_are : (taken items (on 1 button_and_text)
    ≡ Ok (
    value.Count 2 ∷ value.Element ∷ value.Filled (replicate 4 0)
    ∷ value.Number 10 ∷ value.Number 20 ∷ value.Number 30 ∷ value.Number 80
    ∷ value.Case 0 ∷ value.Number 0 ∷ value.Text (codes "OK") ∷ value.Filled []
    ∷ value.Element ∷ value.Filled (replicate 4 0)
    ∷ value.Number 40 ∷ value.Number 20 ∷ value.Number 0xFFFF ∷ value.Number 0
    ∷ value.Case 1 ∷ value.Number 1 ∷ value.Text (codes "Hi!") ∷ value.Filled (0x6B ∷ []) ∷ value.NoElement ∷ []
    ))
    × (taken items (on 1 (open_brace ∷ rectangle 10 20 30 80 ++ comma ∷ item (codes "Buton") (codes "enabled") (codes "OK")))
    ≡ Err (1, faults.CaseNeeded))
    × (taken items (on 1 (open_brace ∷ rectangle 10 20 30 70000)) ≡ Err (1, faults.NumberOutOfRange 16))
    × (taken items (on 1 (open_brace ∷ open_brace ∷ token.Number 1 ∷ close_brace ∷ [])) ≡ Err (1, faults.RectangleNeeded))
    × (taken items (on 1 (open_brace ∷ rectangle 10 20 30 80 ++ comma ∷ item (codes "Button") (codes "enabeld") (codes "OK")))
    ≡ Err (1, faults.NumberOrNameNeeded))
unfolding marked separated trailed opened closed put number integer_taken count_taken fill_bits_taken fill_taken align_taken text_taken
    corners_taken closes begun element_taken array_taken switch_taken finished taken
items_are = (refl, refl, refl, refl, refl)

-- a 'MENU', whose items a byte of 0 ends
abbrev menu : Declaration
menu =
    with_block
    (Run 2 (Integer 16 form.Signed [] ∷ []) ∷ Fill 4 ∷ Run 2 (Integer 16 form.Signed (named (codes "textMenuProc") 0 ∷ []) ∷ [])
    ∷ Fill 2 ∷ Run 4 (Integer 31 form.Hex (named (codes "allEnabled") 0x7FFFFFFF ∷ []) ∷ Integer 1 form.Boolean [] ∷ []) ∷ pstring
    ∷ Array [] (Before 1 0) 0 ∷ Run 1 (Constant 8 0 false ∷ []) ∷ [])
    (pstring ∷ Run 1 (Integer 8 form.Signed (named (codes "noIcon") 0 ∷ []) ∷ [])
    ∷ Text end.Char false (record { name = codes "noKey"; text = 0 ∷ [] } ∷ []) ∷ Text end.Char false []
    ∷ Run 1 (FillBits 1 ∷ Integer 7 form.Unsigned [] ∷ []) ∷ [])

-- 128, textMenuProc, allEnabled, true, "File", { "New", noicon, 'N', $"00", 4; "Quit", 1, noKey, $"12", /* fill $01 */ .. }
abbrev file_menu : List ℕ → List Lexeme
file_menu key =
    token.Number 128 ∷ comma ∷ token.Word (codes "textMenuProc") ∷ comma ∷ token.Word (codes "allenabled") ∷ comma
    ∷ token.Word (codes "true") ∷ comma ∷ token.Text (codes "File") ∷ comma ∷ open_brace
    ∷ token.Text (codes "New") ∷ comma ∷ token.Word (codes "noicon") ∷ comma ∷ token.Text key ∷ comma ∷ token.Hex (0 ∷ [])
    ∷ token.Filled (1 ∷ []) ∷ comma ∷ token.Number 4 ∷ semicolon
    ∷ token.Text (codes "Quit") ∷ comma ∷ token.Literal (codes "A") ∷ comma ∷ token.Word (codes "noKey") ∷ comma
    ∷ token.Hex (0x12 ∷ []) ∷ comma ∷ token.Number 127 ∷ semicolon ∷ close_brace ∷ []

menu_is : (taken menu (on 1 (file_menu (codes "N")))
    ≡ Ok (
    value.Number 128 ∷ value.Filled (replicate 4 0) ∷ value.Number 0 ∷ value.Filled (replicate 2 0)
    ∷ value.Number 0x7FFFFFFF ∷ value.Number 1 ∷ value.Text (codes "File")
    ∷ value.Element ∷ value.Text (codes "New") ∷ value.Number 0 ∷ value.Text (codes "N") ∷ value.Text (0 ∷ []) ∷ value.Number 1
    ∷ value.Number 4 ∷ value.Element ∷ value.Text (codes "Quit") ∷ value.Number 65 ∷ value.Text (0 ∷ [])
    ∷ value.Text (0x12 ∷ []) ∷ value.Number 0 ∷ value.Number 127 ∷ value.NoElement ∷ []
    ))
    × (taken menu (on 1 (file_menu (codes "No"))) ≡ Err (1, faults.StringLength 1))
unfolding marked separated trailed opened closed put number integer_taken count_taken fill_bits_taken fill_taken align_taken text_taken
    corners_taken closes begun element_taken array_taken switch_taken finished taken
menu_is = (refl, refl)

-- array [2] { byte; }; and a count of one byte, which is short
abbrev pairs : Declaration
pairs = with_block (Array [] (Fixed 2) 0 ∷ []) (Run 1 (Integer 8 form.Signed [] ∷ []) ∷ [])

abbrev few : Declaration
few =
    with_block (Run 1 (Count 1 false ∷ FillBits 7 ∷ []) ∷ Array [] (Counted 0) 0 ∷ []) (Run 1 (Integer 8 form.Signed [] ∷ []) ∷ [])

abbrev bytes : List Lexeme
bytes = open_brace ∷ minus ∷ token.Number 128 ∷ comma ∷ token.Number 255 ∷ close_brace ∷ []

arrays_are : (taken pairs (on 1 bytes) ≡ Ok (value.Element ∷ value.Number 128 ∷ value.Element ∷ value.Number 255 ∷ value.NoElement ∷ []))
    × (taken pairs (on 1 (open_brace ∷ token.Number 1 ∷ []) ++ on 2 (close_brace ∷ [])) ≡ Err (2, faults.ElementsNeeded 2))
    × (taken few (on 1 (open_brace ∷ token.Number 1 ∷ close_brace ∷ []))
    ≡ Ok (value.Count 1 ∷ value.Number 0 ∷ value.Element ∷ value.Number 1 ∷ value.NoElement ∷ []))
    × (taken few (on 1 bytes) ≡ Err (1, faults.ManyElements))
    × (taken pairs (on 1 (open_brace ∷ minus ∷ token.Number 129 ∷ [])) ≡ Err (1, faults.NumberOutOfRange 8))
unfolding marked separated trailed opened closed put number integer_taken count_taken fill_bits_taken fill_taken align_taken text_taken
    corners_taken closes begun element_taken array_taken switch_taken finished taken
arrays_are = (refl, refl, refl, refl, refl)
