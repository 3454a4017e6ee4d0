-- Worked resources, on the definitions alone. The layouts are those of Inside Macintosh.
use Rattle.rez_declarations.proofs.Cited.{◌≡◌, ℕ, true, false, Some, None, List, [], ◌∷◌, ◌++◌, map, take, replicate, codes, refl, Part}
use Rattle.rez_declarations.proofs.Cited.{Integer, Constant, Count, FillBits, Fixed, Counted, Before, Resource, Field, Run, Fill, Align}
use Rattle.rez_declarations.proofs.Cited.{Text, Point, Rect, Array, Switch, Declaration, Value, values_of_datum, decoded_run, decoded_fill}
use Rattle.rez_declarations.proofs.Cited.{decoded_pstring, decoded_cstring, decoded_bytes, decoded_switch, next, next_number, put}
use Rattle.rez_declarations.proofs.Cited.{datum_of_values, encoded_run, encoded_fill, encoded_text, encoded_array, encoded_switch, write}
use Rattle.rez_declarations.proofs.Cited.{next_value, of_fields, with_block, fault_of, judged, block_judged}
use Rattle.rez_types.specs.declared.declaration.Form.TheVariants as form
use Rattle.rez_types.specs.declared.declaration.Boundary.TheVariants as boundary
use Rattle.rez_types.specs.declared.declaration.TextEnd.TheVariants as end
use Rattle.rez_declarations.specs.declared.unsound.Unsound.TheVariants as fault
use Rattle.rez_types.specs.Values as value
use Rattle.rez_types.specs.Encoding as writing

-- integers of two bytes and of four, and an integer of a byte
abbrev integer : Part
integer = Integer 16 form.Signed []

abbrev byte : Part
byte = Integer 8 form.Signed []

-- a string with its length before it
abbrev pstring : Field
pstring = Text end.Pascal false []

-- type 'STR ' { pstring; };
str_is : (values_of_datum (of_fields (pstring ∷ [])) (5 ∷ codes "Hello") ≡ Some (value.Text (codes "Hello") ∷ []))
    × (datum_of_values (of_fields (pstring ∷ [])) (value.Text (codes "Hello") ∷ []) ≡ Some (5 ∷ codes "Hello"))
    × (values_of_datum (of_fields (pstring ∷ [])) (6 ∷ codes "Hello") ≡ None)
    × (values_of_datum (of_fields (pstring ∷ [])) (4 ∷ codes "Hello") ≡ None)
    × (fault_of (of_fields (pstring ∷ [])) ≡ None)
unfolding values_of_datum decoded_pstring decoded_bytes next next_number put datum_of_values encoded_text next_value write
    judged block_judged
str_is = (refl, refl, refl, refl, refl)

-- type 'STR#' { integer = $$CountOf(StringArray); array StringArray { pstring; }; };
abbrev strings : Declaration
strings =
    with_block (Run 2 (Count 16 false ∷ []) ∷ Array (codes "StringArray") (Counted 0) 0 ∷ []) (pstring ∷ [])

abbrev two_strings : List Value
two_strings =
    value.Count 2 ∷ value.Element ∷ value.Text (codes "No") ∷ value.Element ∷ value.Text (codes "Yes") ∷ value.NoElement ∷ []

strings_are : (values_of_datum strings (0 ∷ 2 ∷ 2 ∷ codes "No" ++ 3 ∷ codes "Yes") ≡ Some two_strings)
    × (datum_of_values strings two_strings ≡ Some (0 ∷ 2 ∷ 2 ∷ codes "No" ++ 3 ∷ codes "Yes"))
    × (values_of_datum strings (0 ∷ 0 ∷ []) ≡ Some (value.Count 0 ∷ value.NoElement ∷ []))
    × (values_of_datum strings (0 ∷ 3 ∷ 2 ∷ codes "No" ++ 3 ∷ codes "Yes") ≡ None)
    × (values_of_datum strings (0 ∷ 1 ∷ 2 ∷ codes "No" ++ 3 ∷ codes "Yes") ≡ None)
    × (datum_of_values strings (value.Count 3 ∷ value.Element ∷ value.Text (codes "No") ∷ value.NoElement ∷ []) ≡ None)
    × (fault_of strings ≡ None)
unfolding values_of_datum decoded_run decoded_pstring decoded_bytes next next_number put
    datum_of_values encoded_run encoded_text encoded_array next_value write writing.next_number writing.next_count judged block_judged
strings_are = (refl, refl, refl, refl, refl, refl, refl)

-- boolean enabled, disabled; key bitstring[7] = KEY;
abbrev item_of : ℕ → List Field
item_of key =
    Run 1 (
    Integer 1 form.Boolean (record { name = codes "enabled"; pattern = 0 } ∷ record { name = codes "disabled"; pattern = 1 } ∷ [])
    ∷ Constant 7 key true ∷ []
    ) ∷ pstring ∷ []

-- two of the items of a 'DITL': a button and a text
abbrev items : Declaration
items = record {
  fields = Run 2 (Count 16 true ∷ []) ∷ Array (codes "DITLarray") (Counted 0) 2 ∷ [];
  blocks =
      item_of 4 ∷ item_of 8 ∷ (
      Fill 4 ∷ Rect ∷ Switch (record { before = 0; bytes = 1; below = 0; width = 7 }) (
      record { name = codes "Button"; pattern = 4; block = 0 } ∷ record { name = codes "StaticText"; pattern = 8; block = 1 } ∷ []
      ) ∷ Align boundary.Word ∷ []
      ) ∷ [];
}

-- an enabled button that says 'OK', and a disabled text 'Hi!', after which a byte fills the word: it need not be 0
abbrev two_items : List ℕ
two_items =
    0 ∷ 1 ∷ 0 ∷ 0 ∷ 0 ∷ 0 ∷ 0 ∷ 10 ∷ 0 ∷ 20 ∷ 0 ∷ 30 ∷ 0 ∷ 80 ∷ 0x04 ∷ 2 ∷ codes "OK"
    ++ 0 ∷ 0 ∷ 0 ∷ 0 ∷ 0 ∷ 40 ∷ 0 ∷ 20 ∷ 0 ∷ 56 ∷ 0xFF ∷ 0xFF ∷ 0x88 ∷ 3 ∷ codes "Hi!" ++ 0x6B ∷ []

abbrev of_two_items : List Value
of_two_items =
    value.Count 2 ∷ value.Element ∷ value.Filled (replicate 4 0)
    ∷ value.Number 10 ∷ value.Number 20 ∷ value.Number 30 ∷ value.Number 80
    ∷ value.Case 0 ∷ value.Number 0 ∷ value.Text (codes "OK") ∷ value.Filled []
    ∷ value.Element ∷ value.Filled (replicate 4 0)
    ∷ value.Number 40 ∷ value.Number 20 ∷ value.Number 56 ∷ value.Number 0xFFFF
    ∷ value.Case 1 ∷ value.Number 1 ∷ value.Text (codes "Hi!") ∷ value.Filled (0x6B ∷ []) ∷ value.NoElement ∷ []

items_are : (values_of_datum items two_items ≡ Some of_two_items)
    × (datum_of_values items of_two_items ≡ Some two_items)
    × (values_of_datum items (0xFF ∷ 0xFF ∷ []) ≡ Some (value.Count 0 ∷ value.NoElement ∷ []))
    × (datum_of_values items (value.Count 0 ∷ value.NoElement ∷ []) ≡ Some (0xFF ∷ 0xFF ∷ []))
    × (fault_of items ≡ None)
unfolding values_of_datum decoded_run decoded_fill decoded_pstring decoded_bytes decoded_switch next next_number put
    datum_of_values encoded_run encoded_fill encoded_text encoded_array encoded_switch next_value write writing.next_number
    writing.next_count judged block_judged
items_are = (refl, refl, refl, refl, refl)

-- the items of a 'MENU': a byte of 0 ends them
abbrev menu : Declaration
menu =
    with_block
    (Run 2 (integer ∷ []) ∷ Fill 4 ∷ Run 2 (integer ∷ []) ∷ Fill 2
    ∷ Run 4 (Integer 31 form.Hex [] ∷ Integer 1 form.Boolean [] ∷ []) ∷ pstring
    ∷ Array [] (Before 1 0) 0 ∷ Run 1 (Constant 8 0 false ∷ []) ∷ [])
    (pstring ∷ Run 1 (byte ∷ []) ∷ Text end.Char false [] ∷ Text end.Char false []
    ∷ Run 1 (FillBits 1 ∷ Integer 7 form.Unsigned [] ∷ []) ∷ [])

abbrev menu_head : List Value
menu_head =
    value.Number 128 ∷ value.Filled (replicate 4 0) ∷ value.Number 0 ∷ value.Filled (replicate 2 0)
    ∷ value.Number 0x7FFFFFFF ∷ value.Number 1 ∷ value.Text (codes "File") ∷ []

abbrev item_values : List ℕ → List Value
item_values title =
    value.Element ∷ value.Text title ∷ value.Number 0 ∷ value.Text (codes "N") ∷ value.Text (0 ∷ []) ∷ value.Number 0
    ∷ value.Number 0 ∷ []

abbrev menu_bytes : List ℕ
menu_bytes =
    0 ∷ 128 ∷ replicate 8 0 ++ 0xFF ∷ 0xFF ∷ 0xFF ∷ 0xFF ∷ 4 ∷ codes "File" ++ 3 ∷ codes "New" ++ 0 ∷ 78 ∷ 0 ∷ 0 ∷ 0 ∷ []

-- an item without a title would end the menu
menu_is : (values_of_datum menu menu_bytes ≡ Some (menu_head ++ item_values (codes "New") ++ value.NoElement ∷ []))
    × (datum_of_values menu (menu_head ++ item_values (codes "New") ++ value.NoElement ∷ []) ≡ Some menu_bytes)
    × (datum_of_values menu (menu_head ++ item_values [] ++ value.NoElement ∷ []) ≡ None)
    × (fault_of menu ≡ None)
unfolding values_of_datum decoded_run decoded_fill decoded_pstring decoded_bytes next next_number put
    datum_of_values encoded_run encoded_fill encoded_text encoded_array next_value write writing.next_number judged block_judged
menu_is = (refl, refl, refl, refl)

-- type 'PAT ' of two: array [2] { hex string[2]; }; and a point
abbrev fixed : Declaration
fixed = with_block (Array [] (Fixed 2) 0 ∷ Point ∷ []) (Text (end.Fixed 2) true [] ∷ [])

fixed_is : (values_of_datum fixed (1 ∷ 2 ∷ 3 ∷ 4 ∷ 0xFF ∷ 0xFE ∷ 0 ∷ 5 ∷ [])
    ≡ Some (value.Element ∷ value.Text (1 ∷ 2 ∷ []) ∷ value.Element ∷ value.Text (3 ∷ 4 ∷ []) ∷ value.NoElement
    ∷ value.Number 0xFFFE ∷ value.Number 5 ∷ []))
    × (datum_of_values fixed (value.Element ∷ value.Text (1 ∷ 2 ∷ []) ∷ value.NoElement ∷ value.Number 1 ∷ value.Number 5 ∷ []) ≡ None)
    × (fault_of fixed ≡ None)
unfolding values_of_datum decoded_bytes next next_number put datum_of_values encoded_text encoded_array next_value write judged block_judged
fixed_is = (refl, refl, refl)

-- cstrings up to the end of the resource
abbrev to_end : Declaration
to_end = with_block (Array [] Resource 0 ∷ []) (Text end.C false [] ∷ [])

to_end_is : (values_of_datum to_end (65 ∷ 0 ∷ 0 ∷ [])
    ≡ Some (value.Element ∷ value.Text (65 ∷ []) ∷ value.Element ∷ value.Text [] ∷ value.NoElement ∷ []))
    × (values_of_datum to_end [] ≡ Some (value.NoElement ∷ []))
    × (values_of_datum to_end (65 ∷ []) ≡ None)
    × (datum_of_values to_end (value.Element ∷ value.Text (0 ∷ []) ∷ value.NoElement ∷ []) ≡ None)
    × (fault_of to_end ≡ None)
unfolding values_of_datum decoded_cstring decoded_bytes next next_number put datum_of_values encoded_text encoded_array next_value write
    judged block_judged
to_end_is = (refl, refl, refl, refl, refl)

-- fills of bits, an alignment to four bytes, and the rest of the resource
abbrev fills : Declaration
fills =
    of_fields (Run 1 (Integer 3 form.Binary [] ∷ FillBits 5 ∷ []) ∷ Align boundary.Long ∷ Text end.Resource true [] ∷ [])

fills_are : (values_of_datum (of_fields (Run 1 (FillBits 4 ∷ Integer 4 form.Hex [] ∷ []) ∷ Align boundary.Long ∷ Text end.Resource true []
    ∷ [])) (0x2B ∷ 0 ∷ 1 ∷ 0 ∷ 7 ∷ 8 ∷ [])
    ≡ Some (value.Number 2 ∷ value.Number 11 ∷ value.Filled (0 ∷ 1 ∷ 0 ∷ []) ∷ value.Text (7 ∷ 8 ∷ []) ∷ []))
    × (datum_of_values fills (value.Number 5 ∷ value.Number 1 ∷ value.Filled [] ∷ value.Text (7 ∷ []) ∷ [])
    ≡ Some (0xA1 ∷ 0 ∷ 0 ∷ 0 ∷ 7 ∷ []))
    × (datum_of_values fills (value.Number 8 ∷ value.Number 1 ∷ value.Filled [] ∷ value.Text (7 ∷ []) ∷ []) ≡ None)
    × (fault_of fills ≡ Some fault.FillAfterFill)
unfolding values_of_datum decoded_run decoded_fill decoded_bytes next next_number put datum_of_values encoded_run encoded_fill encoded_text
    next_value write writing.next_number judged block_judged
fills_are = (refl, refl, refl, refl)

-- two constants of one name in another case
abbrev twins : Field
twins =
    Run 2 (
    Integer 16 form.Signed (record { name = codes "plain"; pattern = 0 } ∷ record { name = codes "Plain"; pattern = 1 } ∷ []) ∷ []
    )

-- what is refused
refused : (fault_of (of_fields (Run 1 (Integer 3 form.Binary [] ∷ []) ∷ [])) ≡ Some fault.PartialBytes)
    × (fault_of (of_fields (Run 1 (Constant 8 256 false ∷ []) ∷ [])) ≡ Some fault.WideConstant)
    × (fault_of (of_fields (twins ∷ [])) ≡ Some fault.TwoNames)
    × (fault_of (of_fields (Fill 257 ∷ [])) ≡ Some fault.LongFill)
    × (fault_of (of_fields (Fill 2 ∷ Align boundary.Word ∷ [])) ≡ Some fault.FillAfterFill)
    × (fault_of (of_fields (Text end.Resource false [] ∷ Point ∷ [])) ≡ Some fault.NotLast)
    × (fault_of (of_fields (Run 2 (Count 16 false ∷ []) ∷ [])) ≡ Some fault.CountWithoutArray)
    × (fault_of (with_block (Array [] (Before 1 0) 0 ∷ []) (pstring ∷ [])) ≡ Some fault.EndlessArray)
    × (fault_of (with_block (Array [] (Before 2 0) 0 ∷ Run 2 (Constant 16 0 false ∷ []) ∷ []) (pstring ∷ [])) ≡ Some fault.LongConstant)
    × (fault_of (with_block (Array [] Resource 0 ∷ []) (Align boundary.Word ∷ [])) ≡ Some fault.NoElementBytes)
    × (fault_of (with_block (Array [] Resource 0 ∷ []) (Fill 2 ∷ [])) ≡ Some fault.NothingStated)
    × (fault_of (of_fields (Array [] Resource 0 ∷ [])) ≡ Some fault.NoBlock)
unfolding judged block_judged
refused = (refl, refl, refl, refl, refl, refl, refl, refl, refl, refl, refl, refl)

-- a switch of two cases, whose keys stand there
abbrev switch_of : (one two : List Field) → Declaration
switch_of one two = record {
  fields = Switch (record { before = 0; bytes = 1; below = 0; width = 8 }) (
      record { name = codes "One"; pattern = 1; block = 0 } ∷ record { name = codes "Two"; pattern = 2; block = 1 } ∷ []
      ) ∷ [];
  blocks = one ∷ two ∷ [];
}

-- a byte that is the key of a case
abbrev key : ℕ → Field
key pattern = Run 1 (Constant 8 pattern true ∷ [])

-- what is refused in a switch; its cases may end with the resource
switches : (fault_of (switch_of (key 1 ∷ Text end.Resource false [] ∷ []) (key 2 ∷ [])) ≡ None)
    × (fault_of (switch_of (key 1 ∷ []) (Run 1 (byte ∷ []) ∷ [])) ≡ Some fault.NoKey)
    × (fault_of (switch_of (key 1 ∷ []) (pstring ∷ key 2 ∷ [])) ≡ Some fault.NoKey)
    × (fault_of (switch_of (key 1 ∷ []) (Run 1 (byte ∷ []) ∷ key 2 ∷ [])) ≡ Some fault.KeysApart)
    × (fault_of (switch_of (key 1 ∷ []) (key 1 ∷ [])) ≡ Some fault.KeysApart)
    × (fault_of (of_fields (Switch (record { before = 0; bytes = 1; below = 0; width = 8 }) [] ∷ [])) ≡ Some fault.NoCase)
    × (fault_of (of_fields (Switch (record { before = 0; bytes = 1; below = 0; width = 8 }) (
    record { name = codes "One"; pattern = 1; block = 0 } ∷ record { name = codes "Two"; pattern = 1; block = 0 } ∷ []
    ) ∷ [])) ≡ Some fault.TwoKeys)
unfolding judged block_judged
switches = (refl, refl, refl, refl, refl, refl, refl)

-- arrays so deep in one another
abbrev nested : ℕ → Declaration
nested depth = record {
  fields = Array [] (Fixed 1) depth ∷ [];
  blocks = (Point ∷ []) ∷ map (λ block. Array [] (Fixed 1) block ∷ []) (take depth (0 ∷ 1 ∷ 2 ∷ 3 ∷ 4 ∷ 5 ∷ 6 ∷ 7 ∷ []));
}

-- the limits of a declaration
limits : (fault_of (nested 7) ≡ None)
    × (fault_of (nested 8) ≡ Some fault.TooDeep)
    × (fault_of (of_fields (replicate 512 Point)) ≡ None)
    × (fault_of (of_fields (replicate 513 Point)) ≡ Some fault.ManyFields)
    × (fault_of (with_block (Array [] (Fixed 65535) 0 ∷ Fill 256 ∷ []) (Text (end.Fixed 256) false [] ∷ [])) ≡ None)
    × (fault_of (with_block (Array [] (Fixed 65535) 0 ∷ Fill 256 ∷ Point ∷ []) (Text (end.Fixed 256) false [] ∷ []))
    ≡ Some fault.LongResource)
    × (fault_of (with_block (Array [] (Fixed 0) 0 ∷ []) (pstring ∷ [])) ≡ Some fault.NoLength)
    × (fault_of (of_fields (Text end.Char false (record { name = codes "none"; text = [] } ∷ []) ∷ [])) ≡ Some fault.WrongText)
unfolding judged block_judged
limits = (refl, refl, refl, refl, refl, refl, refl, refl)
