-- Worked templates, on the definitions alone.
use Rattle.rez_templates.proofs.Cited.{◌≡◌, ℕ, Some, None, List, [], ◌∷◌, ◌++◌, codes, length, refl, digits, template_statement, statement}
use Rattle.rez_templates.proofs.Cited.{with_items, with_next, item_of, with_count, with_list, with_end, with_fill, fields_text, fill_text}
use Rattle.rez_templates.proofs.Cited.{count_text, begin_text, end_text, hex_text}

-- an item: its label, and four characters
abbrev item : List ℕ → List ℕ → List ℕ
item label code = length label ∷ label ++ code

-- a type has its bytes as they are escaped
escaped-type : statement (codes "A'\n ") (codes "byte; ") ≡ codes "type '\\0x41\\0x27\\0x0A\\0x20' { byte; };"
unfolding statement
escaped-type = refl

-- 'STR#', as ResEdit has it
strings : template_statement (codes "STR#")
    (item (codes "NumStrings") (codes "OCNT") ++ item (codes "*****") (codes "LSTC") ++ item (codes "The string") (codes "PSTR")
    ++ item (codes "*****") (codes "LSTE"))
    ≡ Some (statement (codes "STR#") (codes "integer = $$CountOf(List1); array List1 { pstring; }; "))
unfolding template_statement with_items with_next item_of with_count with_list with_end fields_text fill_text count_text
    begin_text end_text digits
strings = refl

-- lists in a list, with counts that are one less, as of 'BNDL'
bundle : template_statement (codes "BNDL")
    (item (codes "Owner") (codes "TNAM") ++ item [] (codes "ZCNT") ++ item [] (codes "LSTC") ++ item [] (codes "TNAM")
    ++ item [] (codes "ZCNT") ++ item [] (codes "LSTC") ++ item [] (codes "DWRD") ++ item [] (codes "LSTE") ++ item [] (codes "LSTE"))
    ≡ Some (statement (codes "BNDL") (codes "literal longint; integer = $$CountOf(List1) - 1; array List1 { literal longint; "
    ++ codes "integer = $$CountOf(List2) - 1; array List2 { integer; }; }; "))
unfolding template_statement with_items with_next item_of with_count with_list with_end fields_text fill_text count_text
    begin_text end_text digits
bundle = refl

-- a list that a byte of 0 ends; fills side by side, also at the end; a string of 17 bytes
gaps : template_statement (codes "Abcd")
    (item [] (codes "FLNG") ++ item [] (codes "FBYT") ++ item [] (codes "LSTZ") ++ item [] (codes "CSTR") ++ item [] (codes "LSTE")
    ++ item [] (codes "H011") ++ item [] (codes "FWRD"))
    ≡ Some (statement (codes "Abcd") (codes "fill byte[5]; array { cstring; }; byte = 0; hex string[17]; fill byte[2]; "))
unfolding template_statement with_items with_next item_of with_fill with_list with_end fields_text fill_text begin_text
    end_text hex_text digits
gaps = refl

-- not stated: an item that isn't known; a list without its count, and a count without its list; a list that does not end, and an end
-- without a list; an item that is cut off
refused : (template_statement (codes "Abcd") (item [] (codes "ESTR")) ≡ None)
    × (template_statement (codes "Abcd") (item [] (codes "LSTC") ++ item [] (codes "DBYT") ++ item [] (codes "LSTE")) ≡ None)
    × (template_statement (codes "Abcd") (item [] (codes "OCNT")) ≡ None)
    × (template_statement (codes "Abcd") (item [] (codes "LSTB") ++ item [] (codes "DBYT")) ≡ None)
    × (template_statement (codes "Abcd") (item [] (codes "LSTE")) ≡ None)
    × (template_statement (codes "Abcd") (5 ∷ codes "DBYT") ≡ None)
unfolding template_statement with_items with_next item_of with_count with_list with_end fields_text fill_text count_text
    begin_text end_text digits
refused = (refl, refl, refl, refl, refl, refl)
