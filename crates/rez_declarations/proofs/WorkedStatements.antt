-- Worked statements, on the definitions alone.
use Rattle.rez_declarations.proofs.Cited.{◌≡◌, ℕ, true, false, Ok, Err, List, [], ◌∷◌, ◌++◌, codes, map, refl, Integer, Constant, Count}
use Rattle.rez_declarations.proofs.Cited.{Counted, Field, Run, Text, Array, Switch, Token, Lexeme, Word, Number, Literal, Function, Mark}
use Rattle.rez_declarations.proofs.Cited.{judged, block_judged, marked, named, bracketed, constant, Declared, As, pattern_named}
use Rattle.rez_declarations.proofs.Cited.{number_named, numbers_named, numbers_of, texts_of, name_in_parentheses, less_one, count_read}
use Rattle.rez_declarations.proofs.Cited.{integer_read, text_read, string_read, array_read, case_read, switch_read, bitstring_read}
use Rattle.rez_declarations.proofs.Cited.{field_read, type_read, declared, likened, statement}
use Rattle.rez_declarations.specs.declared.type_fault.FaultKind.TheVariants as faults
use Rattle.rez_declarations.specs.declared.unsound.Unsound.TheVariants as fault
use Rattle.rez_types.specs.declared.declaration.Form.TheVariants as form
use Rattle.rez_types.specs.declared.declaration.TextEnd.TheVariants as end

-- tokens on one line
abbrev on_line : ℕ → List Lexeme → List Token
on_line line lexemes = map (λ (l : Lexeme). record { line = line; lexeme = l }) lexemes

-- the marks { } ; , =
abbrev opening : Lexeme
opening = Mark 123

abbrev closing : Lexeme
closing = Mark 125

abbrev semicolon : Lexeme
semicolon = Mark 59

abbrev comma : Lexeme
comma = Mark 44

abbrev equals : Lexeme
equals = Mark 61

-- a statement that declares a type 'TYPE', on one line
abbrev statement_of : List Lexeme → List Token
statement_of fields =
    on_line 1 (Word (codes "type") ∷ Literal (codes "TYPE") ∷ opening ∷ fields ++ closing ∷ semicolon ∷ [])

-- its number
abbrev type_number : ℕ
type_number = 0x54595045

-- type 'STR ' { PString; }; on three lines, and what follows it
abbrev rest : List Token
rest = on_line 4 (Word (codes "type") ∷ [])

abbrev str : List Token
str =
    on_line 1 (Word (codes "type") ∷ Literal (codes "STR ") ∷ opening ∷ [])
    ++ on_line 2 (Word (codes "PString") ∷ semicolon ∷ [])
    ++ on_line 3 (closing ∷ semicolon ∷ [])
    ++ rest

str_is : statement str ≡ Ok (0x53545220, Declared (record { fields = Text end.Pascal false [] ∷ []; blocks = [] }), rest)
unfolding statement type_read declared marked field_read text_read texts_of judged block_judged
str_is = refl

-- integer = $$CountOf(StringArray); array StringArray { pstring; };
abbrev strings : List Lexeme
strings =
    Word (codes "integer") ∷ equals ∷ Function (codes "CountOf") ∷ Mark 40 ∷ Word (codes "StringArray") ∷ Mark 41 ∷ semicolon
    ∷ Word (codes "array") ∷ Word (codes "StringArray") ∷ opening ∷ Word (codes "pstring") ∷ semicolon ∷ closing ∷ semicolon ∷ []

strings_are : statement (statement_of strings)
    ≡ Ok (
      type_number,
      Declared (record {
        fields = Run 2 (Count 16 false ∷ []) ∷ Array (codes "StringArray") (Counted 0) 0 ∷ [];
        blocks = (Text end.Pascal false [] ∷ []) ∷ [];
      }),
      [],
    )
unfolding statement type_read declared marked named field_read integer_read count_read name_in_parentheses less_one array_read text_read
    texts_of judged block_judged
strings_are = refl

-- case NAME: boolean enabled, disabled; key bitstring[7] = KEY; pstring;
abbrev item : List ℕ → ℕ → List Lexeme
item name key =
    Word (codes "case") ∷ Word name ∷ Mark 58
    ∷ Word (codes "boolean") ∷ Word (codes "enabled") ∷ comma ∷ Word (codes "disabled") ∷ semicolon
    ∷ Word (codes "key") ∷ Word (codes "bitstring") ∷ Mark 91 ∷ Number 7 ∷ Mark 93 ∷ equals ∷ Number key ∷ semicolon
    ∷ Word (codes "pstring") ∷ semicolon ∷ []

abbrev item_of : ℕ → List Field
item_of key =
    Run 1 (
    Integer 1 form.Boolean (record { name = codes "enabled"; pattern = 0 } ∷ record { name = codes "disabled"; pattern = 1 } ∷ [])
    ∷ Constant 7 key true ∷ []
    ) ∷ Text end.Pascal false [] ∷ []

-- switch { .. }; with two cases: the fields of each are a block, and their keys stand at one place
items_are : statement (statement_of (
    Word (codes "switch") ∷ opening ∷ item (codes "Button") 4 ++ item (codes "StaticText") 8 ++ closing ∷ semicolon ∷ []
    ))
    ≡ Ok (
      type_number,
      Declared (record {
        fields =
            Switch (record { before = 0; bytes = 1; below = 0; width = 7 }) (
            record { name = codes "Button"; pattern = 4; block = 0 } ∷ record { name = codes "StaticText"; pattern = 8; block = 1 } ∷ []
            ) ∷ [];
        blocks = item_of 4 ∷ item_of 8 ∷ [];
      }),
      [],
    )
unfolding statement type_read declared marked named bracketed constant field_read integer_read numbers_of numbers_named number_named
    pattern_named bitstring_read switch_read case_read text_read texts_of judged block_judged
items_are = refl

-- byte a, b = -1, c; is refused, since c would be 256; byte a = 'A', b; is not
following_are : (statement (statement_of (
    Word (codes "byte") ∷ Word (codes "a") ∷ comma ∷ Word (codes "b") ∷ equals ∷ Mark 45 ∷ Number 1 ∷ comma ∷ Word (codes "c")
    ∷ semicolon ∷ []
    ))
    ≡ Err (record { line = 1; kind = faults.ConstantOutOfRange }))
    × (statement (statement_of (
    Word (codes "byte") ∷ Word (codes "a") ∷ equals ∷ Literal (codes "A") ∷ comma ∷ Word (codes "b") ∷ semicolon ∷ []
    ))
    ≡ Ok (
      type_number,
      Declared (record {
        fields =
            Run 1 (
            Integer 8 form.Signed (record { name = codes "a"; pattern = 65 } ∷ record { name = codes "b"; pattern = 66 } ∷ []) ∷ []
            ) ∷ [];
        blocks = [];
      }),
      [],
    ))
unfolding statement type_read declared marked named constant field_read integer_read numbers_of numbers_named number_named
    pattern_named judged block_judged
following_are = (refl, refl)

-- type 'TYPE' as 'STR ';
likened_is
    : statement (on_line 1 (Word (codes "type") ∷ Literal (codes "TYPE") ∷ Word (codes "as") ∷ Literal (codes "STR ") ∷ semicolon ∷ []))
    ≡ Ok (type_number, As 0x53545220, [])
unfolding statement type_read likened marked
likened_is = refl

-- what is refused, and on which line: a field without its semicolon; bits that are no whole byte; a string up to the end of the
-- resource with a point after it, which is found once all is read; and a statement that goes no further
refused_are : (statement (
    on_line 1 (Word (codes "type") ∷ Literal (codes "TYPE") ∷ opening ∷ [])
    ++ on_line 2 (Word (codes "point") ∷ []) ++ on_line 3 (closing ∷ semicolon ∷ [])
    )
    ≡ Err (record { line = 3; kind = faults.SemicolonNeeded }))
    × (statement (
    on_line 1 (Word (codes "type") ∷ Literal (codes "TYPE") ∷ opening ∷ [])
    ++ on_line 2 (Word (codes "boolean") ∷ semicolon ∷ []) ++ on_line 3 (closing ∷ semicolon ∷ [])
    )
    ≡ Err (record { line = 3; kind = faults.Unsound fault.PartialBytes }))
    × (statement (
    on_line 1 (Word (codes "type") ∷ Literal (codes "TYPE") ∷ opening ∷ [])
    ++ on_line 2 (Word (codes "string") ∷ semicolon ∷ Word (codes "point") ∷ semicolon ∷ []) ++ on_line 3 (closing ∷ semicolon ∷ [])
    )
    ≡ Err (record { line = 1; kind = faults.Unsound fault.NotLast }))
    × (statement (on_line 1 (Word (codes "type") ∷ Literal (codes "TYPE") ∷ []) ++ on_line 2 (opening ∷ []))
    ≡ Err (record { line = 2; kind = faults.FieldNeeded }))
unfolding statement type_read declared marked field_read integer_read numbers_of string_read text_read texts_of judged block_judged
refused_are = (refl, refl, refl, refl)
