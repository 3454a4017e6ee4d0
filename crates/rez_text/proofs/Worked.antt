-- Worked sources, on the definitions alone.
use Rattle.rez_text.proofs.Cited.{◌≡◌, ℕ, true, false, pos, negsuc, Some, None, Ok, Err, List, [], ◌∷◌, ◌++◌, replicate, codes, refl, ap}
use Rattle.rez_text.proofs.Cited.{digits, Ascii, Utf8, Group, Content, a_ref, StatementFault, Declared, with_type, inside, outside, keeps}
use Rattle.rez_text.proofs.Cited.{ends_last, scope_step, word, type_token, number, string, datum, type_statement, resource_body, mark}
use Rattle.rez_text.proofs.Cited.{bytes_after, remarked, comment, step, between, slash, in_comment, star, line_comment, declaring, body}
use Rattle.rez_text.proofs.Cited.{in_word, after_zero, prefixed, in_number, dollar, hex_string, hex_half, quoted, escape, escape_zero}
use Rattle.rez_text.proofs.Cited.{escape_number, Wrong, Lacking, finish, read, read_roman, read_declarations, read_roman_declarations}
use Rattle.rez_text.proofs.Cited.{stated, read_from, at_line, as_roman, is_coded, Roman, type_literal, statement_head, statement, source_of}
use Rattle.rez_text.proofs.Cited.{Lines, State, no_ref, no_content, unnamed, come_to, with_types, of_text}
use Rattle.rez_text.specs.declared.fault.FaultKind.TheVariants as faults
use Rattle.rez_text.specs.declared.fault.Unread.TheVariants as unread
use Rattle.rez_text.specs.declared.mode.Form.TheVariants as forms
use Rattle.rez_text.specs.declared.mode.Mode.TheVariants as mode
use Rattle.rez_text.specs.declared.mode.Place.TheVariants as place

-- a content of these groups
abbrev of_groups : List Group → Content
of_groups groups = record { area = replicate 240 0; attrs = 0; groups = groups }

-- a type is the number of its four bytes
abbrev str : ℕ
str = 0x53545220

-- a name, a word for the attributes, and more than one line of data
greeting : source_of Ascii (of_groups (record {
  kind = str;
  refs = a_ref (pos 128) (Some (codes "Greeting")) 32 (codes "Hi there, this is") ∷ [];
} ∷ []))
    ≡ codes
    "data 'STR ' (128, \"Greeting\", purgeable) {\n\t$\"4869 2074 6865 7265 2C20 7468 6973 2069\"            /* Hi there, this i */\n\t$\"73\"                                                 /* s */\n};\n\n"
unfolding source_of statement_head type_literal digits lib.Utf8.encode
greeting = refl

-- bytes that are escaped, attributes that have no word, no data; a name of no bytes, all words, and a `*` as text
escapes : source_of Utf8 (of_groups (record {
  kind = 0x41274280;
  refs =
      a_ref (negsuc 32767) (Some (codes "q\"\\" ++ 13 ∷ [])) 129 [] ∷
      a_ref (pos 0) (Some []) 92 (42 ∷ 47 ∷ []) ∷ [];
} ∷ []))
    ≡ codes
    "data 'A\\'B\\0x80' (-32768, \"q\\\"\\\\\\0x0D\", $81) {\n};\n\ndata 'A\\'B\\0x80' (0, \"\", sysheap, locked, protected, preload) {\n\t$\"2A2F\"                                               /* ./ */\n};\n\n"
unfolding source_of statement_head type_literal digits lib.Utf8.encode
escapes = refl

-- a bullet and a control character as text, in both sets of characters
in_utf8 : (source_of Ascii (of_groups (record { kind = str; refs = a_ref (pos 1) None 0 (65 ∷ 0xA5 ∷ 127 ∷ []) ∷ [] } ∷ []))
    ≡ codes "data 'STR ' (1) {\n\t$\"41A5 7F\"" ++ replicate 44 32 ++ codes "/* A.. */\n};\n\n")
    × (source_of Utf8 (of_groups (record { kind = str; refs = a_ref (pos 1) None 0 (65 ∷ 0xA5 ∷ 127 ∷ []) ∷ [] } ∷ []))
    ≡ codes "data 'STR ' (1) {\n\t$\"41A5 7F\"" ++ replicate 44 32 ++ codes "/* A" ++ (0xE2 ∷ 0x80 ∷ 0xA2 ∷ [])
    ++ codes ". */\n};\n\n")
unfolding source_of statement_head type_literal digits lib.Utf8.encode
in_utf8 = (refl, refl)

-- the attributes of the map, and a first byte after the header
remarks : source_of Ascii (record { area = 255 ∷ replicate 239 0; attrs = 128; groups = [] })
    ≡ codes
    "/* map attributes $0080 */\n/* header bytes\n\tFF00 0000 0000 0000 0000 0000 0000 0000\n\t0000 0000 0000 0000 0000 0000 0000 0000\n\t0000 0000 0000 0000 0000 0000 0000 0000\n\t0000 0000 0000 0000 0000 0000 0000 0000\n\t0000 0000 0000 0000 0000 0000 0000 0000\n\t0000 0000 0000 0000 0000 0000 0000 0000\n\t0000 0000 0000 0000 0000 0000 0000 0000\n\t0000 0000 0000 0000 0000 0000 0000 0000\n\t0000 0000 0000 0000 0000 0000 0000 0000\n\t0000 0000 0000 0000 0000 0000 0000 0000\n\t0000 0000 0000 0000 0000 0000 0000 0000\n\t0000 0000 0000 0000 0000 0000 0000 0000\n\t0000 0000 0000 0000 0000 0000 0000 0000\n\t0000 0000 0000 0000 0000 0000 0000 0000\n\t0000 0000 0000 0000 0000 0000 0000 0000\n*/\n"
unfolding source_of
remarks = refl

-- a source as a person writes it: comments, ends of lines, words in another order, digits apart, two types by turns
written : read [] [] (codes
    "// by hand\r\ndata 'STR ' ($80, \"a\", preload, purgeable) /* here */ {\r$\"01 2\n3\" $\"45\"};\ndata 'TEXT'(16,$C1){};data 'STR '(-1){};")
    ≡ Ok (of_groups (
    record {
      kind = str;
      refs =
          a_ref (pos 128) (Some (codes "a")) 36 (1 ∷ 35 ∷ 69 ∷ []) ∷ a_ref (negsuc 0) None 0 [] ∷ [];
    } ∷
    record { kind = 0x54455854; refs = a_ref (pos 16) None 193 [] ∷ [] } ∷ []
    ))
unfolding read read_roman read_declarations read_roman_declarations as_roman is_coded finish step between slash in_comment star line_comment
    declaring body in_word after_zero prefixed in_number dollar hex_string hex_half quoted escape escape_zero escape_number word type_token
    number string datum type_statement resource_body mark comment remarked bytes_after
written = refl

-- words in any case, and words of opposites, which state no bit
words : (read [] [] (codes "DATA 'STR ' (1, APPHEAP, Purgeable, nonPreload) {};") ≡ Ok (of_groups (record {
  kind = str;
  refs = a_ref (pos 1) None 32 [] ∷ [];
} ∷ [])))
    × (read [] [] (codes "Data 'STR ' (1, locked, appheap, nonpurgeable, unlocked, unprotected, nonpreload, unchanged) {};")
    ≡ Ok (of_groups (record { kind = str; refs = a_ref (pos 1) None 16 [] ∷ [] } ∷ [])))
unfolding read read_roman read_declarations read_roman_declarations as_roman is_coded finish step between slash in_comment star line_comment
    declaring body in_word after_zero prefixed in_number dollar hex_string hex_half quoted escape escape_zero escape_number word type_token
    number string datum type_statement resource_body mark comment remarked bytes_after
words = (refl, refl)

-- numbers in each radix; zeros before a decimal number
numbers : (read [] [] (codes "data 'STR ' (0x7f, 0b100100) {};") ≡ Ok (of_groups (record {
  kind = str;
  refs = a_ref (pos 127) None 36 [] ∷ [];
} ∷ [])))
    × (read [] [] (codes "data 'STR ' (-0X8000, 0) {};data 'STR ' (0, 0B1) {};data 'STR ' (010, $04) {};") ≡ Ok (of_groups (record {
      kind = str;
      refs =
          a_ref (negsuc 32767) None 0 [] ∷
          a_ref (pos 0) None 1 [] ∷
          a_ref (pos 10) None 4 [] ∷ [];
    } ∷ [])))
unfolding read read_roman read_declarations read_roman_declarations as_roman is_coded finish step between slash in_comment star line_comment
    declaring body in_word after_zero prefixed in_number dollar hex_string hex_half quoted escape escape_zero escape_number word type_token
    number string datum type_statement resource_body mark comment remarked bytes_after
numbers = (refl, refl)

-- strings are data too, and those side by side are one
strings : read [] [] (codes "data 'STR ' (128) { \"\\0x05\" \"Hello\"$\"0d\" \"\"};") ≡ Ok (of_groups (record {
  kind = str;
  refs = a_ref (pos 128) None 0 (5 ∷ codes "Hello" ++ 13 ∷ []) ∷ [];
} ∷ []))
unfolding read read_roman read_declarations read_roman_declarations as_roman is_coded finish step between slash in_comment star line_comment
    declaring body in_word after_zero prefixed in_number dollar hex_string hex_half quoted escape escape_zero escape_number word type_token
    number string datum type_statement resource_body mark comment remarked bytes_after
strings = refl

-- each escape, in a name, and in a type
all_escapes : read [] []
    (codes "data '\\n\\'\\0x80\\?' (1, \"\\n\\r\\t\\b\\f\\v\\?\\\"\\'\\\\\\0xFE\\0X0b\\$1c\\0b00001101\\0d255\\017\\377\") {};")
    ≡ Ok (of_groups (record {
      kind = 0x0D27807F;
      refs =
          a_ref (pos 1)
          (Some (13 ∷ 10 ∷ 9 ∷ 8 ∷ 12 ∷ 11 ∷ 127 ∷ 34 ∷ 39 ∷ 92 ∷ 254 ∷ 11 ∷ 28 ∷ 13 ∷ 255 ∷ 15 ∷ 255 ∷ [])) 0 [] ∷ [];
    } ∷ []))
unfolding read read_roman read_declarations read_roman_declarations as_roman is_coded finish step between slash in_comment star line_comment
    declaring body in_word after_zero prefixed in_number dollar hex_string hex_half quoted escape escape_zero escape_number word type_token
    number string datum type_statement resource_body mark comment remarked bytes_after
all_escapes = refl

-- comments that state the attributes of the map, and one that states nothing
attributes : (read [] [] (codes "/* map attributes $0080 */") ≡ Ok (record { area = replicate 240 0; attrs = 128; groups = [] }))
    × (read [] [] (codes "/*map attributes $00 80*/") ≡ Ok (record { area = replicate 240 0; attrs = 128; groups = [] }))
    × (read [] [] (codes "/* attributes $0080 */") ≡ Ok (of_groups []))
unfolding read read_roman read_declarations read_roman_declarations as_roman is_coded finish step between slash in_comment star line_comment
    declaring body in_word after_zero prefixed in_number dollar hex_string hex_half quoted escape escape_zero escape_number word type_token
    number string datum type_statement resource_body mark comment remarked bytes_after
attributes = (refl, refl, refl)

-- bits that no stored fork has: resChanged of a resource, mapCompact and mapChanged of the map
cleared : (read [] [] (codes "data 'STR ' (1, 2) {};") ≡ Ok (of_groups (record {
  kind = str;
  refs = a_ref (pos 1) None 0 [] ∷ [];
} ∷ [])))
    × (read [] [] (codes "/* map attributes $00E0 */") ≡ Ok (record { area = replicate 240 0; attrs = 128; groups = [] }))
unfolding read read_roman read_declarations read_roman_declarations as_roman is_coded finish step between slash in_comment star line_comment
    declaring body in_word after_zero prefixed in_number dollar hex_string hex_half quoted escape escape_zero escape_number word type_token
    number string datum type_statement resource_body mark comment remarked bytes_after
cleared = (refl, refl)

-- comments that begin as those which count, and are not them; within a statement no comment counts
remarks_refused : (read [] [] (codes "\n/* map attributes 0080 */") ≡ Err (Wrong 2 faults.NotMapAttributes))
    × (read [] [] (codes "/* map attributes $080 */") ≡ Err (Wrong 1 faults.NotMapAttributes))
    × (read [] [] (codes "/*\nheader bytes\n00\n*/") ≡ Err (Wrong 1 faults.NotHeaderBytes))
    × (read [] [] (codes "data 'STR ' /* map attributes */ (1) {};") ≡ Ok (of_groups (record {
      kind = str;
      refs = a_ref (pos 1) None 0 [] ∷ [];
    } ∷ [])))
unfolding read read_roman read_declarations read_roman_declarations as_roman is_coded finish step between slash in_comment star line_comment
    declaring body in_word after_zero prefixed in_number dollar hex_string hex_half quoted escape escape_zero escape_number word type_token
    number string datum type_statement resource_body mark comment remarked bytes_after
remarks_refused = (refl, refl, refl, refl)

-- each fault, with its line
statements_refused : (read [] [] (codes "data 'STR ' (1) {};\r\nresources") ≡ Err (Wrong 2 faults.NotAStatement))
    × (read [] [] (codes "data 'STR'") ≡ Err (Wrong 1 faults.TypeNeeded))
    × (read [] [] (codes "data 'STR ' 1") ≡ Err (Wrong 1 faults.ParenthesisNeeded))
    × (read [] [] (codes "data 'STR ' (\"a\"") ≡ Err (Wrong 1 faults.IdNeeded))
    × (read [] [] (codes "data 'STR ' (32768)") ≡ Err (Wrong 1 faults.IdOutOfRange))
    × (read [] [] (codes "data 'STR ' (-32769)") ≡ Err (Wrong 1 faults.IdOutOfRange))
    × (read [] [] (codes "data 'STR ' (70000)") ≡ Err (Wrong 1 faults.IdOutOfRange))
    × (read [] [] (codes "data 'STR ' (1, 70000)") ≡ Err (Wrong 1 faults.AttributesOutOfRange))
    × (read [] [] (codes "data 'STR ' (1 2)") ≡ Err (Wrong 1 faults.EndOfArgumentsNeeded))
    × (read [] [] (codes "data 'STR ' (1, fixed)") ≡ Err (Wrong 1 faults.NameOrAttributeNeeded))
    × (read [] [] (codes "data 'STR ' (1, locked,\n \"a\")") ≡ Err (Wrong 2 faults.AttributeNeeded))
    × (read [] [] (codes "data 'STR ' (1, $100)") ≡ Err (Wrong 1 faults.AttributesOutOfRange))
    × (read [] [] (codes "data 'STR ' (1);") ≡ Err (Wrong 1 faults.BraceNeeded))
    × (read [] [] (codes "data 'STR ' (1) {\n1") ≡ Err (Wrong 2 faults.DataNeeded))
    × (read [] [] (codes "data 'STR ' (1) {}\n") ≡ Err (Wrong 1 faults.SemicolonNeeded))
unfolding read read_roman read_declarations read_roman_declarations as_roman is_coded finish step between slash in_comment star line_comment
    declaring body in_word after_zero prefixed in_number dollar hex_string hex_half quoted escape escape_zero escape_number word type_token
    number string datum type_statement resource_body mark comment remarked bytes_after
statements_refused = (refl, refl, refl, refl, refl, refl, refl, refl, refl, refl, refl, refl, refl, refl, refl)

tokens_refused : (read [] [] (codes "data 'STR ' (4294967296") ≡ Err (Wrong 1 faults.NumberOutOfRange))
    × (read [] [] (codes "data 'STR ' (0x)") ≡ Err (Wrong 1 faults.DigitNeeded))
    × (read [] [] (codes "data 'STR ' (1, 0b2)") ≡ Err (Wrong 1 faults.DigitNeeded))
    × (read [] [] (codes "data 'STR ' ($)") ≡ Err (Wrong 1 faults.HexadecimalNeeded))
    × (read [] [] (codes "data 'STR ' (1) { $\"0G\"") ≡ Err (Wrong 1 faults.NotADigit))
    × (read [] [] (codes "data 'STR ' (1) { $\"012\"") ≡ Err (Wrong 1 faults.OddDigits))
    × (read [] [] (codes "data 'STR ' (1, \"a\n") ≡ Err (Wrong 1 faults.OpenString))
    × (read [] [] (codes "data 'STR ' (1) {\r\n$\"01\r\n\r\n") ≡ Err (Wrong 2 faults.OpenString))
    × (read [] [] (codes "data 'STR ' (1, \"\\z\"") ≡ Err (Wrong 1 faults.NotAnEscape))
    × (read [] [] (codes "data 'STR ' (1, \"\\12\"") ≡ Err (Wrong 1 faults.NotAnEscape))
    × (read [] [] (codes "data 'STR ' (1, \"\\0b2\"") ≡ Err (Wrong 1 faults.NotAnEscape))
    × (read [] [] (codes "data 'STR ' (1) {\n\"\\400\"") ≡ Err (Wrong 2 faults.EscapeOutOfRange))
    × (read [] [] (codes "data 'ST\\0d256") ≡ Err (Wrong 1 faults.EscapeOutOfRange))
    × (read [] [] (codes "\n/* a\n\n") ≡ Err (Wrong 2 faults.OpenComment))
unfolding read read_roman read_declarations read_roman_declarations as_roman is_coded finish step between slash in_comment star line_comment
    declaring body in_word after_zero prefixed in_number dollar hex_string hex_half quoted escape escape_zero escape_number word type_token
    number string datum type_statement resource_body mark comment remarked bytes_after
tokens_refused = (refl, refl, refl, refl, refl, refl, refl, refl, refl, refl, refl, refl, refl, refl)

-- statements and directives of Rez that are not read
unread_refused : (read [] [] (codes "change 'STR '") ≡ Err (Wrong 1 (faults.NotRead unread.Change)))
    × (read [] [] (codes "data 'STR ' (1) {};\nDelete 'STR ';") ≡ Err (Wrong 2 (faults.NotRead unread.Delete)))
    × (read [] [] (codes "enum {}") ≡ Err (Wrong 1 (faults.NotRead unread.Enum)))
    × (read [] [] (codes "include \"a\";") ≡ Err (Wrong 1 (faults.NotRead unread.Include)))
    × (read [] [] (codes "#define A 1") ≡ Err (Wrong 1 (faults.NotRead unread.Define)))
    × (read [] [] (codes "#else") ≡ Err (Wrong 1 (faults.NotRead unread.Else)))
    × (read [] [] (codes "#endif") ≡ Err (Wrong 1 (faults.NotRead unread.EndIf)))
    × (read [] [] (codes "#if 1") ≡ Err (Wrong 1 (faults.NotRead unread.If)))
    × (read [] [] (codes "#ifdef A") ≡ Err (Wrong 1 (faults.NotRead unread.IfDefined)))
    × (read [] [] (codes "#ifndef A") ≡ Err (Wrong 1 (faults.NotRead unread.IfNotDefined)))
    × (read [] [] (codes "\n#include \"Types.r\"") ≡ Err (Wrong 2 (faults.NotRead unread.IncludeText)))
    × (read [] [] (codes "#undef A") ≡ Err (Wrong 1 (faults.NotRead unread.Undefine)))
    × (read [] [] (codes "#pragma") ≡ Err (Wrong 1 faults.NotAStatement))
unfolding read read_roman read_declarations read_roman_declarations as_roman is_coded finish step between slash in_comment star line_comment
    declaring body in_word after_zero prefixed in_number dollar hex_string hex_half quoted escape escape_zero escape_number word type_token
    number string datum type_statement resource_body mark comment remarked bytes_after
unread_refused = (refl, refl, refl, refl, refl, refl, refl, refl, refl, refl, refl, refl, refl)

-- a name of 256 bytes
long_name : read [] [] (codes "data 'STR ' (1, \"" ++ replicate 256 97 ++ codes "\")") ≡ Err (Wrong 1 faults.LongName)
unfolding read read_roman read_declarations read_roman_declarations as_roman is_coded finish step between slash in_comment star line_comment
    declaring body in_word after_zero prefixed in_number dollar hex_string hex_half quoted escape escape_zero escape_number word type_token
    number string datum type_statement resource_body mark comment remarked bytes_after
long_name = refl

-- Statements `read`, and the files whose bytes they take.

-- two statements that take a file each, between them one that takes none; fewer files than are named; more than are named
files_taken : (read [] ((1 ∷ 2 ∷ []) ∷ (3 ∷ []) ∷ [])
    (codes "read 'STR ' (1, \"a\", locked) \"one\";\ndata 'STR ' (2) {};\nREAD 'STR ' (3) /* here */ \"t\\'o\" ;")
    ≡ Ok (of_groups (record {
      kind = str;
      refs =
          a_ref (pos 1) (Some (codes "a")) 16 (1 ∷ 2 ∷ []) ∷
          a_ref (pos 2) None 0 [] ∷
          a_ref (pos 3) None 0 (3 ∷ []) ∷ [];
    } ∷ [])))
    × (read [] [] (codes "read 'STR ' (1) \"one\"; read 'STR ' (3) \"\";") ≡ Err (Lacking (codes "one" ∷ [] ∷ [])))
    × (read [] ((1 ∷ []) ∷ []) (codes "read 'STR ' (1) \"one\"; read 'STR ' (3) \"two\";") ≡ Err (Lacking (codes "two" ∷ [])))
    × (read [] ((1 ∷ []) ∷ []) (codes "data 'STR ' (1) {};")
    ≡ Ok (of_groups (record { kind = str; refs = a_ref (pos 1) None 0 [] ∷ [] } ∷ [])))
unfolding read read_roman read_declarations read_roman_declarations as_roman is_coded finish step between slash in_comment star line_comment
    declaring body in_word after_zero prefixed in_number dollar hex_string hex_half quoted escape escape_zero escape_number word type_token
    number string datum type_statement resource_body mark comment remarked bytes_after
files_taken = (refl, refl, refl, refl)

-- what is wrong in such a statement; a fault comes before files that are lacking
files_refused : (read [] [] (codes "read 'STR ' (1) {};") ≡ Err (Wrong 1 faults.FileNeeded))
    × (read [] [] (codes "read 'STR ' (1)\n;") ≡ Err (Wrong 2 faults.FileNeeded))
    × (read [] [] (codes "read 'STR ' (1)") ≡ Err (Wrong 1 faults.FileNeeded))
    × (read [] [] (codes "data 'STR ' (1) \"one\"") ≡ Err (Wrong 1 faults.BraceNeeded))
    × (read [] [] (codes "read 'STR ' (1) \"one\" \"two\"") ≡ Err (Wrong 1 faults.SemicolonNeeded))
    × (read [] [] (codes "read 'STR ' (1) \"one\";\nchange") ≡ Err (Wrong 2 (faults.NotRead unread.Change)))
unfolding read read_roman read_declarations read_roman_declarations as_roman is_coded finish step between slash in_comment star line_comment
    declaring body in_word after_zero prefixed in_number dollar hex_string hex_half quoted escape escape_zero escape_number word type_token
    number string datum type_statement resource_body mark comment remarked bytes_after
files_refused = (refl, refl, refl, refl, refl, refl)

-- Texts in UTF-8.

-- without a comment of the coding, and without a byte order mark, a name has its bytes as they are
uncoded : read [] [] (codes "data 'STR ' (1, \"" ++ (0xE2 ∷ 0x80 ∷ 0xA2 ∷ []) ++ codes "\") {};")
    ≡ Ok (of_groups (record { kind = str; refs = a_ref (pos 1) (Some (0xE2 ∷ 0x80 ∷ 0xA2 ∷ [])) 0 [] ∷ [] } ∷ []))
unfolding read read_roman read_declarations read_roman_declarations as_roman is_coded finish step between slash in_comment star line_comment
    declaring body in_word after_zero prefixed in_number dollar hex_string hex_half quoted escape escape_zero escape_number word type_token
    number string datum type_statement resource_body mark comment remarked bytes_after
uncoded = refl

-- bytes from 0x80 on as they are, in a name and beside data
in_roman : statement Roman str (a_ref (pos 1) (Some (0xA5 ∷ 127 ∷ [])) 0 (42 ∷ 0xA5 ∷ 127 ∷ []))
    ≡ codes "data 'STR ' (1, \"" ++ (0xA5 ∷ []) ++ codes "\\0x7F\") {\n\t$\"2AA5 7F\"" ++ replicate 44 32 ++ codes "/* ." ++ (0xA5 ∷ [])
    ++ codes ". */\n};\n\n"
unfolding statement_head type_literal digits
in_roman = refl

-- The text of a statement, and what it means.

-- where a text ends: braces, semicolons and quotes in strings and comments do not count, and a hexadecimal string may go over lines
scopes : (keeps 125 1 inside (codes " { \"}\\\"}\", '}' }; /* } */ $\"0}\n\" // }\n") ≡ true)
    × (keeps 125 1 inside (codes "{ 1; };") ≡ true)
    × (keeps 125 1 inside (codes "}") ≡ false)
    × (keeps 125 1 inside (codes "{") ≡ false)
    × (keeps 125 1 inside (codes "\"") ≡ false)
    × (keeps 125 1 inside (codes "\"\n") ≡ true)
    × (ends_last 59 0 outside (codes " 'A' { byte = ';'; /* ; */ char $\";\n\"; \";\" };") ≡ true)
    × (ends_last 59 0 outside (codes " 'A' as 'B'; ") ≡ false)
    × (ends_last 59 0 outside (codes " 'A' { byte; }") ≡ false)
unfolding scope_step
scopes = (refl, refl, refl, refl, refl, refl, refl, refl, refl)

-- statements that do not end; among declarations no other statement may stand
statements_unended : (read [] [] (codes "\ntype 'STR ' {\n;\n") ≡ Err (Wrong 2 faults.OpenStatement))
    × (read [] [] (codes "type") ≡ Err (Wrong 1 faults.OpenStatement))
    × (read [] [] (codes "resource 'STR '\n(1) {\n{}") ≡ Err (Wrong 2 faults.OpenStatement))
    × (read_declarations [] (codes "type 'STR ' { \"") ≡ Err (1, faults.OpenStatement))
    × (read_declarations [] (codes "\ndata 'STR '") ≡ Err (2, faults.OnlyDeclarations))
    × (read_declarations [] (codes "resource 'STR '") ≡ Err (1, faults.OnlyDeclarations))
    × (read_declarations [] (codes "read 'STR '") ≡ Err (1, faults.OnlyDeclarations))
    × (read_declarations [] (codes "#include \"a\"") ≡ Err (1, faults.NotRead unread.IncludeText))
    × (read_declarations [] (codes "types") ≡ Err (1, faults.NotAStatement))
    × (read_declarations [] (codes "/* map attributes */") ≡ Ok [])
unfolding read read_roman read_declarations read_roman_declarations as_roman is_coded finish step between slash in_comment star line_comment
    declaring body in_word after_zero prefixed in_number dollar hex_string hex_half quoted escape escape_zero escape_number word type_token
    number string datum type_statement resource_body mark comment remarked bytes_after scope_step
statements_unended = (refl, refl, refl, refl, refl, refl, refl, refl, refl, refl)

-- a fault in the text of a statement has its line there
within_text : (types : List Declared) (fault : StatementFault) → with_type (codes "type 'B'\n;") types ≡ Err (2, fault)
    → read types [] (codes "\ntype 'B'\n;") ≡ Err (Wrong 3 (faults.Within 2 fault))
unfolding read read_roman read_declarations read_roman_declarations as_roman is_coded finish step between slash in_comment star line_comment
    declaring body in_word after_zero prefixed in_number dollar hex_string hex_half quoted escape escape_zero escape_number word type_token
    number string datum type_statement resource_body mark comment remarked bytes_after scope_step
within_text types fault e =
    let at : Lines = record { line = 3; last = 59; begun = 2 } in
    let s : State = record {
      mode = mode.Between;
      place = place.Outside;
      gathered = codes "type 'B'\n;";
      kind = 0;
      draft = no_ref;
      said = record { content = no_content; types = types; form = forms.Data; files = unnamed [] };
    } in
    ap (λ r. stated 0 (at_line at
    (of_text r (λ more. come_to place.Outside (record s { said = with_types more s.said })))
    (λ t. read_from at t []))) e
