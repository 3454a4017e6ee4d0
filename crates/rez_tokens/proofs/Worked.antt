-- Worked texts and their tokens, on the definitions alone.
use Rattle.std.proofs.Common.{◌≡◌, ℕ, Ok, Err, List, [], ◌∷◌, ◌++◌, replicate, codes, refl}
use Rattle.rez_tokens.specs.declared.fault.TokenFault.TheVariants as faults
use Rattle.rez_tokens.specs.Tokens.{Lexeme, Token, Word, Number, Text, Hex, Literal, Function, Mark, Filled}
use Rattle.rez_tokens.specs.Digits.{filled, fill_word, fill_digits}
use Rattle.rez_tokens.specs.Lexing.{step, between, slash, in_comment, comment, star, line_comment, in_name, number, prefixed}
use Rattle.rez_tokens.specs.Lexing.{zero_begun, dollar, dollars, hex_string, hex_half, quoted, escape_number, escape, escape_zero}
use Rattle.rez_tokens.specs.Reading.{step_on, finished, lexed}

-- a token
abbrev at : ℕ → Lexeme → Token
at line l = record { line = line; lexeme = l }

-- a text of a single token
abbrev alone : Lexeme → List Token
alone l = at 1 l ∷ []

-- a declaration, as a person writes it
a_type : lexed (codes "type 'STR#' {\n\tinteger = $$CountOf(a_1) - 1; // a line\r\n} /* all */ ;") ≡ Ok (
    at 1 (Word (codes "type")) ∷
    at 1 (Literal (codes "STR#")) ∷
    at 1 (Mark 123) ∷
    at 2 (Word (codes "integer")) ∷
    at 2 (Mark 61) ∷
    at 2 (Function (codes "CountOf")) ∷
    at 2 (Mark 40) ∷
    at 2 (Word (codes "a_1")) ∷
    at 2 (Mark 41) ∷
    at 2 (Mark 45) ∷
    at 2 (Number 1) ∷
    at 2 (Mark 59) ∷
    at 3 (Mark 125) ∷
    at 3 (Mark 59) ∷
    []
    )
unfolding lexed step_on finished step between slash in_comment comment star line_comment in_name number prefixed zero_begun dollar
    dollars hex_string hex_half quoted escape_number escape escape_zero filled fill_word fill_digits
a_type = refl

-- numbers of each kind, and the greatest ones
numbers : (lexed (codes "010 $1f 0X2A 0b101 0")
    ≡ Ok (at 1 (Number 10) ∷ at 1 (Number 31) ∷ at 1 (Number 42) ∷ at 1 (Number 5) ∷ at 1 (Number 0) ∷ []))
    × (lexed (codes "4294967295") ≡ Ok (alone (Number 4294967295)))
    × (lexed (codes "$FFFFFFFF") ≡ Ok (alone (Number 4294967295)))
    × (lexed (codes "4294967296") ≡ Err (1, faults.NumberOutOfRange))
    × (lexed (codes "1 " ++ 10 ∷ codes "$100000000") ≡ Err (2, faults.NumberOutOfRange))
    × (lexed (codes "12ab/3") ≡ Ok (at 1 (Number 12) ∷ at 1 (Word (codes "ab")) ∷ at 1 (Mark 47) ∷ at 1 (Number 3) ∷ []))
unfolding lexed step_on finished step between slash in_comment comment star line_comment in_name number prefixed zero_begun dollar
    dollars hex_string hex_half quoted escape_number escape escape_zero filled fill_word fill_digits
numbers = (refl, refl, refl, refl, refl, refl)

-- each escape, in both kinds of quotes; a byte from 128 on; an apostrophe in a string
escapes : (lexed (34 ∷ codes "\\n\\r\\t\\b\\f\\v\\?\\\"\\'\\\\" ++ 34 ∷ [])
    ≡ Ok (alone (Text (13 ∷ 10 ∷ 9 ∷ 8 ∷ 12 ∷ 11 ∷ 127 ∷ 34 ∷ 39 ∷ 92 ∷ []))))
    × (lexed (39 ∷ codes "\\0x4A\\0XfF\\$20\\0b01000001\\0d065\\101\\060" ++ 39 ∷ [])
    ≡ Ok (alone (Literal (74 ∷ 255 ∷ 32 ∷ 65 ∷ 65 ∷ 65 ∷ 48 ∷ []))))
    × (lexed (34 ∷ 39 ∷ 200 ∷ 34 ∷ []) ≡ Ok (alone (Text (39 ∷ 200 ∷ []))))
    × (lexed (34 ∷ codes "\\0d256" ++ 34 ∷ []) ≡ Err (1, faults.EscapeOutOfRange))
    × (lexed (34 ∷ codes "\\400" ++ 34 ∷ []) ≡ Err (1, faults.EscapeOutOfRange))
    × (lexed (34 ∷ codes "\\q" ++ 34 ∷ []) ≡ Err (1, faults.NotAnEscape))
    × (lexed (34 ∷ codes "\\0x4" ++ 34 ∷ []) ≡ Err (1, faults.NotAnEscape))
unfolding lexed step_on finished step between slash in_comment comment star line_comment in_name number prefixed zero_begun dollar
    dollars hex_string hex_half quoted escape_number escape escape_zero filled fill_word fill_digits
escapes = (refl, refl, refl, refl, refl, refl, refl)

-- comments that state the bytes of a fill, and such as do not
fills : (lexed (codes "/* fill $6B */") ≡ Ok (alone (Filled (107 ∷ []))))
    × (lexed (codes "/*fill$ 6 b 0 0*/") ≡ Ok (alone (Filled (107 ∷ 0 ∷ []))))
    × (lexed (10 ∷ codes "/**/ /* fill" ++ 10 ∷ codes "$00 */ a") ≡ Ok (at 2 (Filled (0 ∷ [])) ∷ at 3 (Word (codes "a")) ∷ []))
    × (lexed (codes "/* fill $ */ /* fill $6 */ /* fill 00 */ /* Fill $00 */ /* filled $00 */ // fill $00") ≡ Ok [])
    × (lexed (codes "/* fill $" ++ replicate 512 48 ++ codes "*/") ≡ Ok (alone (Filled (replicate 256 0))))
    × (lexed (codes "/* fill $" ++ replicate 514 48 ++ codes "*/") ≡ Ok [])
unfolding lexed step_on finished step between slash in_comment comment star line_comment in_name number prefixed zero_begun dollar
    dollars hex_string hex_half quoted escape_number escape escape_zero filled fill_word fill_digits
fills = (refl, refl, refl, refl, refl, refl)

-- hexadecimal strings, and strings that are none
strings : (lexed (codes "$\"48 6" ++ 10 ∷ codes "5\" $\"\"") ≡ Ok (at 1 (Hex (72 ∷ 101 ∷ [])) ∷ at 2 (Hex []) ∷ []))
    × (lexed (codes "$\"486\"") ≡ Err (1, faults.OddDigits))
    × (lexed (10 ∷ 13 ∷ codes "$\"4G\"") ≡ Err (3, faults.NotADigit))
    × (lexed (13 ∷ 10 ∷ codes "$\"48" ++ 10 ∷ 10 ∷ []) ≡ Err (2, faults.OpenString))
    × (lexed (codes "\"a" ++ 13 ∷ codes "b\"") ≡ Err (1, faults.OpenString))
    × (lexed (codes "'a") ≡ Err (1, faults.OpenString))
    × (lexed (10 ∷ codes "/* a *" ++ 10 ∷ []) ≡ Err (2, faults.OpenComment))
    × (lexed (codes "$g") ≡ Err (1, faults.HexadecimalNeeded))
    × (lexed (codes "$$1") ≡ Err (1, faults.NameNeeded))
    × (lexed (codes "0xg") ≡ Err (1, faults.DigitNeeded))
    × (lexed (codes "0b2") ≡ Err (1, faults.DigitNeeded))
unfolding lexed step_on finished step between slash in_comment comment star line_comment in_name number prefixed zero_begun dollar
    dollars hex_string hex_half quoted escape_number escape escape_zero filled fill_word fill_digits
strings = (refl, refl, refl, refl, refl, refl, refl, refl, refl, refl, refl)
