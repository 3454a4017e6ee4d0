use Rattle.std.specs.Prelude.{ℕ, ◌-◌, ◌%◌, ◌^◌, ◌==◌, nat_lt, nat_le, Bool, false, ◌||◌}
use Rattle.std.specs.Prelude.{Option, Some, None, Result, Ok, Err, List, [], ◌∷◌, length, if◌then◌else◌}
use Rattle.byteorder.specs.Endian.{big_number}
use Rattle.rez_declarations.specs.declared.type_fault.TypeFault.{TypeFault}
use Rattle.rez_declarations.specs.declared.type_fault.FaultKind.{FaultKind}
use Rattle.rez_declarations.specs.declared.type_fault.FaultKind.TheVariants as faults
use Rattle.rez_types.specs.Fields.{Field}
use Rattle.rez_tokens.specs.Tokens.{Token, Lexeme, Word, Number, Literal, Mark}
use Rattle.rez_declarations.specs.Sound.{is_name}

-- Declarations are read token by token: what the parts of a field have in common.

-- How far the tokens are read: those that follow, the line of the last one before them, the blocks so far, and how many fields
-- were read.
pub record Parsing : Type 0 where
  pub tokens : List Token
  pub line : ℕ
  pub blocks : List (List Field)
  pub fields : ℕ

infixl 10 ◌>>=◌
-- One step after another; a fault of the first stays.
abbrev pub ◌>>=◌ : {A B : Type 0} → Result A TypeFault → (A → Result B TypeFault) → Result B TypeFault
(Ok x) >>= f = f x
(Err e) >>= f = Err e

-- The line of the next token; at the end of the tokens, that of the last one.
abbrev pub line_at : List Token → ℕ → ℕ
line_at [] line = line
line_at (t ∷ tokens) line = t.line

-- The tokens can't go on so.
abbrev pub refused : {A : Type 0} → FaultKind → Parsing → Result A TypeFault
refused kind s = Err (record { line = line_at s.tokens s.line; kind = kind })

-- What the next token is; a mark of 0 where none follows.
abbrev pub lexeme_at : List Token → Lexeme
lexeme_at [] = Mark 0
lexeme_at (t ∷ tokens) = t.lexeme

abbrev pub lexeme : Parsing → Lexeme
lexeme s = lexeme_at s.tokens

-- The tokens after the next one.
abbrev pub tokens_after : List Token → List Token
tokens_after [] = []
tokens_after (t ∷ tokens) = tokens

abbrev pub passed : Parsing → Parsing
passed s = record s { tokens = tokens_after s.tokens; line = line_at s.tokens s.line }

-- The next token is this mark.
abbrev pub is_mark_in : ℕ → Lexeme → Bool
is_mark_in mark (Mark b) = b == mark
is_mark_in mark l = false

abbrev pub is_mark : ℕ → Parsing → Bool
is_mark mark s = is_mark_in mark (lexeme s)

-- This mark has to stand here.
unfoldable pub marked : ℕ → FaultKind → Parsing → Result Parsing TypeFault
marked mark kind s = if is_mark mark s then Ok (passed s) else refused kind s

-- The word of a token.
abbrev pub word_in : Lexeme → Option (List ℕ)
word_in (Word bytes) = Some bytes
word_in l = None

-- The next token is this word, in any case.
abbrev pub is_word_in : List ℕ → Lexeme → Bool
is_word_in word (Word bytes) = is_name word bytes
is_word_in word l = false

-- A name of at most 63 letters.
abbrev pub named_by : Option (List ℕ) → Parsing → Result (List ℕ × Parsing) TypeFault
named_by None s = refused faults.NameNeeded s
named_by (Some bytes) s = if nat_lt 63 (length bytes) then refused faults.LongName s else Ok (bytes, passed s)

unfoldable pub named : Parsing → Result (List ℕ × Parsing) TypeFault
named s = named_by (word_in (lexeme s)) s

-- The number of a token.
abbrev pub number_in : Lexeme → Option ℕ
number_in (Number n) = Some n
number_in l = None

-- A number from `least` to `most`.
abbrev pub between : ℕ → ℕ → FaultKind → Option ℕ → Parsing → Result (ℕ × Parsing) TypeFault
between least most kind None s = refused faults.NumberNeeded s
between least most kind (Some n) s = if nat_lt n least || nat_lt most n then refused kind s else Ok (n, passed s)

-- Such a number in brackets.
unfoldable pub bracketed : ℕ → FaultKind → Parsing → Result (ℕ × Parsing) TypeFault
bracketed most kind s =
    marked 91 faults.BracketNeeded s
    >>= λ t. between 1 most kind (number_in (lexeme t)) t
    >>= λ (n, u). marked 93 faults.BracketNeeded u >>= λ v. Ok (n, v)

-- The bits of a number after a minus, in so many bits.
abbrev pub negated : ℕ → ℕ → ℕ
negated width n = (2 ^ width - n) % 2 ^ width

-- A number of so many bits, or its opposite after a minus: from -2 ^ (width - 1) to 2 ^ width - 1.
abbrev pub negative_by : ℕ → Option ℕ → Parsing → Result (ℕ × Parsing) TypeFault
negative_by width None s = refused faults.ConstantNeeded s
negative_by width (Some n) s =
    if nat_lt (2 ^ (width - 1)) n then refused faults.ConstantOutOfRange s else Ok (negated width n, passed s)

-- The number of up to four characters.
abbrev pub literal_number : List ℕ → Option ℕ
literal_number bytes = if nat_lt 4 (length bytes) then None else Some (big_number (length bytes) bytes)

-- The number of a token that states a constant: a number, or up to four characters.
abbrev pub constant_in : Lexeme → Option ℕ
constant_in (Number n) = Some n
constant_in (Literal bytes) = literal_number bytes
constant_in l = None

abbrev pub positive_by : ℕ → Option ℕ → Parsing → Result (ℕ × Parsing) TypeFault
positive_by width None s = refused faults.ConstantNeeded s
positive_by width (Some n) s =
    if nat_le (2 ^ width) n then refused faults.ConstantOutOfRange s else Ok (n, passed s)

-- A constant of so many bits.
unfoldable pub constant : ℕ → Parsing → Result (ℕ × Parsing) TypeFault
constant width s =
    if is_mark 45 s then negative_by width (number_in (lexeme (passed s))) (passed s)
    else positive_by width (constant_in (lexeme s)) s
