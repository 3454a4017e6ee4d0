use Rattle.std.specs.Prelude.{ℕ, ◌-◌, ◌%◌, ◌^◌, ◌==◌, nat_lt, nat_le, Bool, true, false, ◌||◌, ◌&&◌}
use Rattle.std.specs.Prelude.{Option, Some, None, Result, Ok, Err, List, [], ◌∷◌, ◌++◌, length, if◌then◌else◌}
use Rattle.rez_tokens.specs.Tokens.{Token, Lexeme, Number, Mark, Filled}
use Rattle.rez_types.specs.Values.{Value}
use Rattle.rez_values.specs.declared.fault.ValueFault.{ValueFault}
use Rattle.rez_values.specs.declared.fault.ValueFault.TheVariants as faults

-- The values that the tokens of a statement `resource` state: how far the tokens are read, and what values have in common.

-- A count of a block: its place among the values, and its bits.
pub record CountPlace : Type 0 where
  pub place : ℕ
  pub width : ℕ

-- How far the tokens are read: those that follow, the line of the last of all, the values so far, the counts of the block so far,
-- and whether something was stated since the last opening brace.
pub record Taking : Type 0 where
  pub tokens : List Token
  pub last : ℕ
  pub values : List Value
  pub counts : List CountPlace
  pub stated : Bool

-- What is wrong, and on which line.
abbrev pub Fault : Type 0
Fault = ℕ × ValueFault

infixl 10 ◌>>=◌
-- One step after another; a fault of the first stays.
abbrev pub ◌>>=◌ : {A B : Type 0} → Result A Fault → (A → Result B Fault) → Result B Fault
(Ok x) >>= f = f x
(Err e) >>= f = Err e

-- The bytes of a fill stand here.
abbrev pub is_filled : Lexeme → Bool
is_filled (Filled bytes) = true
is_filled l = false

-- The tokens after the bytes of fills that stand here: these are passed over wherever no fill is.
abbrev pub bare : List Token → List Token
bare [] = []
bare (t ∷ tokens) = if is_filled t.lexeme then bare tokens else t ∷ tokens

-- The line of the next token; at the end of the tokens, that of the last one.
abbrev pub line_at : List Token → ℕ → ℕ
line_at [] last = last
line_at (t ∷ tokens) last = t.line

abbrev pub line : Taking → ℕ
line s = line_at (bare s.tokens) s.last

-- The tokens can't go on so.
abbrev pub refused : {A : Type 0} → ValueFault → Taking → Result A Fault
refused kind s = Err (line s, kind)

-- What the next token is; a mark of 0 where none follows.
abbrev pub lexeme_at : List Token → Lexeme
lexeme_at [] = Mark 0
lexeme_at (t ∷ tokens) = t.lexeme

abbrev pub lexeme : Taking → Lexeme
lexeme s = lexeme_at (bare s.tokens)

-- The next token is passed over.
abbrev pub tokens_after : List Token → List Token
tokens_after [] = []
tokens_after (t ∷ tokens) = tokens

abbrev pub passed : Taking → Taking
passed s = record s { tokens = tokens_after (bare s.tokens) }

-- The very next token is passed over, also where the bytes of a fill stand.
abbrev pub past : Taking → Taking
past s = record s { tokens = tokens_after s.tokens }

-- The next token is this mark.
abbrev pub is_mark_in : ℕ → Lexeme → Bool
is_mark_in mark (Mark b) = b == mark
is_mark_in mark l = false

abbrev pub is_mark : ℕ → Taking → Bool
is_mark mark s = is_mark_in mark (lexeme s)

-- This mark has to stand here.
unfoldable pub marked : ℕ → ValueFault → Taking → Result Taking Fault
marked mark kind s = if is_mark mark s then Ok (passed s) else refused kind s

-- A comma or a semicolon stands here.
abbrev pub is_separator_in : Lexeme → Bool
is_separator_in l = is_mark_in 44 l || is_mark_in 59 l

abbrev pub is_separator : Taking → Bool
is_separator s = is_separator_in (lexeme s)

-- Something, or nothing yet, was stated since the last opening brace.
abbrev pub with_stated : Bool → Taking → Taking
with_stated stated s = record s { stated = stated }

-- Something is stated here: unless it is the first, a separator has to stand before it.
unfoldable pub separated : ValueFault → Taking → Result Taking Fault
separated kind s =
    if s.stated then (if is_separator s then Ok (passed s) else refused kind s) else Ok (with_stated true s)

-- After the last that is stated a separator may stand.
unfoldable pub trailed : Taking → Taking
trailed s = if s.stated && is_separator s then passed s else s

-- A brace opens: nothing was stated after it yet.
unfoldable pub opened : ValueFault → Taking → Result Taking Fault
opened kind s = marked 123 kind s >>= λ t. Ok (with_stated false t)

-- The brace closes: what stands in it was stated.
unfoldable pub closed : ValueFault → Taking → Result Taking Fault
closed kind s = marked 125 kind (trailed s) >>= λ t. Ok (with_stated true t)

-- One more value. A resource has at most 2 ^ 20 of them.
unfoldable pub put : Value → Taking → Result Taking Fault
put v s =
    if nat_lt (length s.values) 1048576 then Ok (record s { values = s.values ++ v ∷ [] }) else refused faults.ManyValues s

-- The number of a token.
abbrev pub number_in : Lexeme → Option ℕ
number_in (Number n) = Some n
number_in l = None

-- The bits of a number after a minus, in so many bits.
abbrev pub negated : ℕ → ℕ → ℕ
negated width n = (2 ^ width - n) % 2 ^ width

-- A number of so many bits, or its opposite after a minus: from -2 ^ (width - 1) to 2 ^ width - 1.
abbrev pub negative_by : ℕ → ValueFault → Option ℕ → Taking → Result (ℕ × Taking) Fault
negative_by width kind None s = refused kind s
negative_by width kind (Some n) s =
    if nat_lt (2 ^ (width - 1)) n then refused (faults.NumberOutOfRange width) s else Ok (negated width n, passed s)

abbrev pub positive_by : ℕ → ValueFault → Option ℕ → Taking → Result (ℕ × Taking) Fault
positive_by width kind None s = refused kind s
positive_by width kind (Some n) s =
    if nat_le (2 ^ width) n then refused (faults.NumberOutOfRange width) s else Ok (n, passed s)

unfoldable pub number : ℕ → ValueFault → Taking → Result (ℕ × Taking) Fault
number width kind s =
    if is_mark 45 s then negative_by width kind (number_in (lexeme (passed s))) (passed s)
    else positive_by width kind (number_in (lexeme s)) s
