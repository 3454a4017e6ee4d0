use Rattle.std.specs.Prelude.{ℕ, zero, suc, ◌+◌, ◌*◌, ◌^◌, ◌==◌, nat_le, Bool, true, false, ◌&&◌, ◌||◌, codes, unwrap_or, option_and_then}
use Rattle.std.specs.Prelude.{Option, Some, None, Result, Ok, Err, List, [], ◌∷◌, ◌++◌, length, if◌then◌else◌}
use Rattle.byteorder.specs.Endian.{big_number}
use Rattle.rez_declarations.specs.declared.type_fault.TypeFault.{TypeFault}
use Rattle.rez_declarations.specs.declared.type_fault.FaultKind.TheVariants as faults
use Rattle.rez_declarations.specs.declared.unsound.Unsound.{Unsound}
use Rattle.rez_declarations.specs.declared.unsound.Unsound.TheVariants as unsound
use Rattle.rez_types.specs.declared.declaration.Form.{Form}
use Rattle.rez_types.specs.declared.declaration.Form.TheVariants as form
use Rattle.rez_types.specs.declared.declaration.Boundary.TheVariants as boundary
use Rattle.rez_types.specs.declared.declaration.TextEnd.{TextEnd}
use Rattle.rez_types.specs.declared.declaration.TextEnd.TheVariants as end
use Rattle.rez_declarations.specs.declared.keyword.Modifier.{Modifier}
use Rattle.rez_declarations.specs.declared.keyword.Modifier.TheVariants as modifier
use Rattle.rez_declarations.specs.declared.keyword.Kind.{Kind}
use Rattle.rez_declarations.specs.declared.keyword.Kind.TheVariants as kind
use Rattle.rez_declarations.specs.declared.modified.Modified.{Modified}
use Rattle.rez_types.specs.Fields.{NamedNumber, NamedText, Integer, Constant, Count, KeyPlace, Case}
use Rattle.rez_types.specs.Fields.{Field, Align, Text, Point, Rect, Switch, Declaration}
use Rattle.rez_tokens.specs.Tokens.{Token, Lexeme}
use Rattle.rez_tokens.specs.Tokens as token
use Rattle.rez_declarations.specs.Sound.{is_name, Key, key_after, fault_of}
use Rattle.rez_declarations.specs.Drafting.{Draft, no_draft, with_field, whole, with_part, with_fill, with_count, with_array, closed}
use Rattle.rez_declarations.specs.Parsing.{Parsing, ◌>>=◌, line_at, refused, lexeme, passed, is_mark, marked, word_in, is_word_in, named}
use Rattle.rez_declarations.specs.Parsing.{bracketed, between, number_in, constant}

-- The fields of a declaration, in the grammar of Rez: Macintosh Programmer's Workshop: Building and Managing Programs in MPW,
-- chapter Rez.

-- What a draft comes to, or what is wrong with it here.
abbrev pub drafted_at : {A : Type 0} → Result A Unsound → Parsing → Result (A × Parsing) TypeFault
drafted_at (Ok x) s = Ok (x, s)
drafted_at (Err fault) s = refused (faults.Unsound fault) s

-- The value of a named constant: after `=`, or one more than that of the one before it.
unfoldable pub pattern_named : ℕ → ℕ → Parsing → Result (ℕ × Parsing) TypeFault
pattern_named width following s =
    if is_mark 61 s then constant width (passed s)
    else if nat_le (2 ^ width) following then refused faults.ConstantOutOfRange s
    else Ok (following, s)

-- A named constant.
unfoldable pub number_named : ℕ → ℕ → Parsing → Result (NamedNumber × Parsing) TypeFault
number_named width following s =
    named s
    >>= λ (name, t). pattern_named width following t >>= λ (pattern, u). Ok (record { name = name; pattern = pattern }, u)

-- Named constants, with commas between them: at most n.
unfoldable pub numbers_named : ℕ → ℕ → ℕ → List NamedNumber → Parsing → Result (List NamedNumber × Parsing) TypeFault
numbers_named zero width following constants s = refused faults.ManyConstants s
numbers_named (suc n) width following constants s =
    number_named width following s
    >>= λ (number, t).
    if is_mark 44 t then numbers_named n width (number.pattern + 1) (constants ++ number ∷ []) (passed t)
    else Ok (constants ++ number ∷ [], t)

-- The named constants of an integer, where it has some.
unfoldable pub numbers_of : ℕ → Parsing → Result (List NamedNumber × Parsing) TypeFault
numbers_of width s = elim (word_in (lexeme s)) [ None ↦ Ok ([], s) | Some word ↦ numbers_named 256 width 0 [] s ]

-- The bytes of a string.
abbrev pub string_part : Lexeme → Option (List ℕ)
string_part (token.Text bytes) = Some bytes
string_part (token.Hex bytes) = Some bytes
string_part l = None

-- The strings that follow one another: together they are one.
abbrev pub string_on : ℕ → List ℕ → Parsing → List ℕ × Parsing
string_on zero bytes s = (bytes, s)
string_on (suc n) bytes s =
    elim (string_part (lexeme s)) [ None ↦ (bytes, s) | Some more ↦ string_on n (bytes ++ more) (passed s) ]

unfoldable pub string_in : Parsing → Result (List ℕ × Parsing) TypeFault
string_in s = elim (string_part (lexeme s)) [
  | None ↦ refused faults.StringNeeded s
  | Some more ↦ Ok (string_on (length s.tokens) [] s)
]

-- A named string.
unfoldable pub text_named : Parsing → Result (NamedText × Parsing) TypeFault
text_named s =
    named s
    >>= λ (name, t). marked 61 faults.StringNeeded t
    >>= λ u. string_in u >>= λ (text, v). Ok (record { name = name; text = text }, v)

-- Named strings, with commas between them: at most n.
unfoldable pub texts_named : ℕ → List NamedText → Parsing → Result (List NamedText × Parsing) TypeFault
texts_named zero constants s = refused faults.ManyConstants s
texts_named (suc n) constants s =
    text_named s
    >>= λ (text, t).
    if is_mark 44 t then texts_named n (constants ++ text ∷ []) (passed t) else Ok (constants ++ text ∷ [], t)

unfoldable pub texts_of : Parsing → Result (List NamedText × Parsing) TypeFault
texts_of s = elim (word_in (lexeme s)) [ None ↦ Ok ([], s) | Some word ↦ texts_named 256 [] s ]

-- The name of an array, in parentheses.
unfoldable pub name_in_parentheses : Parsing → Result (List ℕ × Parsing) TypeFault
name_in_parentheses s =
    marked 40 faults.ParenthesisNeeded s
    >>= λ t. named t >>= λ (name, u). marked 41 faults.ParenthesisNeeded u >>= λ v. Ok (name, v)

-- `- 1` may stand after a count.
unfoldable pub less_one : Parsing → Result (Bool × Parsing) TypeFault
less_one s =
    if is_mark 45 s
    then (between 1 1 faults.OneNeeded (number_in (lexeme (passed s))) (passed s) >>= λ (one, t). Ok (true, t))
    else Ok (false, s)

-- A count, after `=`: `$$CountOf (NAME)`, or that `- 1`.
unfoldable pub count_read : ℕ → List ℕ → Draft → Parsing → Result (Draft × Parsing) TypeFault
count_read width function d s =
    if is_name function (codes "CountOf")
    then (name_in_parentheses (passed s)
    >>= λ (name, t). less_one t >>= λ (is_less_one, u). drafted_at (with_count name (Count width is_less_one) d) u)
    else refused faults.CountOfNeeded s

-- What stands after `=`: a count, or a constant.
abbrev pub fixed_read : Lexeme → ℕ → Bool → Draft → Parsing → Result (Draft × Parsing) TypeFault
fixed_read (token.Function function) width is_key d s = count_read width function d s
fixed_read l width is_key d s =
    constant width s >>= λ (pattern, t). drafted_at (with_part (Constant width pattern is_key) d) t

-- An integer of so many bits.
unfoldable pub integer_read : Modified → ℕ → Draft → Parsing → Result (Draft × Parsing) TypeFault
integer_read m width d s =
    if is_mark 61 s then fixed_read (lexeme (passed s)) width m.is_key d (passed s)
    else if m.is_key then refused faults.KeyNeeded s
    else (numbers_of width s >>= λ (constants, t). drafted_at (with_part (Integer width m.form constants) d) t)

-- A field that is not part of a run.
abbrev pub field_drafted : Field → Draft → Parsing → Result (Draft × Parsing) TypeFault
field_drafted f d s = drafted_at (whole d) s >>= λ (e, t). Ok (with_field f e, t)

-- A string that ends so, with its named constants.
unfoldable pub text_read : TextEnd → Bool → Draft → Parsing → Result (Draft × Parsing) TypeFault
text_read e is_hex d s = texts_of s >>= λ (constants, t). field_drafted (Text e is_hex constants) d t

-- A string of so many bytes, or up to the end of the resource.
unfoldable pub string_read : Bool → Draft → Parsing → Result (Draft × Parsing) TypeFault
string_read is_hex d s =
    if is_mark 91 s
    then (bracketed 65535 faults.LengthOutOfRange s >>= λ (n, t). text_read (end.Fixed n) is_hex d t)
    else text_read end.Resource is_hex d s

-- The bits of a unit of a fill.
abbrev pub unit_in : Lexeme → Option ℕ
unit_in (token.Word word) =
    if is_name word (codes "bit") then Some 1
    else if is_name word (codes "nibble") then Some 4
    else if is_name word (codes "byte") then Some 8
    else if is_name word (codes "word") then Some 16
    else if is_name word (codes "long") then Some 32
    else None
unit_in l = None

-- A fill, after its unit: one, or as many as stand in brackets.
abbrev pub fill_of : Option ℕ → Draft → Parsing → Result (Draft × Parsing) TypeFault
fill_of None d s = refused faults.UnitNeeded s
fill_of (Some bits) d s =
    if is_mark 91 (passed s)
    then (bracketed 65535 faults.LengthOutOfRange (passed s) >>= λ (n, t). drafted_at (with_fill (bits * n) d) t)
    else drafted_at (with_fill bits d) (passed s)

unfoldable pub fill_read : Draft → Parsing → Result (Draft × Parsing) TypeFault
fill_read d s = fill_of (unit_in (lexeme s)) d s

-- An alignment.
unfoldable pub align_read : Draft → Parsing → Result (Draft × Parsing) TypeFault
align_read d s =
    if is_word_in (codes "word") (lexeme s) then field_drafted (Align boundary.Word) d (passed s)
    else if is_word_in (codes "long") (lexeme s) then field_drafted (Align boundary.Long) d (passed s)
    else refused faults.BoundaryNeeded s

-- A block that was read is the last one.
abbrev pub with_block : List Field → Parsing → Parsing
with_block fields s = record s { blocks = s.blocks ++ fields ∷ [] }

-- A name may stand before an array's length or its fields.
abbrev pub name_before : Parsing → Result (List ℕ × Parsing) TypeFault
name_before s = elim (word_in (lexeme s)) [ None ↦ Ok ([], s) | Some word ↦ named s ]

-- A length in brackets may stand before its fields.
abbrev pub length_before : Parsing → Result (Option ℕ × Parsing) TypeFault
length_before s =
    if is_mark 91 s then (bracketed 65535 faults.LengthOutOfRange s >>= λ (n, t). Ok (Some n, t)) else Ok (None, s)

-- The fields between braces. `inner` reads fields.
abbrev pub in_braces : (Bool → Parsing → Result (List Field × Parsing) TypeFault) → Parsing
    → Result (List Field × Parsing) TypeFault
in_braces inner s =
    marked 123 faults.BraceNeeded s
    >>= λ t. inner false t >>= λ (fields, u). marked 125 faults.FieldNeeded u >>= λ v. Ok (fields, v)

-- An array whose elements have fields.
abbrev pub array_with : Option ℕ → List ℕ → List Field → Draft → Parsing → Result (Draft × Parsing) TypeFault
array_with size name fields d s =
    drafted_at (with_array size (record { name = name; block = length s.blocks }) d) (with_block fields s)

-- An array. `inner` reads fields.
unfoldable pub array_read : (Bool → Parsing → Result (List Field × Parsing) TypeFault) → Draft → Parsing
    → Result (Draft × Parsing) TypeFault
array_read inner d s =
    name_before s
    >>= λ (name, t). length_before t
    >>= λ (size, u). in_braces inner u
    >>= λ (fields, v). array_with size name fields d v

-- The cases of a switch so far, and where their keys stand: where that of the first one does.
pub record Cases : Type 0 where
  pub place : Option KeyPlace
  pub list : List Case

-- A case with a key.
abbrev pub case_with : List ℕ → List Field → Option Key → Cases → Parsing → Result (Cases × Parsing) TypeFault
case_with name fields None cases s = refused (faults.Unsound unsound.NoKey) s
case_with name fields (Some key) cases s =
    Ok (
      record {
        place = Some (unwrap_or cases.place key.place);
        list = cases.list ++ record { name = name; pattern = key.pattern; block = length s.blocks } ∷ [];
      },
      with_block fields s,
    )

-- A case with fields, among which its key stands.
abbrev pub case_named : List ℕ → List Field → Cases → Parsing → Result (Cases × Parsing) TypeFault
case_named name fields cases s = case_with name fields (key_after 0 fields) cases s

-- A case, after the word `case`.
unfoldable pub case_read : (Bool → Parsing → Result (List Field × Parsing) TypeFault) → Cases → Parsing
    → Result (Cases × Parsing) TypeFault
case_read inner cases s =
    named s
    >>= λ (name, t). marked 58 faults.ColonNeeded t
    >>= λ u. inner true u >>= λ (fields, v). case_named name fields cases v

-- Cases up to the closing brace: at most n - 1.
abbrev pub cases_read : (Bool → Parsing → Result (List Field × Parsing) TypeFault) → ℕ → Cases → Parsing
    → Result (Cases × Parsing) TypeFault
cases_read inner zero cases s = refused faults.CaseNeeded s
cases_read inner (suc n) cases s =
    if is_mark 125 s then Ok (cases, passed s)
    else if is_word_in (codes "case") (lexeme s)
    then (case_read inner cases (passed s) >>= λ (more, t). cases_read inner n more t)
    else refused faults.CaseNeeded s

-- A switch with cases.
abbrev pub switch_with : Cases → Option KeyPlace → Draft → Parsing → Result (Draft × Parsing) TypeFault
switch_with cases None d s = refused (faults.Unsound unsound.NoCase) s
switch_with cases (Some place) d s = field_drafted (Switch place cases.list) d s

-- A switch. `inner` reads fields.
unfoldable pub switch_read : (Bool → Parsing → Result (List Field × Parsing) TypeFault) → Draft → Parsing
    → Result (Draft × Parsing) TypeFault
switch_read inner d s =
    marked 123 faults.BraceNeeded s
    >>= λ t. cases_read inner (length t.tokens) (record { place = None; list = [] }) t
    >>= λ (cases, u). switch_with cases cases.place d u

-- A word before the word of a field.
abbrev pub modifier_of : List ℕ → Option Modifier
modifier_of word =
    if is_name word (codes "key") then Some modifier.Key
    else if is_name word (codes "unsigned") then Some modifier.Unsigned
    else if is_name word (codes "decimal") then Some modifier.Decimal
    else if is_name word (codes "hex") then Some modifier.Hex
    else if is_name word (codes "binary") then Some modifier.Binary
    else if is_name word (codes "literal") then Some modifier.Literal
    else if is_name word (codes "wide") then Some modifier.Wide
    else None

abbrev pub modifier_in : Lexeme → Option Modifier
modifier_in l = option_and_then modifier_of (word_in l)

-- The form of an unsigned integer.
abbrev pub unsigned : Form → Form
unsigned form.Signed = form.Unsigned
unsigned f = f

-- What a field is with one more such word. `decimal` and `wide` only say how it is printed.
abbrev pub with_modifier : Modifier → Modified → Modified
with_modifier modifier.Key m = record m { is_key = true }
with_modifier modifier.Unsigned m = record m { form = unsigned m.form }
with_modifier modifier.Decimal m = m
with_modifier modifier.Hex m = record m { form = form.Hex }
with_modifier modifier.Binary m = record m { form = form.Binary }
with_modifier modifier.Literal m = record m { form = form.Literal }
with_modifier modifier.Wide m = m

-- Such words in turn: at most n.
abbrev pub modified : ℕ → Modified → Parsing → Modified × Parsing
modified zero m s = (m, s)
modified (suc n) m s =
    elim (modifier_in (lexeme s)) [ None ↦ (m, s) | Some word ↦ modified n (with_modifier word m) (passed s) ]

-- The word of a field.
abbrev pub integer_kind : List ℕ → Option Kind
integer_kind word =
    if is_name word (codes "boolean") then Some kind.Boolean
    else if is_name word (codes "bitstring") then Some kind.Bitstring
    else if is_name word (codes "byte") then Some kind.Byte
    else if is_name word (codes "integer") then Some kind.Integer
    else if is_name word (codes "longint") then Some kind.Longint
    else None

abbrev pub text_kind : List ℕ → Option Kind
text_kind word =
    if is_name word (codes "pstring") then Some kind.Pstring
    else if is_name word (codes "cstring") then Some kind.Cstring
    else if is_name word (codes "string") then Some kind.String
    else if is_name word (codes "char") then Some kind.Char
    else None

abbrev pub other_kind : List ℕ → Option Kind
other_kind word =
    if is_name word (codes "point") then Some kind.Point
    else if is_name word (codes "rect") then Some kind.Rect
    else if is_name word (codes "fill") then Some kind.Fill
    else if is_name word (codes "align") then Some kind.Align
    else if is_name word (codes "array") then Some kind.Array
    else if is_name word (codes "switch") then Some kind.Switch
    else None

-- The first of two, where there is one.
abbrev pub either : Option Kind → Option Kind → Option Kind
either (Some k) other = Some k
either None other = other

abbrev pub kind_of : List ℕ → Option Kind
kind_of word = either (integer_kind word) (either (text_kind word) (other_kind word))

abbrev pub kind_in : Lexeme → Option Kind
kind_in l = option_and_then kind_of (word_in l)

-- A bit string of as many bits as stand in brackets.
unfoldable pub bitstring_read : Modified → Draft → Parsing → Result (Draft × Parsing) TypeFault
bitstring_read m d s = bracketed 32 faults.BitsOutOfRange s >>= λ (width, t). integer_read m width d t

-- A form is hexadecimal.
abbrev pub is_hex : Form → Bool
is_hex form.Hex = true
is_hex f = false

-- A field after its word.
abbrev pub kind_read : (Bool → Parsing → Result (List Field × Parsing) TypeFault) → Modified → Kind → Draft → Parsing
    → Result (Draft × Parsing) TypeFault
kind_read inner m kind.Boolean d s = integer_read (record m { form = form.Boolean }) 1 d s
kind_read inner m kind.Bitstring d s = bitstring_read m d s
kind_read inner m kind.Byte d s = integer_read m 8 d s
kind_read inner m kind.Integer d s = integer_read m 16 d s
kind_read inner m kind.Longint d s = integer_read m 32 d s
kind_read inner m kind.Pstring d s = text_read end.Pascal false d s
kind_read inner m kind.Cstring d s = text_read end.C false d s
kind_read inner m kind.String d s = string_read (is_hex m.form) d s
kind_read inner m kind.Char d s = text_read end.Char false d s
kind_read inner m kind.Point d s = field_drafted Point d s
kind_read inner m kind.Rect d s = field_drafted Rect d s
kind_read inner m kind.Fill d s = fill_read d s
kind_read inner m kind.Align d s = align_read d s
kind_read inner m kind.Array d s = array_read inner d s
kind_read inner m kind.Switch d s = switch_read inner d s

-- Without any such word an integer is decimal with a sign.
abbrev pub plain : Modified
plain = record { is_key = false; form = form.Signed }

abbrev pub word_read : (Bool → Parsing → Result (List Field × Parsing) TypeFault) → Modified → Option Kind → Draft → Parsing
    → Result (Draft × Parsing) TypeFault
word_read inner m None d s = refused faults.FieldNeeded s
word_read inner m (Some k) d s = kind_read inner m k d (passed s)

-- A declaration has at most 512 fields.
abbrev pub one_field : Parsing → Result Parsing TypeFault
one_field s =
    if nat_le 512 s.fields then refused (faults.Unsound unsound.ManyFields) s else Ok (record s { fields = s.fields + 1 })

-- A field, after at most 4 such words, and its semicolon.
unfoldable pub field_read : (Bool → Parsing → Result (List Field × Parsing) TypeFault) → Draft → Parsing
    → Result (Draft × Parsing) TypeFault
field_read inner d s =
    one_field s
    >>= λ t. word_read inner (modified 4 plain t).0 (kind_in (lexeme (modified 4 plain t).1)) d (modified 4 plain t).1
    >>= λ (e, u). marked 59 faults.SemicolonNeeded u >>= λ v. Ok (e, v)

-- Fields end here: before a closing brace, or before the next case.
abbrev pub ends_here : Bool → Parsing → Bool
ends_here is_case s = is_mark 125 s || (is_case && is_word_in (codes "case") (lexeme s))

-- Fields in turn: at most n - 1.
abbrev pub fields_read : (Bool → Parsing → Result (List Field × Parsing) TypeFault) → ℕ → Bool → Draft → Parsing
    → Result (Draft × Parsing) TypeFault
fields_read inner zero is_case d s = refused faults.FieldNeeded s
fields_read inner (suc n) is_case d s =
    if ends_here is_case s then Ok (d, s)
    else (field_read inner d s >>= λ (e, t). fields_read inner n is_case e t)

-- The fields of a declaration, of an array's elements or of a case, in which others stand at most `depth - 1` deep.
abbrev pub fields_in : ℕ → Bool → Parsing → Result (List Field × Parsing) TypeFault
fields_in zero is_case s = refused (faults.Unsound unsound.TooDeep) s
fields_in (suc depth) is_case s =
    fields_read (fields_in depth) (length s.tokens) is_case no_draft s
    >>= λ (d, t). drafted_at (closed d) t >>= λ (fields, u). Ok (fields, u)

-- What a statement says of a type: its fields, or another type that it is like.
pub data Stated : Type 0 where
  Declared : (declaration : Declaration) → Stated
  As : (other : ℕ) → Stated

-- The type of a token: the number of four characters.
abbrev pub type_in : Lexeme → Option ℕ
type_in (token.Literal bytes) = if length bytes == 4 then Some (big_number 4 bytes) else None
type_in l = None

abbrev pub type_by : Option ℕ → Parsing → Result (ℕ × Parsing) TypeFault
type_by None s = refused faults.TypeNeeded s
type_by (Some ty) s = Ok (ty, passed s)

unfoldable pub type_read : Parsing → Result (ℕ × Parsing) TypeFault
type_read s = type_by (type_in (lexeme s)) s

-- A sound declaration. What is wrong with another one is wrong with the line on which it begins.
abbrev pub sound_at : Option Unsound → ℕ → Declaration → Parsing → Result (Stated × Parsing) TypeFault
sound_at None line d s = Ok (Declared d, record s { blocks = [] })
sound_at (Some fault) line d s = Err (record { line = line; kind = faults.Unsound fault })

-- The fields of a type.
unfoldable pub declared : ℕ → Parsing → Result (Stated × Parsing) TypeFault
declared line s =
    in_braces (fields_in 9) s
    >>= λ (fields, t). marked 59 faults.SemicolonNeeded t
    >>= λ u. sound_at (fault_of (record { fields = fields; blocks = u.blocks })) line (record { fields = fields; blocks = u.blocks }) u

-- The type that a type is like.
unfoldable pub likened : Parsing → Result (Stated × Parsing) TypeFault
likened s = type_read s >>= λ (other, t). marked 59 faults.SemicolonNeeded t >>= λ u. Ok (As other, u)

-- What is said of a type.
abbrev pub stated : ℕ → Parsing → Result (Stated × Parsing) TypeFault
stated line s = if is_word_in (codes "as") (lexeme s) then likened (passed s) else declared line s

-- The word `type` has to stand here.
abbrev pub word_type : Parsing → Result Parsing TypeFault
word_type s =
    if is_word_in (codes "type") (lexeme s) then Ok (passed s) else refused faults.DeclarationNeeded s

-- Before the first token.
abbrev pub unparsed : List Token → Parsing
unparsed tokens = record { tokens = tokens; line = 1; blocks = []; fields = 0 }

-- A statement `type`: the type, what is said of it, and the tokens after it.
unfoldable pub statement : List Token → Result (ℕ × Stated × List Token) TypeFault
statement tokens =
    word_type (unparsed tokens)
    >>= λ s. type_read s >>= λ (ty, t). stated (line_at tokens 1) t >>= λ (said, u). Ok (ty, said, u.tokens)
