use Rattle.std.specs.Prelude.{ℕ, zero, suc, ◌+◌, ◌/◌, ◌^◌, ◌==◌, nat_lt, nat_le, Bool, ◌&&◌}
use Rattle.std.specs.Prelude.{Option, Some, None, Result, Ok, List, [], ◌∷◌, ◌++◌, length, codes}
use Rattle.std.specs.Prelude.{slice_get, replicate, if◌then◌else◌}
use Rattle.std.specs.List.{position}
use Rattle.std.specs.Str.{str_eq_ignore_ascii_case}
use Rattle.byteorder.specs.Endian.{big_number}
use Rattle.rez_types.specs.declared.declaration.Boundary.{Boundary}
use Rattle.rez_types.specs.declared.declaration.Form.{Form}
use Rattle.rez_types.specs.declared.declaration.Form.TheVariants as form
use Rattle.rez_types.specs.declared.declaration.TextEnd.{TextEnd}
use Rattle.rez_types.specs.declared.declaration.TextEnd.TheVariants as end
use Rattle.rez_types.specs.Fields.{NamedNumber, NamedText, Part, Integer, Constant, Count, FillBits}
use Rattle.rez_types.specs.Values as value
use Rattle.rez_types.specs.Decoding.{multiple}
use Rattle.rez_types.specs.Encoding.{has_no_zero}
use Rattle.rez_tokens.specs.Tokens.{Token, Lexeme, Word, Text, Hex, Literal, Filled}
use Rattle.rez_values.specs.declared.fault.ValueFault.{ValueFault}
use Rattle.rez_values.specs.declared.fault.ValueFault.TheVariants as faults
use Rattle.rez_values.specs.Taking.{Taking, Fault, ◌>>=◌, past, refused, lexeme, passed, separated}
use Rattle.rez_values.specs.Taking.{opened, closed, put, number}

-- The values that fields which hold no others state.

-- A word is a name, whatever the case of either.
abbrev pub is_name : List ℕ → List ℕ → Bool
is_name word name = str_eq_ignore_ascii_case word name

abbrev pub is_number_named : List ℕ → NamedNumber → Bool
is_number_named word n = is_name word n.name

abbrev pub is_text_named : List ℕ → NamedText → Bool
is_text_named word t = is_name word t.name

-- The number that a word stands for: that of the first constant of this name.
abbrev pub constant_named : List ℕ → List NamedNumber → Option ℕ
constant_named word constants =
    elim (position (is_number_named word) constants) [
      | None ↦ None
      | Some k ↦ elim (slice_get constants k) [ None ↦ None | Some n ↦ Some n.pattern ]
    ]

-- The number of `true` and of `false`, where the integer is a boolean.
abbrev pub boolean_named : Form → List ℕ → Option ℕ
boolean_named form.Boolean word =
    if is_name word (codes "true") then Some 1 else if is_name word (codes "false") then Some 0 else None
boolean_named f word = None

abbrev pub number_named : Form → List NamedNumber → List ℕ → Option ℕ
number_named f constants word =
    elim (constant_named word constants) [ None ↦ boolean_named f word | Some n ↦ Some n ]

-- What is needed where an integer is stated.
abbrev pub number_needed : List NamedNumber → ValueFault
number_needed [] = faults.NumberNeeded
number_needed (n ∷ constants) = faults.NumberOrNameNeeded

-- An integer that a word states.
abbrev pub integer_by_name : List NamedNumber → Option ℕ → Taking → Result (ℕ × Taking) Fault
integer_by_name constants None s = refused (number_needed constants) s
integer_by_name constants (Some n) s = Ok (n, passed s)

-- An integer of so many bits that up to four characters state.
abbrev pub integer_by_literal : ℕ → List ℕ → Taking → Result (ℕ × Taking) Fault
integer_by_literal width bytes s =
    if nat_lt 4 (length bytes) then refused faults.LongLiteral s
    else if nat_le (2 ^ width) (big_number (length bytes) bytes) then refused (faults.NumberOutOfRange width) s
    else Ok (big_number (length bytes) bytes, passed s)

-- An integer, by what the next token is.
abbrev pub integer_by : ℕ → Form → List NamedNumber → Lexeme → Taking → Result (ℕ × Taking) Fault
integer_by width f constants (Word word) s = integer_by_name constants (number_named f constants word) s
integer_by width f constants (Literal bytes) s = integer_by_literal width bytes s
integer_by width f constants l s = number width (number_needed constants) s

-- An integer.
unfoldable pub integer_taken : ℕ → Form → List NamedNumber → Taking → Result Taking Fault
integer_taken width f constants s =
    separated faults.SeparatorNeeded s
    >>= λ t. integer_by width f constants (lexeme t) t >>= λ (n, u). put (value.Number n) u

-- A count: the number of its elements is put in its place later.
unfoldable pub count_taken : ℕ → Taking → Result Taking Fault
count_taken width s =
    put (value.Count 0) s
    >>= λ t. Ok (record t { counts = t.counts ++ record { place = length s.values; width = width } ∷ [] })

-- The bytes of a fill, if they are the very next token, and have what is asked of them.
abbrev pub filled_in : Lexeme → Option (List ℕ)
filled_in (Filled bytes) = Some bytes
filled_in l = None

abbrev pub filled_at : List Token → Option (List ℕ)
filled_at [] = None
filled_at (t ∷ tokens) = filled_in t.lexeme

abbrev pub filled_as : (List ℕ → Bool) → List Token → Option (List ℕ)
filled_as fits tokens =
    elim (filled_at tokens) [ None ↦ None | Some bytes ↦ if fits bytes then Some bytes else None ]

-- Bytes are as many as so many bits need, and their number fits.
abbrev pub fits_bits : ℕ → List ℕ → Bool
fits_bits width bytes = length bytes == (width + 7) / 8 && nat_lt (big_number (length bytes) bytes) (2 ^ width)

-- A fill of bits: the number of the bytes that stand here, else 0.
abbrev pub fill_bits_by : Option (List ℕ) → Taking → Result Taking Fault
fill_bits_by None s = put (value.Number 0) s
fill_bits_by (Some bytes) s = put (value.Number (big_number (length bytes) bytes)) (past s)

unfoldable pub fill_bits_taken : ℕ → Taking → Result Taking Fault
fill_bits_taken width s = fill_bits_by (filled_as (fits_bits width) s.tokens) s

-- A part of a run. A constant states nothing.
abbrev pub part_taken : Part → Taking → Result Taking Fault
part_taken (Integer width f constants) s = integer_taken width f constants s
part_taken (Constant width pattern is_key) s = Ok s
part_taken (Count width is_less_one) s = count_taken width s
part_taken (FillBits width) s = fill_bits_taken width s

-- The parts of a run in turn.
abbrev pub parts_taken : List Part → Taking → Result Taking Fault
parts_taken [] s = Ok s
parts_taken (p ∷ parts) s = part_taken p s >>= λ t. parts_taken parts t

-- A fill of bytes, or an alignment: the bytes that stand here, else others.
abbrev pub fill_by : List ℕ → Option (List ℕ) → Taking → Result Taking Fault
fill_by others None s = put (value.Filled others) s
fill_by others (Some bytes) s = put (value.Filled bytes) (past s)

-- A fill of n bytes: as many that stand here, else bytes of 0.
abbrev pub has_length : ℕ → List ℕ → Bool
has_length n bytes = length bytes == n

unfoldable pub fill_taken : ℕ → Taking → Result Taking Fault
fill_taken n s = fill_by (replicate n 0) (filled_as (has_length n) s.tokens) s

-- An alignment: the bytes that stand here, if they are fewer than those between two boundaries, else none.
abbrev pub is_shorter : ℕ → List ℕ → Bool
is_shorter n bytes = nat_lt (length bytes) n

unfoldable pub align_taken : Boundary → Taking → Result Taking Fault
align_taken to s = fill_by [] (filled_as (is_shorter (multiple to)) s.tokens) s

-- The string that a word stands for: that of the first constant of this name.
abbrev pub text_named : List ℕ → List NamedText → Option (List ℕ)
text_named word constants =
    elim (position (is_text_named word) constants) [
      | None ↦ None
      | Some k ↦ elim (slice_get constants k) [ None ↦ None | Some t ↦ Some t.text ]
    ]

-- What is needed where a string is stated.
abbrev pub text_needed : List NamedText → ValueFault
text_needed [] = faults.StringNeeded
text_needed (t ∷ constants) = faults.StringOrNameNeeded

-- The bytes of a token that is a string.
abbrev pub string_in : Lexeme → Option (List ℕ)
string_in (Text bytes) = Some bytes
string_in (Hex bytes) = Some bytes
string_in l = None

-- Strings side by side are one: at most n more.
abbrev pub strings_on : ℕ → List ℕ → Taking → List ℕ × Taking
strings_on zero bytes s = (bytes, s)
strings_on (suc n) bytes s =
    elim (string_in (lexeme s)) [ None ↦ (bytes, s) | Some more ↦ strings_on n (bytes ++ more) (passed s) ]

-- A string that a word states.
abbrev pub text_by_name : List NamedText → Option (List ℕ) → Taking → Result (List ℕ × Taking) Fault
text_by_name constants None s = refused (text_needed constants) s
text_by_name constants (Some text) s = Ok (text, passed s)

-- The bytes of a string, by what the next token is.
abbrev pub text_by : List NamedText → Lexeme → Taking → Result (List ℕ × Taking) Fault
text_by constants (Word word) s = text_by_name constants (text_named word constants) s
text_by constants (Text bytes) s = Ok (strings_on (length s.tokens) [] s)
text_by constants (Hex bytes) s = Ok (strings_on (length s.tokens) [] s)
text_by constants l s = refused (text_needed constants) s

-- What is wrong with a string of n bytes, where it has another length.
abbrev pub wrong_length : ℕ → List ℕ → Option ValueFault
wrong_length n text = if length text == n then None else Some (faults.StringLength n)

-- What is wrong with a string that ends so.
abbrev pub wrong_text : TextEnd → List ℕ → Option ValueFault
wrong_text end.Pascal text = if nat_lt 255 (length text) then Some faults.LongString else None
wrong_text end.C text = if has_no_zero text then None else Some faults.ZeroInString
wrong_text end.Char text = wrong_length 1 text
wrong_text (end.Fixed n) text = wrong_length n text
wrong_text end.Resource text = None

-- A string: what is wrong with it is so where it begins.
unfoldable pub text_taken : TextEnd → List NamedText → Taking → Result Taking Fault
text_taken e constants s =
    separated faults.SeparatorNeeded s
    >>= λ t. text_by constants (lexeme t) t
    >>= λ (text, u). elim (wrong_text e text) [ None ↦ put (value.Text text) u | Some kind ↦ refused kind t ]

-- n coordinates.
abbrev pub coordinates_taken : ValueFault → ℕ → Taking → Result Taking Fault
coordinates_taken kind zero s = Ok s
coordinates_taken kind (suc n) s =
    separated kind s
    >>= λ t. number 16 kind t >>= λ (here, u). put (value.Number here) u >>= λ v. coordinates_taken kind n v

-- A point or a rectangle, by the number of its coordinates.
unfoldable pub corners_taken : ValueFault → ℕ → Taking → Result Taking Fault
corners_taken kind n s =
    separated faults.SeparatorNeeded s
    >>= λ t. opened kind t >>= λ u. coordinates_taken kind n u >>= λ v. closed kind v
