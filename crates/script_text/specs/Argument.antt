use Rattle.std.specs.Prelude.{ℕ, ℤ, pos, neg_ℤ, ◌+◌, ◌-◌, ◌*◌, Bool, true, false, ◌==◌, ◌||◌, ◌&&◌, nat_le, Option}
use Rattle.std.specs.Prelude.{Some, None, Result, Ok, Err, List, [], ◌∷◌, length, take, slice_index, bytes_eq, codes}
use Rattle.std.specs.Prelude.{option_and_then, if◌then◌else◌}
use Rattle.std.specs.List.{list_all}
use Rattle.std.specs.Option.{option_map, option_or, ok_or}
use Rattle.std.specs.Char.{is_ascii_digit, is_ascii_alphabetic, is_ascii_alphanumeric}
use Rattle.std.specs.Str.{is_utf8}
use Rattle.mac_words.specs.declared.call.Target.{Target as Replaced}
use Rattle.mac_words.specs.declared.call.Target.TheVariants as target
use Rattle.mac_words.specs.declared.call.Replacement.{Replacement as New}
use Rattle.mac_words.specs.declared.call.Replacement.TheVariants as replacement
use Rattle.script_text.specs.declared.fault.FaultKind.{FaultKind}
use Rattle.script_text.specs.declared.fault.FaultKind.TheVariants.{BadArgument}
use Rattle.script_text.specs.Reading.{◌>>=◌}
use Rattle.script_text.specs.Token.{after_blanks, token_at}

-- The kinds of arguments.
pub data Kind : Type 0 where
  Label : Kind
  Size : Kind
  Id : Kind
  Byte : Kind
  ResType : Kind
  Bytes : Kind
  File : Kind
  Text : Kind
  Switch : Kind
  Target : Kind
  Replacement : Kind
  Path : Kind

-- The value of an argument.
pub data Value : Type 0 where
  Letters : (letters : List ℕ) → Value
  Number : (number : ℕ) → Value
  Signed : (number : ℤ) → Value
  Raw : (bytes : List ℕ) → Value
  Flag : (on : Bool) → Value
  Nil : Value

-- Whether a byte is a letter, a digit or _.
abbrev pub is_label_byte : ℕ → Bool
is_label_byte c = is_ascii_alphanumeric c || c == 95

-- Whether a token begins with a letter or _.
abbrev pub begins_label : List ℕ → Bool
begins_label [] = false
begins_label (c ∷ rest) = is_ascii_alphabetic c || c == 95

-- A name: a letter or _, then letters, digits and _, at most 63 bytes.
abbrev pub label : List ℕ → Option (List ℕ)
label token =
    if begins_label token && list_all is_label_byte token && nat_le (length token) 63 then Some token else None

-- The number that decimal digits write after the digits of n.
abbrev pub number_from : ℕ → List ℕ → ℕ
number_from n [] = n
number_from n (c ∷ digits) = number_from (10 * n + (c - 48)) digits

-- The number that decimal digits write after the digits of n, if there are only digits and the number is at most
-- `limit`.
abbrev pub number_within : ℕ → ℕ → List ℕ → Option ℕ
number_within limit n digits =
    if list_all is_ascii_digit digits && nat_le (number_from n digits) limit then Some (number_from n digits) else None

-- The number of a token of one to `most` decimal digits, if it is at most `limit`.
abbrev pub number : ℕ → ℕ → List ℕ → Option ℕ
number most limit token =
    if nat_le 1 (length token) && nat_le (length token) most then number_within limit 0 token else None

-- An ID: a number of 16 bits, with or without a minus, of one to five digits.
abbrev pub id : List ℕ → Option ℤ
id [] = None
id (c ∷ rest) =
    if c == 45 then option_map (λ n. neg_ℤ (pos n)) (number 5 32768 rest)
    else option_map pos (number 5 32767 (c ∷ rest))

-- The value of a hexadecimal digit, in upper or lower case.
abbrev pub digit : ℕ → Option ℕ
digit c =
    if nat_le 48 c && nat_le c 57 then Some (c - 48)
    else if nat_le 65 c && nat_le c 70 then Some (c - 55)
    else if nat_le 97 c && nat_le c 102 then Some (c - 87)
    else None

-- The byte that two hexadecimal digits write.
abbrev pub byte_at : ℕ → ℕ → Option ℕ
byte_at high low = option_and_then (λ h. option_map (λ l. 16 * h + l) (digit low)) (digit high)

-- The bytes that hexadecimal digits write, two digits for each byte.
abbrev pub hex_bytes : List ℕ → Option (List ℕ)
hex_bytes [] = Some []
hex_bytes (high ∷ []) = None
hex_bytes (high ∷ low ∷ rest) =
    option_and_then (λ byte. option_map (λ bytes. byte ∷ bytes) (hex_bytes rest)) (byte_at high low)

-- The bytes of a quoted token, whose opening quote is taken off.
abbrev pub unquoted : List ℕ → Option (List ℕ)
unquoted rest = if length rest == 0 then None else Some (take (length rest - 1) rest)

-- Bytes: any in quotes, or $ and hexadecimal digits.
abbrev pub bytes : List ℕ → Option (List ℕ)
bytes [] = None
bytes (c ∷ rest) = if c == 34 then unquoted rest else if c == 36 then hex_bytes rest else None

-- Bytes whose number passes a test.
abbrev pub of_length : (ℕ → Bool) → Option (List ℕ) → Option (List ℕ)
of_length fits None = None
of_length fits (Some bytes) = if fits (length bytes) then Some bytes else None

-- A type: any four bytes in single quotes, or $ and eight hexadecimal digits.
abbrev pub res_type : List ℕ → Option (List ℕ)
res_type [] = None
res_type (c ∷ rest) =
    if c == 39 then (if length rest == 5 && slice_index rest 4 == 39 then Some (take 4 rest) else None)
    else if c == 36 then of_length (λ n. n == 4) (hex_bytes rest)
    else None

-- A switch: TRUE or FALSE.
abbrev pub switch : List ℕ → Option Bool
switch token =
    if bytes_eq token (codes "TRUE") then Some true else if bytes_eq token (codes "FALSE") then Some false else None

-- Bytes, or a number of bytes.
-- See decision 244 (`Munger` takes bytes, or in place of NIL and a length a number).
abbrev pub bytes_or_number : List ℕ → Option Value
bytes_or_number token = option_or (option_map Raw (bytes token)) (option_map Number (number 10 2147483647 token))

-- Bytes, or the word NIL.
abbrev pub bytes_or_nil : List ℕ → Option Value
bytes_or_nil token = if bytes_eq token (codes "NIL") then Some Nil else option_map Raw (bytes token)

-- The value of what `Munger` replaces, and of what it puts there.
abbrev pub target_seen : Replaced → Value
target_seen (target.Bytes bytes) = Raw bytes.items
target_seen (target.Length n) = Number n

abbrev pub replacement_seen : New → Value
replacement_seen (replacement.Bytes bytes) = Raw bytes.items
replacement_seen replacement.Nil = Nil

-- Bytes that are UTF-8.
abbrev pub of_utf8 : Option (List ℕ) → Option (List ℕ)
of_utf8 None = None
of_utf8 (Some bytes) = if is_utf8 bytes then Some bytes else None

-- A path: UTF-8 in quotes.
-- See decision 120 (a path in a job stands in quotes alone).
abbrev pub path : List ℕ → Option (List ℕ)
path [] = None
path (c ∷ rest) = if c == 34 then of_utf8 (unquoted rest) else None

-- The value of a token as an argument of this kind.
abbrev pub value : Kind → List ℕ → Option Value
value Label token = option_map Letters (label token)
value Size token = option_map Number (number 10 2147483647 token)
value Id token = option_map Signed (id token)
value Byte token = option_map Number (number 3 255 token)
value ResType token = option_map Raw (res_type token)
value Bytes token = option_map Raw (bytes token)
value File token = option_map Raw (of_length (λ n. nat_le 1 n && nat_le n 63) (bytes token))
value Text token = option_map Raw (of_length (λ n. nat_le n 255) (bytes token))
value Switch token = option_map Flag (switch token)
value Target token = bytes_or_number token
value Replacement token = bytes_or_nil token
value Path token = option_map Raw (path token)

-- The argument of this kind at the front of a text, and the text after it.
unfoldable pub argument : Kind → List ℕ → Result (Value × List ℕ) FaultKind
argument kind text = do
  token ← token_at (after_blanks text)
  found ← ok_or (value kind token.0) BadArgument
  Ok (found, token.1)

-- The arguments of these kinds, after which the text must be at its end.
abbrev pub arguments : List Kind → List ℕ → Result (List Value) FaultKind
arguments [] text = if length (after_blanks text) == 0 then Ok [] else Err BadArgument
arguments (kind ∷ kinds) text = do
  first ← argument kind text
  others ← arguments kinds first.1
  Ok (first.0 ∷ others)
