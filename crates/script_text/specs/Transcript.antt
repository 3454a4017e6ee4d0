use Rattle.std.specs.Prelude.{ℕ, ℤ, pos, ◌/◌, ◌%◌, Option, Some, None, List, [], ◌∷◌, ◌++◌, map, codes}
use Rattle.std.specs.Prelude.{Box, decimal, if◌then◌else◌}
use Rattle.std.specs.Fmt.{signed_decimal}
use Rattle.std.specs.Global.{Global}
use Rattle.std.specs.Ordering.{int_eq}
use Rattle.mac_words.specs.Digits.{lower_digit}
use Rattle.mac_words.specs.declared.name.Name.{Name}
use Rattle.mac_words.specs.declared.name.OsType.{OsType}
use Rattle.mac_words.specs.declared.reply.Reply.{Reply}
use Rattle.script_text.specs.declared.word.CallWord.{CallWord}
use Rattle.script_text.specs.Call.{spelling}

-- A value of a transcript.
pub data Shown : Type 0 where
  Number : (number : ℤ) → Shown
  Bytes : (bytes : List ℕ) → Shown

-- Bytes in hexadecimal, two digits each in lower case.
abbrev pub hex : List ℕ → List ℕ
hex [] = []
hex (b ∷ bytes) = lower_digit (b / 16) ∷ lower_digit (b % 16) ∷ hex bytes

-- A value as it is written, after a blank: a number in decimal, or $ and bytes in hexadecimal.
abbrev pub shown : Shown → List ℕ
shown (Number n) = codes " " ++ signed_decimal n
shown (Bytes bytes) = codes " $" ++ hex bytes

-- Values as they are written, one after another.
abbrev pub shown_all : List Shown → List ℕ
shown_all [] = []
shown_all (v ∷ values) = shown v ++ shown_all values

-- Bytes as a value, where there are any.
abbrev pub bytes_shown : Option (List ℕ) → List Shown
bytes_shown None = []
bytes_shown (Some bytes) = Bytes bytes ∷ []

-- A type as a value, where there is one.
abbrev pub type_shown : Option OsType → List Shown
type_shown None = []
type_shown (Some ty) = Bytes ty.0 ∷ []

-- A name as a value, where there is one.
abbrev pub name_shown : Option (Box Name Global) → List Shown
name_shown None = []
name_shown (Some name) = Bytes name.value.0.items ∷ []

-- The values of a reply: its numbers, its type, its name, and the bytes that its call shows.
-- See decision 123 (the bytes that a call shows are lent to the writer).
abbrev pub values_of : Reply → Option (List ℕ) → List Shown
values_of reply bytes = map Number reply.numbers.items ++ type_shown reply.ty ++ name_shown reply.name
    ++ bytes_shown bytes

-- The first line of a transcript, with the partition's size in bytes.
abbrev pub launch_line : ℕ → List ℕ
launch_line size = codes "launch 0 " ++ decimal size ++ codes "\n"

-- The last line of a transcript, with the result code.
abbrev pub end_line : ℤ → List ℕ
end_line code = codes "end " ++ signed_decimal code ++ codes "\n"

-- The number of a call's line, and the spelling of the call.
abbrev pub call_at : ℕ → CallWord → List ℕ
call_at line word = decimal line ++ codes " " ++ spelling word

-- The result code and, after code 0, the values.
abbrev pub outcome : ℤ → List Shown → List ℕ
outcome code values = codes " " ++ signed_decimal code ++ (if int_eq code (pos 0) then shown_all values else [])

-- The line of a call.
abbrev pub reply_line : ℕ → CallWord → ℤ → List Shown → List ℕ
reply_line line word code values = call_at line word ++ outcome code values ++ codes "\n"

-- The line of a call of a grow-zone script: a +, and the line of the call.
abbrev pub grow_line : ℕ → CallWord → ℤ → List Shown → List ℕ
grow_line line word code values = codes "+" ++ reply_line line word code values
