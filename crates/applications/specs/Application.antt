use Rattle.std.specs.Prelude.{ℕ, ℤ, pos, Option, Some, None, List, [], ◌∷◌, ◌++◌, map, if◌then◌else◌}
use Rattle.std.specs.List.{flat_map}
use Rattle.byteorder.specs.Endian.{big_bytes}
use Rattle.mac_words.specs.Told.{Told, Fetched, Number, Numbers, Offset, Code, Bytes, Kind, Info, Entry}
use Rattle.script_text.specs.Call.{word_of}
use Rattle.script_text.specs.Transcript.{Shown as Value, bytes_shown, reply_line, grow_line}
use Rattle.script_text.specs.Transcript as shows
use Rattle.script_text.specs.declared.word.CallWord.{CallWord}
use Rattle.applications.specs.Trying.{code_told}
use Rattle.applications.specs.Step.{Shown}

-- The lines of a transcript.

-- The numbers of a reply that its transcript line prints. The number of a handle or pointer is not printed; a name is
-- bound to the number.
abbrev pub numbers_told : Told → List ℤ
numbers_told (Fetched handle read) = pos read ∷ []
numbers_told (Number n) = pos n ∷ []
numbers_told (Numbers one other) = pos one ∷ pos other ∷ []
numbers_told (Offset offset) = offset ∷ []
numbers_told (Code code) = code.0 ∷ []
numbers_told (Info id kind name) = id ∷ []
numbers_told (Entry segment flag) = segment ∷ pos flag ∷ []
numbers_told told = []

-- The bytes of the type in a reply, where the reply has a type.
abbrev pub type_told : Told → Option (List ℕ)
type_told (Kind kind) = Some (big_bytes 4 kind)
type_told (Info id kind name) = Some (big_bytes 4 kind)
type_told told = None

-- The bytes of the name in a reply, where the reply has a name.
abbrev pub name_told : Told → Option (List ℕ)
name_told (Info id kind name) = Some name
name_told told = None

-- The bytes that a reply shows, where the reply shows bytes.
abbrev pub bytes_told : Told → Option (List ℕ)
bytes_told (Bytes bytes) = Some bytes
bytes_told told = None

-- The values of a transcript line.
abbrev pub values_told : Told → List Value
values_told told = map shows.Number (numbers_told told) ++ bytes_shown (type_told told) ++ bytes_shown (name_told told)
    ++ bytes_shown (bytes_told told)

-- The transcript line of a call of the script, and of a call of its grow-zone script.
abbrev pub told_line : ℕ → CallWord → Told → List ℕ
told_line number word told = reply_line number word (code_told told).0 (values_told told)

abbrev pub grown_told_line : ℕ → CallWord → Told → List ℕ
grown_told_line number word told = grow_line number word (code_told told).0 (values_told told)

-- The bytes of one line of the transcript.
abbrev pub line_told : Shown → List ℕ
line_told s = if s.grown then grown_told_line s.line.number (word_of s.line.call) s.told
    else told_line s.line.number (word_of s.line.call) s.told

-- The bytes of lines of the transcript, in order.
abbrev pub lines_told : List Shown → List ℕ
lines_told lines = flat_map line_told lines
