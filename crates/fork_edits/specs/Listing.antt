use Rattle.std.specs.Prelude.{◌≡◌, ℕ, ℤ, ◌+◌, ◌-◌, Bool, ◌&&◌, ◌||◌, ◌==◌, not, nat_le, suc, Option, Some, None, Result, Ok, Err}
use Rattle.std.specs.Prelude.{List, [], ◌∷◌, ◌++◌, option_map, unwrap_or, if◌then◌else◌, codes, bytes_eq, length, take, drop, replicate}
use Rattle.std.specs.Prelude.{slice_index}
use Rattle.std.specs.List.{list_all, slice_split}
use Rattle.byteorder.specs.Endian.{big_number}
use Rattle.fork_edits.specs.declared.entries.LineFault.{LineFault}
use Rattle.fork_edits.specs.declared.entries.LineFault.TheVariants as why
use Rattle.fork_edits.specs.declared.entries.LineStop.{LineStop}
use Rattle.fork_edits.specs.declared.entries.LineStop.TheVariants as stop
use Rattle.fork_edits.specs.declared.entries.ContentsFault.{ContentsFault}
use Rattle.fork_edits.specs.declared.entries.ContentsFault.TheVariants as fault
use Rattle.fork_edits.specs.Attributes.{attrs_read}
use Rattle.fork_edits.specs.Contents.{Entry, Listed}
use Rattle.fork_edits.specs.Numbers.{id_read, number_within}
use Rattle.fork_edits.specs.Quoted.{quoted_read}
use Rattle.fork_edits.specs.Types.{bytes_spelled, is_between, type_read}

-- The list that stands beside the files of the resources of a fork, as it is read.

-- The length of a text up to its first blank, or to its end.
abbrev pub word_length : List ℕ → ℕ
word_length [] = 0
word_length (b ∷ rest) = if b == 32 then 0 else suc (word_length rest)

-- A text up to its first blank, and what stands after that blank.
abbrev pub word : List ℕ → List ℕ
word text = take (word_length text) text

abbrev pub after_word : List ℕ → List ℕ
after_word text = drop (word_length text + 1) text

-- The length of a type at the start of a line, in which blanks may stand between quotes.
abbrev pub type_length : List ℕ → ℕ
type_length line = if nat_le 6 (length line) && slice_index line 0 == 39 then 6 + word_length (drop 6 line) else word_length line

-- The parts of the line of a resource, each up to a blank, and what stands after the last blank.
pub record Fields : Type 0 where
  pub kind : List ℕ
  pub id : List ℕ
  pub attrs : List ℕ
  pub file : List ℕ
  pub name : List ℕ

-- The parts of a text after the type.
abbrev pub fields_after : List ℕ → List ℕ → Fields
fields_after kind text = record {
  kind = kind;
  id = word text;
  attrs = word (after_word text);
  file = word (after_word (after_word text));
  name = after_word (after_word (after_word text));
}

abbrev pub fields : List ℕ → Fields
fields line = fields_after (take (type_length line) line) (drop (type_length line + 1) line)

-- A byte that may stand in the name of a file: a printable character of ASCII other than a blank and a slash.
abbrev pub is_file_byte : ℕ → Bool
is_file_byte b = is_between 33 126 b && not (b == 47)

-- The text is a name of a file in the folder of the list: not empty, and neither the folder itself nor the one above it.
abbrev pub is_file_name : List ℕ → Bool
is_file_name text = not (length text == 0) && not (bytes_eq text (codes ".")) && not (bytes_eq text (codes ".."))
    && list_all is_file_byte text

abbrev pub file_read : List ℕ → Option (List ℕ)
file_read text = if is_file_name text then Some text else None

-- The name in quotes at the end of a line, or no name where the line has no more.
abbrev pub name_read : List ℕ → Option (Option (List ℕ))
name_read text = if length text == 0 then Some None else option_map Some (quoted_read text)

-- What the line of a resource says, or its first part that can't be read.
abbrev pub entry_of : Option (List ℕ) → Option ℤ → Option ℕ → Option (List ℕ) → Option (Option (List ℕ)) → Result Entry LineFault
entry_of None id attrs file name = Err why.Type
entry_of (Some four) None attrs file name = Err why.Id
entry_of (Some four) (Some id) None file name = Err why.Attributes
entry_of (Some four) (Some id) (Some attrs) None name = Err why.File
entry_of (Some four) (Some id) (Some attrs) (Some file) None = Err why.Name
entry_of (Some four) (Some id) (Some attrs) (Some file) (Some name) =
    Ok (record { kind = big_number 4 four; id = id; attrs = attrs; file = file; name = name })

abbrev pub entry_in : Fields → Result Entry LineFault
entry_in f = entry_of (type_read f.kind) (id_read f.id) (attrs_read f.attrs) (file_read f.file) (name_read f.name)

abbrev pub entry_read : List ℕ → Result Entry LineFault
entry_read line = entry_in (fields line)

-- What the lines so far say.
pub record Draft : Type 0 where
  pub attrs : Option ℕ
  pub area : Option (List ℕ)
  pub entries : List Entry

-- With a line of the map's attributes, at most one.
abbrev pub with_attrs : Option ℕ → Option ℕ → Draft → Result Draft LineFault
with_attrs (Some old) attrs d = Err why.SecondMap
with_attrs None None d = Err why.MapAttributes
with_attrs None (Some attrs) d = Ok (record { attrs = Some attrs; area = d.area; entries = d.entries })

-- The 240 bytes that 480 hexadecimal digits spell.
abbrev pub area_read : List ℕ → Option (List ℕ)
area_read text = if length text == 480 then bytes_spelled text else None

-- With a line of the 240 bytes after the header, at most one.
abbrev pub with_area : Option (List ℕ) → Option (List ℕ) → Draft → Result Draft LineFault
with_area (Some old) area d = Err why.SecondArea
with_area None None d = Err why.Area
with_area None (Some area) d = Ok (record { attrs = d.attrs; area = Some area; entries = d.entries })

-- With a line of a resource.
abbrev pub with_entry : Result Entry LineFault → Draft → Result Draft LineFault
with_entry (Err fault) d = Err fault
with_entry (Ok e) d = Ok (record { attrs = d.attrs; area = d.area; entries = d.entries ++ e ∷ [] })

-- An empty line, or one that begins with #.
abbrev pub is_remark : List ℕ → Bool
is_remark line = length line == 0 || slice_index line 0 == 35

-- With a line.
abbrev pub line_read : List ℕ → Draft → Result Draft LineFault
line_read line d =
    if is_remark line then Ok d
    else if bytes_eq (word line) (codes "map") then with_attrs d.attrs (number_within 65535 (after_word line)) d
    else if bytes_eq (word line) (codes "area") then with_area d.area (area_read (after_word line)) d
    else with_entry (entry_read line) d

-- A line without the CR at its end, if one stands there.
abbrev pub without_return : List ℕ → List ℕ
without_return line =
    if nat_le 1 (length line) && slice_index line (length line - 1) == 13 then take (length line - 1) line else line

-- What follows a line that was read; a fault has the number of the line.
abbrev pub at_line : ℕ → Result Draft LineFault → (Draft → Result Listed (ℕ × LineFault)) → Result Listed (ℕ × LineFault)
at_line n (Ok d) next = next d
at_line n (Err fault) next = Err (n, fault)

-- What all lines say. Where no line says them, the attributes of the map are 0, and so are the 240 bytes.
abbrev pub said : Draft → Listed
said d = record { attrs = unwrap_or d.attrs 0; area = unwrap_or d.area (replicate 240 0); entries = d.entries }

-- What lines say, of which the first is the n-th.
abbrev pub lines_read : ℕ → Draft → List (List ℕ) → Result Listed (ℕ × LineFault)
lines_read n d [] = Ok (said d)
lines_read n d (line ∷ lines) = at_line n (line_read (without_return line) d) (λ e. lines_read (n + 1) e lines)

-- Before the first line.
abbrev pub no_draft : Draft
no_draft = record { attrs = None; area = None; entries = [] }

-- The end of a line.
abbrev pub is_newline : ℕ → Bool
is_newline b = b == 10

-- What a list says, or the number of its first line that can't be read, and why.
abbrev pub contents_read : List ℕ → Result Listed (ℕ × LineFault)
contents_read text = lines_read 1 no_draft (slice_split is_newline text)

-- The fault is what stands in place of a result; nothing is said if the host is out of memory.
abbrev pub StopsLine : {A : Type 0} → LineStop → Result A LineFault → Type 0
StopsLine stop.HostMemory read = Unit {0}
StopsLine (stop.Wrong fault) read = read ≡ Err fault

abbrev pub StopsList : {A : Type 0} → ContentsFault → Result A (ℕ × LineFault) → Type 0
StopsList fault.HostMemory read = Unit {0}
StopsList (fault.Line line fault) read = read ≡ Err (line, fault)

-- A fault with the number of its line.
abbrev pub stopped_at : ℕ → LineStop → ContentsFault
stopped_at n stop.HostMemory = fault.HostMemory
stopped_at n (stop.Wrong kind) = fault.Line n kind
