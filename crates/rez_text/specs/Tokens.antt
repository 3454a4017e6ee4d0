use Rattle.std.specs.Prelude.{ℕ, ℤ, pos, neg_ℤ, ◌==◌, nat_lt, bytes_eq, codes, length, Option, Some, None, Result, Ok, Err}
use Rattle.std.specs.Prelude.{List, [], ◌∷◌, ◌++◌, if◌then◌else◌, bit_or, slice_get}
use Rattle.byteorder.specs.Endian.{big_number}
use Rattle.rez_statements.specs.declared.fault.StatementFault.{StatementFault}
use Rattle.rez_statements.specs.Types.{with_type, datum_stated}
use Rattle.rez_text.specs.declared.fault.FaultKind.{FaultKind}
use Rattle.rez_text.specs.declared.fault.FaultKind.TheVariants as faults
use Rattle.rez_text.specs.declared.fault.Unread.{Unread}
use Rattle.rez_text.specs.declared.fault.Unread.TheVariants as unread
use Rattle.rez_text.specs.declared.mode.Place.{Place}
use Rattle.rez_text.specs.declared.mode.Place.TheVariants as place
use Rattle.rez_text.specs.declared.mode.Form.{Form}
use Rattle.rez_text.specs.declared.mode.Form.TheVariants as forms
use Rattle.rez_text.specs.declared.mode.Mode.TheVariants as mode
use Rattle.rez_text.specs.State.{State, no_ref, in_mode, come_to, with_types, with_ref}
use Rattle.rez_text.specs.Scopes.{outside, inside}

-- The statements of a source, token by token: what each token means at each place of a statement
--   data TYPE ( ID [, NAME] [, ATTRIBUTE]... ) { [STRING]... } ;
--   resource TYPE ( ID [, NAME] [, ATTRIBUTE]... ) { TEXT } ;
--   read TYPE ( ID [, NAME] [, ATTRIBUTE]... ) FILE ;
--   type TEXT ;

-- What is wrong where after the arguments of a statement something else stands than what states its data.
abbrev pub data_needed : Form → FaultKind
data_needed forms.Data = faults.BraceNeeded
data_needed forms.Resource = faults.BraceNeeded
data_needed forms.Read = faults.FileNeeded

-- What is wrong where none of the tokens stands that may stand at a place.
abbrev pub needed : Form → Place → FaultKind
needed f place.Outside = faults.NotAStatement
needed f place.Declaration = faults.NotAStatement
needed f place.Type = faults.TypeNeeded
needed f place.Parenthesis = faults.ParenthesisNeeded
needed f place.Id = faults.IdNeeded
needed f place.Negative = faults.IdNeeded
needed f place.AfterId = faults.EndOfArgumentsNeeded
needed f place.NameOrAttribute = faults.NameOrAttributeNeeded
needed f place.AfterArgument = faults.EndOfArgumentsNeeded
needed f place.Attribute = faults.AttributeNeeded
needed f place.Brace = data_needed f
needed f place.Data = faults.DataNeeded
needed f place.Semicolon = faults.SemicolonNeeded

-- The token may not stand here.
abbrev pub refused : State → Result State FaultKind
refused s = Err (needed s.said.form s.place)

-- The word of an opposite states no bit.
abbrev pub opposite : List ℕ → Option ℕ
opposite word =
    if bytes_eq word (codes "appheap") then Some 0
    else if bytes_eq word (codes "nonpurgeable") then Some 0
    else if bytes_eq word (codes "unlocked") then Some 0
    else if bytes_eq word (codes "unprotected") then Some 0
    else if bytes_eq word (codes "nonpreload") then Some 0
    else if bytes_eq word (codes "unchanged") then Some 0
    else None

-- The attribute that a word states, by its bit: More Macintosh Toolbox, chapter 1, "Resource Attributes".
abbrev pub attribute : List ℕ → Option ℕ
attribute word =
    if bytes_eq word (codes "sysheap") then Some 64
    else if bytes_eq word (codes "purgeable") then Some 32
    else if bytes_eq word (codes "locked") then Some 16
    else if bytes_eq word (codes "protected") then Some 8
    else if bytes_eq word (codes "preload") then Some 4
    else if bytes_eq word (codes "changed") then Some 2
    else opposite word

-- The resource has these attributes too.
abbrev pub with_attributes : Option ℕ → State → Result State FaultKind
with_attributes None s = refused s
with_attributes (Some bits) s = Ok (come_to place.AfterArgument (record s {
  draft = record {
    id = s.draft.id;
    name = s.draft.name;
    attrs = bit_or s.draft.attrs bits;
    datum = s.draft.datum;
  };
}))

-- The statement of Rez, or the directive, that a word begins, where it is not read.
abbrev pub unread_statement : List ℕ → Option Unread
unread_statement word =
    if bytes_eq word (codes "change") then Some unread.Change
    else if bytes_eq word (codes "delete") then Some unread.Delete
    else if bytes_eq word (codes "enum") then Some unread.Enum
    else if bytes_eq word (codes "include") then Some unread.Include
    else None

abbrev pub unread_directive : List ℕ → Option Unread
unread_directive word =
    if bytes_eq word (codes "#define") then Some unread.Define
    else if bytes_eq word (codes "#else") then Some unread.Else
    else if bytes_eq word (codes "#endif") then Some unread.EndIf
    else if bytes_eq word (codes "#if") then Some unread.If
    else if bytes_eq word (codes "#ifdef") then Some unread.IfDefined
    else if bytes_eq word (codes "#ifndef") then Some unread.IfNotDefined
    else if bytes_eq word (codes "#include") then Some unread.IncludeText
    else if bytes_eq word (codes "#undef") then Some unread.Undefine
    else None

abbrev pub unread_word : List ℕ → Option Unread
unread_word word = elim (unread_statement word) [ None ↦ unread_directive word | Some u ↦ Some u ]

-- What is wrong with a word that begins no statement.
abbrev pub no_statement : Option Unread → FaultKind
no_statement None = faults.NotAStatement
no_statement (Some u) = faults.NotRead u

-- A statement `data` begins, or a statement `resource` or `read`.
abbrev pub form_begun : Form → State → State
form_begun f s = come_to place.Type (record s {
  said = record { content = s.said.content; types = s.said.types; form = f; files = s.said.files };
})

-- A word with which a statement begins.
abbrev pub statement_begun : State → Result State FaultKind
statement_begun s =
    if bytes_eq s.gathered (codes "data") then Ok (form_begun forms.Data s)
    else if bytes_eq s.gathered (codes "resource") then Ok (form_begun forms.Resource s)
    else if bytes_eq s.gathered (codes "read") then Ok (form_begun forms.Read s)
    else if bytes_eq s.gathered (codes "type") then Ok (in_mode (mode.Declaring outside) s)
    else Err (no_statement (unread_word s.gathered))

-- A word with which a statement begins, where only declarations may stand.
abbrev pub declaration_begun : State → Result State FaultKind
declaration_begun s =
    if bytes_eq s.gathered (codes "type") then Ok (in_mode (mode.Declaring outside) s)
    else if bytes_eq s.gathered (codes "data") then Err faults.OnlyDeclarations
    else if bytes_eq s.gathered (codes "resource") then Err faults.OnlyDeclarations
    else if bytes_eq s.gathered (codes "read") then Err faults.OnlyDeclarations
    else Err (no_statement (unread_word s.gathered))

-- A word.
abbrev pub word_at : Place → State → Result State FaultKind
word_at place.Outside s = statement_begun s
word_at place.Declaration s = declaration_begun s
word_at place.NameOrAttribute s = with_attributes (attribute s.gathered) s
word_at place.Attribute s = with_attributes (attribute s.gathered) s
word_at p s = refused s

unfoldable pub word : State → Result State FaultKind
word s = word_at s.place s

-- A type.
abbrev pub type_at : Place → State → Result State FaultKind
type_at place.Type s =
    if length s.gathered == 4 then Ok (come_to place.Parenthesis (record s { kind = big_number 4 s.gathered }))
    else refused s
type_at p s = refused s

unfoldable pub type_token : State → Result State FaultKind
type_token s = type_at s.place s

-- The resource has this ID.
abbrev pub with_id : ℤ → State → State
with_id id s = come_to place.AfterId (record s {
  draft = record { id = id; name = s.draft.name; attrs = s.draft.attrs; datum = s.draft.datum };
})

-- Attributes as a number of one byte.
abbrev pub attributes_in : ℕ → State → Result State FaultKind
attributes_in n s = if nat_lt 255 n then Err faults.AttributesOutOfRange else with_attributes (Some n) s

-- A number.
abbrev pub number_at : Place → ℕ → State → Result State FaultKind
number_at place.Id n s = if nat_lt 32767 n then Err faults.IdOutOfRange else Ok (with_id (pos n) s)
number_at place.Negative n s = if nat_lt 32768 n then Err faults.IdOutOfRange else Ok (with_id (neg_ℤ (pos n)) s)
number_at place.NameOrAttribute n s = attributes_in n s
number_at place.Attribute n s = attributes_in n s
number_at p n s = refused s

unfoldable pub number : ℕ → State → Result State FaultKind
number n s = number_at s.place n s

-- The resource has this name.
abbrev pub named : State → Result State FaultKind
named s =
    if nat_lt 255 (length s.gathered) then Err faults.LongName
    else Ok (come_to place.AfterArgument (record s {
      draft = record { id = s.draft.id; name = Some s.gathered; attrs = s.draft.attrs; datum = s.draft.datum };
    }))

-- The resource has more data.
abbrev pub with_data : State → State
with_data s = come_to place.Data (record s {
  draft = record {
    id = s.draft.id;
    name = s.draft.name;
    attrs = s.draft.attrs;
    datum = s.draft.datum ++ s.gathered;
  };
})

-- The bytes of a file, or none where it is not given.
abbrev pub bytes_given : Option (List ℕ) → List ℕ
bytes_given None = []
bytes_given (Some bytes) = bytes

-- The name of a file, whose bytes are the datum: the n-th statement `read` takes those of the n-th file that is given.
abbrev pub with_file : State → State
with_file s = come_to place.Semicolon (record s {
  draft = record {
    id = s.draft.id;
    name = s.draft.name;
    attrs = s.draft.attrs;
    datum = bytes_given (slice_get s.said.files.given (length s.said.files.named));
  };
  said = record {
    content = s.said.content;
    types = s.said.types;
    form = s.said.form;
    files = record { given = s.said.files.given; named = s.said.files.named ++ s.gathered ∷ [] };
  };
})

-- A string after the arguments of a statement: only after those of a statement `read`.
abbrev pub file_named : Form → State → Result State FaultKind
file_named forms.Read s = Ok (with_file s)
file_named f s = refused s

-- A string: a name, data, or the name of a file.
abbrev pub string_at : Place → State → Result State FaultKind
string_at place.NameOrAttribute s = named s
string_at place.Brace s = file_named s.said.form s
string_at place.Data s = Ok (with_data s)
string_at p s = refused s

unfoldable pub string : State → Result State FaultKind
string s = string_at s.place s

-- A hexadecimal string: data.
abbrev pub datum_at : Place → State → Result State FaultKind
datum_at place.Data s = Ok (with_data s)
datum_at p s = refused s

unfoldable pub datum : State → Result State FaultKind
datum s = datum_at s.place s

-- A fault in the text of a statement, which has a line there.
abbrev pub of_text : {A : Type 0} → Result A (ℕ × StatementFault) → (A → State) → Result State FaultKind
of_text (Ok x) f = Ok (f x)
of_text (Err e) f = Err (faults.Within e.0 e.1)

-- The text of a statement `type` ends: the types with what it declares.
unfoldable pub type_statement : State → Result State FaultKind
type_statement s =
    of_text (with_type s.gathered s.said.types)
    (λ types. come_to s.place (record s { said = with_types types s.said }))

-- The resource has this datum.
abbrev pub with_datum : List ℕ → State → State
with_datum bytes s = come_to place.Semicolon (record s {
  draft = record { id = s.draft.id; name = s.draft.name; attrs = s.draft.attrs; datum = bytes };
})

-- The text between the braces of a statement `resource` ends: what it states by the declaration of the type is the datum.
unfoldable pub resource_body : State → Result State FaultKind
resource_body s = of_text (datum_stated s.kind s.gathered s.said.types) (λ bytes. with_datum bytes s)

-- An opening brace.
abbrev pub opened : Form → State → Result State FaultKind
opened forms.Data s = Ok (come_to place.Data s)
opened forms.Resource s = Ok (in_mode (mode.Body inside) s)
opened forms.Read s = refused s

-- A statement ends: its resource is one more of the content.
abbrev pub with_statement : State → State
with_statement s = come_to place.Outside (record s {
  kind = 0;
  draft = no_ref;
  said = record {
    content = record {
      area = s.said.content.area;
      attrs = s.said.content.attrs;
      groups = with_ref s.kind s.draft s.said.content.groups;
    };
    types = s.said.types;
    form = forms.Data;
    files = s.said.files;
  };
})

-- A mark, or a byte that begins no token.
abbrev pub mark_at : Place → ℕ → State → Result State FaultKind
mark_at place.Parenthesis b s = if b == 40 then Ok (come_to place.Id s) else refused s
mark_at place.Id b s = if b == 45 then Ok (come_to place.Negative s) else refused s
mark_at place.AfterId b s =
    if b == 44 then Ok (come_to place.NameOrAttribute s)
    else if b == 41 then Ok (come_to place.Brace s)
    else refused s
mark_at place.AfterArgument b s =
    if b == 44 then Ok (come_to place.Attribute s)
    else if b == 41 then Ok (come_to place.Brace s)
    else refused s
mark_at place.Brace b s = if b == 123 then opened s.said.form s else refused s
mark_at place.Data b s = if b == 125 then Ok (come_to place.Semicolon s) else refused s
mark_at place.Semicolon b s = if b == 59 then Ok (with_statement s) else refused s
mark_at p b s = refused s

unfoldable pub mark : ℕ → State → Result State FaultKind
mark b s = mark_at s.place b s
