use Rattle.std.specs.Prelude.{◌≡◌, ℕ, ◌+◌, ◌-◌, min, Bool, true, false, Option, Some, None, Result, Ok, Err, List, [], ◌∷◌, if◌then◌else◌}
use Rattle.std.specs.Prelude.{length, drop}
use Rattle.fork_format.specs.Content.{Content}
use Rattle.rez_statements.specs.Types.{Declared}
use Rattle.fork_format.specs.Canonical.{clear}
use Rattle.rez_text.specs.declared.fault.FaultKind.{FaultKind}
use Rattle.rez_text.specs.declared.fault.FaultKind.TheVariants as faults
use Rattle.rez_text.specs.declared.fault.SourceFault.{SourceFault}
use Rattle.rez_text.specs.declared.fault.SourceFault.TheVariants as fault
use Rattle.rez_text.specs.declared.fault.StepFault.{StepFault}
use Rattle.rez_text.specs.declared.fault.StepFault.TheVariants as step_faults
use Rattle.rez_text.specs.declared.mode.Mode.{Mode}
use Rattle.rez_text.specs.declared.mode.Mode.TheVariants as mode
use Rattle.rez_text.specs.declared.mode.Place.{Place}
use Rattle.rez_text.specs.declared.mode.Place.TheVariants as place
use Rattle.rez_text.specs.declared.line.Lines.{Lines}
use Rattle.rez_text.specs.declared.source.Source.{Source}
use Rattle.rez_text.specs.State.{State, start, ◌>>=◌}
use Rattle.rez_text.specs.Ascii.{line_of}
use Rattle.rez_text.specs.Coding.{as_roman}
use Rattle.rez_text.specs.View.{content_stated, names_of}
use Rattle.rez_text.specs.Tokens.{needed}
use Rattle.rez_text.specs.Lexing.{step}

-- The whole text of a source.

-- What is wrong where a text ends within a statement.
abbrev pub ended_in : Place → State → Result State FaultKind
ended_in place.Outside s = Ok s
ended_in place.Declaration s = Ok s
ended_in p s = Err (needed s.said.form p)

-- The same where a text may end within a token.
abbrev pub ended : Mode → State → Result State FaultKind
ended mode.Between s = ended_in s.place s
ended mode.Comment s = Err faults.OpenComment
ended mode.Star s = Err faults.OpenComment
ended (mode.Declaring at) s = Err faults.OpenStatement
ended (mode.Body at) s = Err faults.OpenStatement
ended m s = Err faults.OpenString

-- What has been read at the end of a text, which ends the last line.
unfoldable pub finish : State → Result State FaultKind
finish s = step 10 s >>= λ t. ended t.mode t

-- The number of the line on which a token begins. Between tokens, each byte may be the first of one.
abbrev pub begun_on : Mode → ℕ → ℕ → ℕ
begun_on mode.Between line begun = line
begun_on m line begun = begun

-- Where a text stands among its lines once it has gone on by a byte, which it took within a token or between tokens.
abbrev pub lines_at : Mode → ℕ → Lines → Lines
lines_at m b at = record {
  line = line_of at.line at.last b;
  last = b;
  begun = begun_on m (line_of at.line at.last b) at.begun;
}

-- A fault of a string, of a comment or of a statement as a whole.
abbrev pub is_whole : FaultKind → Bool
is_whole faults.OpenString = true
is_whole faults.OpenComment = true
is_whole faults.OpenStatement = true
is_whole faults.NotMapAttributes = true
is_whole faults.NotHeaderBytes = true
is_whole kind = false

-- The number of the line of a fault: the line on which a string, a comment or a statement begins that is wrong as a whole; the line
-- of the fault in the text of a statement, which begins there; else the line of the last byte that was taken.
abbrev pub fault_line : FaultKind → Lines → ℕ
fault_line (faults.Within line fault) at = min (at.begun + (line - 1)) at.line
fault_line kind at = if is_whole kind then at.begun else at.line

-- A fault with the number of its line.
abbrev pub at_line : {A B : Type 0} → Lines → Result A FaultKind → (A → Result B (ℕ × FaultKind)) → Result B (ℕ × FaultKind)
at_line at (Ok x) go_on = go_on x
at_line at (Err kind) go_on = Err (fault_line kind at, kind)

-- What has been read at the end of a text, of which this much is still to be read.
abbrev pub read_from : Lines → State → List ℕ → Result State (ℕ × FaultKind)
read_from at s [] = at_line at (finish s) (λ t. Ok t)
read_from at s (b ∷ rest) = at_line (lines_at s.mode b at) (step b s) (λ t. read_from (lines_at s.mode b at) t rest)

-- Before the first byte of a text, on its first line.
abbrev pub first_line : Lines
first_line = record { line = 1; last = 0; begun = 1 }

-- What is sought of that which has been read.
abbrev pub sought : {A : Type 0} → (State → A) → Result State (ℕ × FaultKind) → Result A (ℕ × FaultKind)
sought f (Ok s) = Ok (f s)
sought f (Err e) = Err e

-- Why a text states no content: the number of the line where it can't go on, and what is wrong there; or, where nothing is wrong, the
-- names of the files that its statements `read` name and that are not given.
pub data ReadFault : Type 0 where
  Wrong : (line : ℕ) (kind : FaultKind) → ReadFault
  Lacking : (names : List (List ℕ)) → ReadFault

-- A content that is stated where no file is lacking.
abbrev pub unless_lacking : List (List ℕ) → Content → Result Content ReadFault
unless_lacking [] c = Ok c
unless_lacking (n ∷ names) c = Err (Lacking (n ∷ names))

-- What a text states that has been read, where n files are given: those are lacking that the statements after the n-th one name.
abbrev pub stated : ℕ → Result State (ℕ × FaultKind) → Result Content ReadFault
stated n (Ok s) = unless_lacking (drop n s.said.files.named) (clear s.said.content)
stated n (Err e) = Err (Wrong e.0 e.1)

-- The content that a text of bytes in Mac OS Roman states, where these types are declared before it and its statements `read` take the
-- bytes of these files in turn. The content is without resChanged, mapCompact and mapChanged, which no stored fork has.
unfoldable pub read_roman : List Declared → List (List ℕ) → List ℕ → Result Content ReadFault
read_roman types files text = stated (length files) (read_from first_line (start place.Outside types files) text)

-- The same for a text that has been made Mac OS Roman, or is none.
abbrev pub read_made : List Declared → List (List ℕ) → Result (List ℕ) (ℕ × FaultKind) → Result Content ReadFault
read_made types files (Ok text) = read_roman types files text
read_made types files (Err e) = Err (Wrong e.0 e.1)

-- The same for any text, in its coding.
unfoldable pub read : List Declared → List (List ℕ) → List ℕ → Result Content ReadFault
read types files text = read_made types files (as_roman text)

-- The types that are declared after a text of declarations.
unfoldable pub read_roman_declarations : List Declared → List ℕ → Result (List Declared) (ℕ × FaultKind)
read_roman_declarations types text =
    sought (λ s. s.said.types) (read_from first_line (start place.Declaration types []) text)

abbrev pub read_made_declarations : List Declared → Result (List ℕ) (ℕ × FaultKind) → Result (List Declared) (ℕ × FaultKind)
read_made_declarations types (Ok text) = read_roman_declarations types text
read_made_declarations types (Err e) = Err e

unfoldable pub read_declarations : List Declared → List ℕ → Result (List Declared) (ℕ × FaultKind)
read_declarations types text = read_made_declarations types (as_roman text)

-- What a text states that stands one line further down.
abbrev pub later : Result Content ReadFault → Result Content ReadFault
later (Ok c) = Ok c
later (Err (Wrong line kind)) = Err (Wrong (line + 1) kind)
later (Err (Lacking names)) = Err (Lacking names)

-- What a function found to be wrong at the end of a text, if anything is.
abbrev pub Ends : Option FaultKind → State → Type 0
Ends None s = ended s.mode s ≡ Ok s
Ends (Some kind) s = ended s.mode s ≡ Err kind

-- A fault with the number of its line.
abbrev pub fault_at : Lines → StepFault → SourceFault
fault_at at (step_faults.Wrong kind) = fault.Text (record { line = fault_line kind at; kind = kind })
fault_at at step_faults.Memory = fault.HostMemory

-- A function has the fault of a reading; where the host is out of memory, nothing is said about the text.
abbrev pub FailsAt : {Y : Type 0} → SourceFault → Result Y (ℕ × FaultKind) → Type 0
FailsAt (fault.Text f) read = read ≡ Err (f.line, f.kind)
FailsAt (fault.Files names) read = ⊥
FailsAt fault.HostMemory read = Unit {0}

-- The result of a function, seen by `view`, is that of a reading, or its fault.
abbrev pub GivesAt : {X Y : Type 0} → (X → Y) → Result X SourceFault → Result Y (ℕ × FaultKind) → Type 0
GivesAt view (Ok x) read = read ≡ Ok (view x)
GivesAt view (Err f) read = FailsAt f read

-- The same where files may be lacking.
abbrev pub FailsBy : SourceFault → Result Content ReadFault → Type 0
FailsBy (fault.Text f) read = read ≡ Err (Wrong f.line f.kind)
FailsBy (fault.Files names) read = read ≡ Err (Lacking (names_of names.items))
FailsBy fault.HostMemory read = Unit {0}

abbrev pub Gives : Result Source SourceFault → Result Content ReadFault → Type 0
Gives (Ok source) read = read ≡ Ok (content_stated source)
Gives (Err f) read = FailsBy f read
