use Rattle.std.specs.Prelude.{ℕ, ◌==◌, nat_lt, Option, Some, None, Result, Ok, Err, List, [], ◌∷◌, length, take, drop}
use Rattle.std.specs.Prelude.{bytes_eq, codes, find, if◌then◌else◌}
use Rattle.std.specs.Option.{ok_or}
use Rattle.script_text.specs.declared.fault.FaultKind.{FaultKind}
use Rattle.script_text.specs.declared.fault.FaultKind.TheVariants.{UnknownCall, BadArgument, LongLine}
use Rattle.script_text.specs.declared.job.Act.{Act}
use Rattle.script_text.specs.declared.job.Act.TheVariants as act
use Rattle.script_text.specs.declared.job_line.JobLine.{JobLine}
use Rattle.script_text.specs.declared.job_line.JobLine.TheVariants as line
use Rattle.script_text.specs.declared.job_word.JobWord.{JobWord}
use Rattle.script_text.specs.declared.job_word.JobWord.TheVariants as word
use Rattle.script_text.specs.declared.job_word.TheConstants.{JOB_WORDS}
use Rattle.script_text.specs.Reading.{◌>>=◌}
use Rattle.script_text.specs.Token.{place, is_blank, after_blanks}
use Rattle.script_text.specs.Argument.{Kind, Label, Size, File as FileKind, Path, Value, Letters, Number, Raw, arguments}
use Rattle.script_text.specs.Script.{longest_line}

-- A line of a job, by itself.

-- What a line of a job states. Applications are named, whether or not they stand above.
pub data Stated : Type 0 where
  Memory : (size : ℕ) → Stated
  System : (path : List ℕ) → Stated
  App : (name : List ℕ) → (fork : List ℕ) → (script : List ℕ) → Stated
  File : (owner : List ℕ) → (name : List ℕ) → (path : List ℕ) → Stated
  Launch : (app : List ℕ) → Stated
  Acts : (app : List ℕ) → (act : Act) → Stated
  Rest : Stated

-- The spelling of the word with which a line of a job begins.
abbrev pub spelling : JobWord → List ℕ
spelling word.Memory = codes "memory"
spelling word.System = codes "system"
spelling word.App = codes "app"
spelling word.File = codes "file"
spelling word.Launch = codes "launch"
spelling word.Step = codes "step"
spelling word.Turn = codes "turn"
spelling word.Quit = codes "quit"
spelling word.Rest = codes "rest"

-- The word that a token spells.
unfoldable pub word_spelled : List ℕ → Option JobWord
word_spelled token = find (λ w. bytes_eq (spelling w) token) JOB_WORDS

-- The kinds of the arguments of a line, by its word.
abbrev pub kinds : JobWord → List Kind
kinds word.Memory = Size ∷ []
kinds word.System = Path ∷ []
kinds word.App = Label ∷ Path ∷ Path ∷ []
kinds word.File = Label ∷ FileKind ∷ Path ∷ []
kinds word.Launch = Label ∷ []
kinds word.Step = Label ∷ []
kinds word.Turn = Label ∷ []
kinds word.Quit = Label ∷ []
kinds word.Rest = []

-- What a line states, by its word and the values of its arguments.
abbrev pub stated : JobWord → List Value → Result Stated FaultKind
stated word.Memory (Number size ∷ []) = Ok (Memory size)
stated word.System (Raw path ∷ []) = Ok (System path)
stated word.App (Letters name ∷ Raw fork ∷ Raw script ∷ []) = Ok (App name fork script)
stated word.File (Letters owner ∷ Raw name ∷ Raw path ∷ []) = Ok (File owner name path)
stated word.Launch (Letters app ∷ []) = Ok (Launch app)
stated word.Step (Letters app ∷ []) = Ok (Acts app act.Step)
stated word.Turn (Letters app ∷ []) = Ok (Acts app act.Turn)
stated word.Quit (Letters app ∷ []) = Ok (Acts app act.Quit)
stated word.Rest [] = Ok Rest
stated _ _ = Err BadArgument

-- What a line states, by its word and the text after its first token.
abbrev pub word_line : JobWord → List ℕ → Result Stated FaultKind
word_line word rest = arguments (kinds word) rest >>= stated word

-- What a line states, by its first token and the text after it.
unfoldable pub token_line : List ℕ → List ℕ → Result Stated FaultKind
token_line token rest = ok_or (word_spelled token) UnknownCall >>= λ word. word_line word rest

-- What a line states, by its text after the leading blanks; an empty line and a comment state nothing.
abbrev pub text_line : List ℕ → Result (Option Stated) FaultKind
text_line [] = Ok None
text_line (c ∷ rest) =
    if c == 35 then Ok None
    else (token_line (take (place is_blank (c ∷ rest)) (c ∷ rest)) (drop (place is_blank (c ∷ rest)) (c ∷ rest))
    >>= λ line. Ok (Some line))

-- What a line states, or its fault; a line that is too long has that fault before any other.
unfoldable pub job_line : List ℕ → Result (Option Stated) FaultKind
job_line line = if nat_lt longest_line (length line) then Err LongLine else text_line (after_blanks line)

-- A line of the code, as the definitions see it.
abbrev pub line_seen : JobLine → Stated
line_seen (line.Memory size) = Memory size
line_seen (line.System path) = System path.now
line_seen (line.App name fork script) = App name.0.items fork.now script.now
line_seen (line.File owner name path) = File owner.0.items name.0.items path.now
line_seen (line.Launch app) = Launch app.0.items
line_seen (line.Act app act) = Acts app.0.items act
line_seen line.Rest = Rest
