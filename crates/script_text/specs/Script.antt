use Rattle.std.specs.Prelude.{◌≡◌, ℕ, ◌+◌, ◌==◌, nat_lt, Bool, false, ◌&&◌, ◌||◌, not, IsTrue, bytes_eq, codes, Option}
use Rattle.std.specs.Prelude.{Some, None, is_some, Result, Ok, Err, List, [], ◌∷◌, ◌++◌, map, length, take, drop, find}
use Rattle.std.specs.Prelude.{unwrap_or, min, if◌then◌else◌}
use Rattle.std.specs.List.{list_all}
use Rattle.std.specs.Map.{lookup}
use Rattle.std.specs.Option.{ok_or, option_map}
use Rattle.std.specs.Str.Lines.{lines}
use Rattle.mac_words.specs.declared.call.Call.{Call}
use Rattle.script_text.specs.declared.fault.FaultKind.{FaultKind}
use Rattle.script_text.specs.declared.fault.FaultKind.TheVariants.{UnknownCall, BadArgument, NotAllowed, LongLine}
use Rattle.script_text.specs.declared.script_lines.Begun as declared
use Rattle.script_text.specs.declared.script.Line.{Line}
use Rattle.script_text.specs.declared.word.CallWord.{CallWord}
use Rattle.script_text.specs.declared.word.CallWord.TheVariants as word
use Rattle.script_text.specs.Named.{put_named}
use Rattle.script_text.specs.Reading.{◌>>=◌}
use Rattle.script_text.specs.Token.{place, is_blank, after_blanks}
use Rattle.script_text.specs.Argument.{Label, Value, Letters, arguments}
use Rattle.script_text.specs.Call.{spoken, may_stand, is_allowed, word_spelled, call_read}

-- A script that was read.

-- The steps of a script, and its grow-zone scripts in the order of their names, each with its name and its lines.
pub record ScriptParts : Type 0 where
  pub steps : List Line
  pub blocks : List (List ℕ × List Line)

-- Whether there is a grow-zone script of this name.
abbrev pub has_block : {X : Type 0} → List ℕ → List (List ℕ × X) → Bool
has_block name blocks = is_some (lookup (bytes_eq name) blocks)

-- The lines of the grow-zone script of this name; no lines where there is no such script.
abbrev pub block_of : List ℕ → List (List ℕ × List Line) → List Line
block_of name blocks = unwrap_or (lookup (bytes_eq name) blocks) []

-- Whether each line holds a call that is allowed in a grow-zone script.
abbrev pub are_allowed : List Line → Bool
are_allowed lines = list_all (λ l. is_allowed l.call) lines

-- The grow-zone scripts hold only calls that are allowed in one.
abbrev pub AllAllowed : List (List ℕ × List Line) → Type 0
AllAllowed blocks = IsTrue (list_all (λ block. are_allowed block.1) blocks)

-- No grow-zone script is named `none`.
-- See decision 116 (no block is named `none`).
abbrev pub NoneIsUnused : List (List ℕ × List Line) → Type 0
NoneIsUnused blocks = has_block (codes "none") blocks ≡ false

-- The text of a script.

-- What a line states: a call by its word, and the values of its arguments.
pub data Said : Type 0 where
  Makes : (word : CallWord) → (values : List Value) → Said

-- A line that holds a call: its number, from 1, and what it states.
pub record Statement : Type 0 where
  pub line : ℕ
  pub said : Said

-- What a whole text states: its steps, and its grow-zone scripts by name.
pub record Spelled : Type 0 where
  pub steps : List Statement
  pub blocks : List (List ℕ × List Statement)

-- A grow-zone script whose `end` is still to come: the number of its `grow` line, its name, and its lines so far.
pub record Begun : Type 0 where
  pub line : ℕ
  pub name : List ℕ
  pub statements : List Statement

-- What the lines so far have stated.
pub record Above : Type 0 where
  pub steps : List Statement
  pub blocks : List (List ℕ × List Statement)
  pub begun : Option Begun

-- One more statement: a step, or a line of the grow-zone script whose `end` is still to come.
abbrev pub with_statement : Statement → Above → Option Begun → Above
with_statement s above None = record { steps = above.steps ++ s ∷ []; blocks = above.blocks; begun = None }
with_statement s above (Some b) = record {
  steps = above.steps;
  blocks = above.blocks;
  begun = Some (record { line = b.line; name = b.name; statements = b.statements ++ s ∷ [] });
}

-- A call of a known word at the n-th line, by the text after the word: a grow-zone script may hold only some calls.
-- See decision 115 (in a block a call that is not allowed is fault 3).
abbrev pub call_at : ℕ → Above → CallWord → List ℕ → Result Above FaultKind
call_at n above word rest =
    if is_some above.begun && not (may_stand word) then Err NotAllowed
    else (call_read word rest >>= λ call.
    Ok (with_statement (record { line = n; said = Makes call.0 call.1 }) above above.begun))

-- Whether a name may be that of a new grow-zone script: it is not `none`, and is not used.
abbrev pub is_new : {X : Type 0} → List ℕ → List (List ℕ × X) → Bool
is_new name blocks = not (bytes_eq name (codes "none")) && not (has_block name blocks)

-- A grow-zone script of a new name that begins at the n-th line.
abbrev pub begin_at : ℕ → Above → List Value → Result Above FaultKind
begin_at n above (Letters name ∷ []) =
    if is_new name above.blocks then Ok (record {
      steps = above.steps;
      blocks = above.blocks;
      begun = Some (record { line = n; name = name; statements = [] });
    })
    else Err BadArgument
begin_at n above _ = Err BadArgument

-- A line `grow NAME`, the n-th, by the text after `grow`: the line may not stand in a grow-zone script.
abbrev pub grow_at : ℕ → Above → List ℕ → Result Above FaultKind
grow_at n above rest =
    if is_some above.begun then Err NotAllowed else (arguments (Label ∷ []) rest >>= begin_at n above)

-- The grow-zone script whose `end` comes is a whole one.
abbrev pub ended : Above → Option Begun → Above
ended above None = above
ended above (Some b) = record {
  steps = above.steps;
  blocks = put_named b.name b.statements above.blocks;
  begun = None;
}

-- A line `end`, by the text after `end`: outside a grow-zone script the word is no call.
abbrev pub end_at : Above → Option Begun → List ℕ → Result Above FaultKind
end_at above None rest = Err UnknownCall
end_at above (Some b) rest = arguments [] rest >>= λ _. Ok (ended above (Some b))

-- One more line, the n-th, by its first token and the text after it.
unfoldable pub with_token : ℕ → Above → List ℕ → List ℕ → Result Above FaultKind
with_token n above token rest =
    if bytes_eq token (codes "grow") then grow_at n above rest
    else if bytes_eq token (codes "end") then end_at above above.begun rest
    else (ok_or (word_spelled token) UnknownCall >>= λ word. call_at n above word rest)

-- One more line, the n-th, by its text after the leading blanks; an empty line and a comment are skipped.
abbrev pub with_text : ℕ → Above → List ℕ → Result Above FaultKind
with_text n above [] = Ok above
with_text n above (c ∷ rest) =
    if c == 35 then Ok above
    else with_token n above (take (place is_blank (c ∷ rest)) (c ∷ rest)) (drop (place is_blank (c ∷ rest)) (c ∷ rest))

-- The greatest number of bytes of a line.
abbrev pub longest_line : ℕ
longest_line = 65535

-- One more line, the n-th, or its fault; a line that is too long has that fault before any other.
unfoldable pub read_at : ℕ → Above → List ℕ → Result Above FaultKind
read_at n above line = if nat_lt longest_line (length line) then Err LongLine else with_text n above (after_blanks line)

-- A fault with the number of its line.
abbrev pub at_line : {A B : Type 0} → ℕ → Result A FaultKind → (A → Result B (ℕ × FaultKind)) → Result B (ℕ × FaultKind)
at_line n (Ok x) go_on = go_on x
at_line n (Err kind) go_on = Err (n, kind)

-- All lines, from the n-th on, or the first faulty one.
abbrev pub read_from : ℕ → Above → List (List ℕ) → Result Above (ℕ × FaultKind)
read_from n above [] = Ok above
read_from n above (line ∷ more) = at_line n (read_at n above line) (λ next. read_from (n + 1) next more)

-- What is stated before the first line.
abbrev pub no_lines : Above
no_lines = record { steps = []; blocks = []; begun = None }

-- Whether the grow-zone script whose `end` is still to come has this name.
abbrev pub is_begun : List ℕ → Option Begun → Bool
is_begun name None = false
is_begun name (Some b) = bytes_eq name b.name

-- Whether there is a grow-zone script of this name: there is from its `grow` line on, and `none` always stands for
-- one.
-- See decision 114 (a block of a grow-zone script is there once its `grow` line is there).
abbrev pub is_there : Above → List ℕ → Bool
is_there above name = bytes_eq name (codes "none") || has_block name above.blocks || is_begun name above.begun

-- Whether a line sets a grow-zone script that is not there.
abbrev pub sets_missing : Above → Said → Bool
sets_missing above (Makes word.SetGrowZone (Letters name ∷ [])) = not (is_there above name)
sets_missing above _ = false

-- The number of the first line that sets a grow-zone script that is not there.
abbrev pub first_missing : Above → List Statement → Option ℕ
first_missing above steps = option_map (λ s. s.line) (find (λ s. sets_missing above s.said) steps)

-- The lesser of two line numbers; where there is only one, that one.
abbrev pub lesser : Option ℕ → Option ℕ → Option ℕ
lesser None n = n
lesser (Some m) None = Some m
lesser (Some m) (Some n) = Some (min m n)

-- The number of the first line that is at fault because of what does not follow: a line that sets a grow-zone script
-- which is not there, or a `grow` line without `end`.
abbrev pub unfinished : Above → Option ℕ
unfinished above = lesser (first_missing above above.steps) (option_map (λ b. b.line) above.begun)

-- What all lines state, where no grow-zone script is missing.
abbrev pub unless_unfinished : Option ℕ → Above → Result Spelled (ℕ × FaultKind)
unless_unfinished None above = Ok (record { steps = above.steps; blocks = above.blocks })
unless_unfinished (Some n) above = Err (n, BadArgument)

-- What the lines state, or the first faulty line.
abbrev pub after_all : Result Above (ℕ × FaultKind) → Result Spelled (ℕ × FaultKind)
after_all (Ok above) = unless_unfinished (unfinished above) above
after_all (Err fault) = Err fault

-- The steps of a text and its grow-zone scripts, in order, or the number of its first faulty line and the fault. A
-- line ends at LF, and a CR right before the LF is dropped; the last LF may be missing.
unfoldable pub script_of : List ℕ → Result Spelled (ℕ × FaultKind)
script_of text = after_all (read_from 1 no_lines (lines text))

-- The values of the code, as the definitions see them.

-- What a call states.
abbrev pub said_as : Call → Said
said_as call = Makes (spoken call).0 (spoken call).1

-- A line of the code, as a `Statement` of the definitions.
abbrev pub statement : Line → Statement
statement l = record { line = l.number; said = said_as l.call }

-- The grow-zone scripts of the code, with their lines as statements.
abbrev pub blocks_seen : List (List ℕ × List Line) → List (List ℕ × List Statement)
blocks_seen blocks = map (λ block. (block.0, map statement block.1)) blocks

-- A grow-zone script of the code whose `end` is still to come, with its lines as statements.
abbrev pub begun_seen : declared.Begun → Begun
begun_seen b = record { line = b.line; name = b.name.0.items; statements = map statement b.lines.items }

-- A script of the code, with its lines as statements.
abbrev pub spelled : ScriptParts → Spelled
spelled parts = record { steps = map statement parts.steps; blocks = blocks_seen parts.blocks }
