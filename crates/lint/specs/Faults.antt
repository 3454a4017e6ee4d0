use Rattle.std.specs.Prelude.{◌≡◌, ℕ, ◌+◌, Option, Some, None, Result, Ok, Err, List, [], ◌∷◌, ◌++◌, map, if◌then◌else◌}
use Rattle.std.specs.Str.Lines.{lines}
use Rattle.script_text.specs.declared.fault.FaultKind.{FaultKind}
use Rattle.script_text.specs.declared.fault.FaultKind.TheVariants.{BadArgument}
use Rattle.script_text.specs.Job as job
use Rattle.script_text.specs.Job.{with_line, nothing, job_of}
use Rattle.script_text.specs.Script.{Above, Statement, Begun, sets_missing, read_at, no_lines, script_of}

-- The faulty lines of a text, each by its number, with its fault. What a line may state, and where, is what the reader
-- of scripts says.

-- What the n-th line leaves to the lines after it: what it states; or its fault, and what the lines above it stated.
abbrev pub noted : {A : Type 0} → ℕ → A → Result A FaultKind → (A → List (ℕ × FaultKind)) → List (ℕ × FaultKind)
noted n above (Ok next) go_on = go_on next
noted n above (Err kind) go_on = (n, kind) ∷ go_on above

-- The lines of the statements that set a grow-zone script which is nowhere in the text.
abbrev pub missing_lines : Above → List Statement → List ℕ
missing_lines above [] = []
missing_lines above (s ∷ more) =
    if sets_missing above s.said then s.line ∷ missing_lines above more else missing_lines above more

-- The line of a `grow` whose `end` does not come.
abbrev pub begun_lines : Option Begun → List ℕ
begun_lines None = []
begun_lines (Some b) = b.line ∷ []

-- A line that is at fault because of what does not follow.
abbrev pub unfinished_at : ℕ → ℕ × FaultKind
unfinished_at line = (line, BadArgument)

-- The lines that are at fault because of what does not follow: those that set a grow-zone script which is nowhere in the
-- text, and a `grow` without `end`.
abbrev pub unfinished_lines : Above → List (ℕ × FaultKind)
unfinished_lines above =
    map unfinished_at (missing_lines above above.steps) ++ map unfinished_at (begun_lines above.begun)

-- The faulty lines from the n-th on: those that the reader of a line refuses, after what the lines above have stated,
-- where a faulty line states nothing; then those that are at fault because of what does not follow.
abbrev pub faults_from : ℕ → Above → List (List ℕ) → List (ℕ × FaultKind)
faults_from n above [] = unfinished_lines above
faults_from n above (line ∷ more) = noted n above (read_at n above line) (λ next. faults_from (n + 1) next more)

-- The faulty lines of a script.
unfoldable pub script_faults : List ℕ → List (ℕ × FaultKind)
script_faults text = faults_from 1 no_lines (lines text)

-- The first of a list.
abbrev pub first : {A : Type 0} → List A → Option A
first [] = None
first (x ∷ xs) = Some x

-- The fault of a reading; none where the text is read.
abbrev pub fault : {A F : Type 0} → Result A F → Option F
fault (Ok x) = None
fault (Err f) = Some f

-- The first faulty line is the one that the reader of the whole script finds; there is none exactly where the reader
-- takes the script.
abbrev pub FirstIsTheReaders : Type 0
FirstIsTheReaders = (text : List ℕ) → first (script_faults text) ≡ fault (script_of text)

-- The faulty lines of a job, from the n-th on: those that the reader of a line refuses, after what the lines above have
-- stated, where a faulty line states nothing; or the first line, where none is faulty and none states the memory.
abbrev pub job_faults_from : ℕ → job.Above → List (List ℕ) → List (ℕ × FaultKind)
job_faults_from n above [] = []
job_faults_from n above (line ∷ more) =
    noted n above (with_line above line) (λ next. job_faults_from (n + 1) next more)

-- The faults that were found; where there are none, that of the whole.
abbrev pub or_of_whole : {A F : Type 0} → List F → Result A F → List F
or_of_whole [] (Ok x) = []
or_of_whole [] (Err f) = f ∷ []
or_of_whole (g ∷ faults) whole = g ∷ faults

-- The faulty lines of a job.
unfoldable pub job_faults : List ℕ → List (ℕ × FaultKind)
job_faults text = or_of_whole (job_faults_from 1 nothing (lines text)) (job_of text)

-- The first faulty line is the one that the reader of the whole job finds; there is none exactly where the reader takes
-- the job.
abbrev pub FirstIsTheJobReaders : Type 0
FirstIsTheJobReaders = (text : List ℕ) → first (job_faults text) ≡ fault (job_of text)
