use Rattle.std.specs.Prelude.{◌≡◌, ◌⊎◌, ℕ, Option, Some, None, List, [], ◌∷◌, ◌++◌, codes}
use Rattle.std.specs.Borrow.{Bor}
use Rattle.fork_commands.specs.declared.work.ForkWork.{ForkWork}
use Rattle.fork_commands.specs.declared.work.ForkWork.TheVariants.{Get, Rewrite, Change}
use Rattle.fork_commands.specs.declared.editing.Edit.{Edit}
use Rattle.fork_commands.specs.declared.editing.Edit.TheVariants.{Remove, Rename}
use Rattle.fork_commands.specs.declared.pair.PairWork.{PairWork}
use Rattle.fork_commands.specs.declared.pair.PairWork.TheVariants.{Set, SetStated, Diff, DiffText, Wrap, Merge}
use Rattle.fork_tasks.specs.declared.delivering.Target.{Target}
use Rattle.fork_tasks.specs.declared.delivering.Target.TheVariants.{Printed, NewFile}
use Rattle.fork_tasks.specs.declared.extracting.Pieces.{Pieces}
use Rattle.fork_tasks.specs.declared.extracting.Pieces.TheVariants.{Resources, Forks}
use Rattle.fork_tasks.specs.declared.linting.TextKind.{TextKind}
use Rattle.fork_tasks.specs.declared.linting.TextKind.TheVariants as kind
use Rattle.fork_tasks.specs.declared.source_printing.Part.{Part}
use Rattle.fork_tasks.specs.declared.source_printing.Part.TheVariants.{Whole, Selected}
use Rattle.job_tasks.specs.declared.playing.PlayWork.{PlayWork}
use Rattle.job_tasks.specs.declared.playing.PlayWork.TheVariants.{Transcript, Words, Leavings, Zone}
use Rattle.fork_tasks.specs.Linting as linting
use Rattle.job_tasks.specs.Loading.{AppFork, Own, System, Other}
use Rattle.job_tasks.specs.Playing.{parts_of}
use Rattle.fork_tasks.specs.SourcePrinting as printing
use Rattle.fork_tasks.specs.Assembling as assembling
use Rattle.job_tasks.specs.declared.tasks.Work.{Work}
use Rattle.job_tasks.specs.declared.tasks.Work.TheVariants as work
use Rattle.job_tasks.specs.declared.work.ToldLines.{ToldLines}
use Rattle.job_tasks.specs.declared.work.ToldLines.TheVariants as told
use Rattle.fork_tasks.specs.Surveying.{paths_of}
use Rattle.commands.specs.declared.request.Request.{Request}
use Rattle.commands.specs.declared.request.Request.TheVariants.{Look, Check, Lint, Run, Show, Play, Convert, Combine, Extract, Pack, Print}
use Rattle.commands.specs.declared.request.Request.TheVariants.{Assemble}

-- Which words of a command line ask for a request. The first word is the program's name, and the second the command's.

-- The command that makes a request, by what is asked for, if there is one.
abbrev pub look_word : Work → List ℕ
look_word (work.Script size) = codes "script"
look_word (work.Heap asked) = codes "heap"
look_word (work.Map spelling) = codes "map"
look_word (work.Describe spelling) = codes "map"
look_word work.Check = codes "check"
look_word (work.Zone asked) = codes "zone"

abbrev pub print_word : ForkWork → Option (List ℕ)
print_word (Get key) = Some (codes "get")
print_word (Rewrite packaging) = None
print_word (Change edit packaging) = None

abbrev pub edit_word : Edit → List ℕ
edit_word (Remove key) = codes "remove"
edit_word (Rename key new) = codes "rename"

abbrev pub write_word : ForkWork → Option (List ℕ)
write_word (Rewrite packaging) = Some (codes "rewrite")
write_word (Change edit packaging) = Some (edit_word edit)
write_word (Get key) = None

abbrev pub convert_word : ForkWork → Target → Option (List ℕ)
convert_word w Printed = print_word w
convert_word w (NewFile path) = write_word w

abbrev pub word_into : Target → List ℕ → Option (List ℕ)
word_into Printed word = None
word_into (NewFile path) word = Some word

abbrev pub combine_word : PairWork → Target → Option (List ℕ)
combine_word (Diff charset) Printed = Some (codes "diff")
combine_word (Diff charset) (NewFile path) = None
combine_word (DiffText form) Printed = Some (codes "diff")
combine_word (DiffText form) (NewFile path) = None
combine_word (Set setting packaging) target = word_into target (codes "set")
combine_word (SetStated setting packaging) target = word_into target (codes "set")
combine_word Wrap target = word_into target (codes "wrap")
combine_word (Merge replaces packaging) target = word_into target (codes "merge")

abbrev pub extract_word : Pieces → List ℕ
extract_word Resources = codes "extract"
extract_word Forks = codes "unwrap"

abbrev pub part_word : Part → List ℕ
part_word Whole = codes "derez"
part_word (Selected selection) = codes "show"

abbrev pub told_word : ToldLines → List ℕ
told_word told.All = codes "script"
told_word (told.Each from to) = codes "heap"

abbrev pub play_word : PlayWork → List ℕ
play_word Transcript = codes "script"
play_word (Words lines) = told_word lines
play_word (Leavings folder) = codes "script"
play_word (Zone lines) = codes "heap"

abbrev pub command_of : Request → Option (List ℕ)
command_of (Look task) = Some (look_word task.work)
command_of (Check survey) = Some (codes "check")
command_of (Lint l) = Some (codes "lint")
command_of (Run errand) = Some (codes "run")
command_of (Show zone) = Some (codes "heap")
command_of (Play playing) = Some (play_word playing.work)
command_of (Convert c) = convert_word c.work c.target
command_of (Combine c) = combine_word c.work c.target
command_of (Extract e) = Some (extract_word e.pieces)
command_of (Pack p) = Some (codes "pack")
command_of (Print r) = Some (part_word r.part)
command_of (Assemble a) = Some (codes "rez")

-- The texts are words of the command line, in this order.
abbrev pub StandIn : List (List ℕ) → List (List ℕ) → Type 0
StandIn words [] = Unit {0}
StandIn words (text ∷ texts) =
    (before : List (List ℕ)) × (rest : List (List ℕ)) × (words ≡ before ++ text ∷ rest) × StandIn rest texts

-- An option has this value: the value is the word after the option's, or stands after `=` in one word with it.
abbrev pub HasValue : List (List ℕ) → List ℕ → List ℕ → Type 0
HasValue words option value = StandsAfter words ⊎ StandsWithin words
  where
    StandsAfter : List (List ℕ) → Type 0
    StandsAfter words = (before : List (List ℕ)) × (rest : List (List ℕ)) × (words ≡ before ++ option ∷ value ∷ rest)

    StandsWithin : List (List ℕ) → Type 0
    StandsWithin words = StandIn words ((option ++ codes "=" ++ value) ∷ [])

-- An option has these values, in this order: each is given by a word, or by a word and the one after it; the words that follow give
-- it the others.
abbrev pub IsGiven : List ℕ → List ℕ → List ℕ → List (List ℕ) → Type 0
IsGiven option value word rest = (word ≡ option ++ codes "=" ++ value) ⊎ StandsBeside option value word rest
  where
    StandsBeside : List ℕ → List ℕ → List ℕ → List (List ℕ) → Type 0
    StandsBeside option value word rest = (word ≡ option) × (more : List (List ℕ)) × (rest ≡ value ∷ more)

abbrev pub HasValues : List (List ℕ) → List ℕ → List (List ℕ) → Type 0
HasValues words option [] = Unit {0}
HasValues words option (value ∷ values) = (before : List (List ℕ)) × (word : List ℕ) × (rest : List (List ℕ))
    × (words ≡ before ++ word ∷ rest) × IsGiven option value word rest × HasValues rest option values

-- An option has this value, if there is one.
abbrev pub MayHaveValue : List (List ℕ) → List ℕ → Option (Bor (List ℕ)) → Type 0
MayHaveValue words option None = Unit {0}
MayHaveValue words option (Some value) = HasValue words option value.now

-- The path of a new file, if what is made goes into one.
abbrev pub path_in : Target → List (List ℕ)
path_in Printed = []
path_in (NewFile path) = path.now ∷ []

-- A file is given by the value of its option: its path, or its name and its path with `=` between them.
abbrev pub IsPart : List (List ℕ) → AppFork → Type 0
IsPart words (Own path) = HasValue words (codes "--fork") path
IsPart words (System path) = HasValue words (codes "--system") path
IsPart words (Other name path) = HasValue words (codes "--file") (name ++ codes "=" ++ path)

abbrev pub AreParts : List (List ℕ) → List AppFork → Type 0
AreParts words [] = Unit {0}
AreParts words (part ∷ parts) = IsPart words part × AreParts words parts

-- The folder that is made, if one is, is the value of its option.
abbrev pub IsPlayFolder : List (List ℕ) → PlayWork → Type 0
IsPlayFolder words Transcript = Unit {0}
IsPlayFolder words (Words lines) = Unit {0}
IsPlayFolder words (Leavings folder) = HasValue words (codes "--write") folder.now
IsPlayFolder words (Zone lines) = Unit {0}

-- The words ask for what the files of `lint` are read as, if something is asked for.
abbrev pub IsKindAsked : List (List ℕ) → Option TextKind → Type 0
IsKindAsked words None = Unit {0}
IsKindAsked words (Some kind.Job) = StandIn words (codes "--job" ∷ [])
IsKindAsked words (Some kind.Source) = StandIn words (codes "--rez" ∷ [])
IsKindAsked words (Some kind.Script) = ⊥

-- The words after the command's name all that the request names, in the order of the command's arguments.
abbrev pub Names : Request → List (List ℕ) → Type 0
Names (Look task) words = StandIn words (task.path.now ∷ [])
Names (Check survey) words = StandIn words (paths_of survey)
Names (Lint l) words = IsKindAsked words l.asked × HasValues words (codes "--types") (linting.types_read l)
    × StandIn words (linting.paths_of l)
Names (Run errand) words = StandIn words (errand.job.now ∷ errand.out.now ∷ [])
Names (Show zone) words = HasValue words (codes "--job") zone.job.now × HasValue words (codes "--app") zone.app.now
Names (Play r) words = AreParts words (parts_of r) × IsPlayFolder words r.work × StandIn words (r.script.now ∷ [])
Names (Convert c) words = StandIn words (c.path.now ∷ path_in c.target)
Names (Combine c) words = StandIn words (c.first.now ∷ c.second.now ∷ path_in c.target)
Names (Extract e) words = StandIn words (e.fork.now ∷ e.out.now ∷ [])
Names (Pack p) words = StandIn words (p.folder.now ∷ p.out.now ∷ [])
Names (Print r) words = HasValues words (codes "--types") (printing.types_read r) × StandIn words (r.fork.now ∷ [])
Names (Assemble a) words = HasValues words (codes "--types") (assembling.types_read a) × MayHaveValue words (codes "--into") a.into
    × StandIn words (a.source.now ∷ a.out.now ∷ [])

-- The words ask for the request.
pub record IsAskedBy (words : List (List ℕ)) (request : Request) : Type 0 where
  pub program : List ℕ
  pub command : List ℕ
  pub rest : List (List ℕ)
  pub split : words ≡ program ∷ command ∷ rest
  pub commanded : command_of request ≡ Some command
  pub named : Names request rest
