use Rattle.std.specs.Prelude.{ℕ, ◌+◌, Bool, false, Option, Some, None, List, [], ◌∷◌, ◌++◌, length, if◌then◌else◌}
use Rattle.std.specs.List.{flat_map}
use Rattle.script_text.specs.DeskLog.{fork_of}
use Rattle.res_calls.specs.Files.{File}

-- What applications and runs leave.

-- What a launched application leaves: the size of its partition, the number of its steps, whether a quit was asked
-- for, its transcript, and its files with what was written of them.
pub record Launched : Type 0 where
  pub size : ℕ
  pub steps : ℕ
  pub asked : Bool
  pub transcript : List ℕ
  pub files : List File

-- An application's name, and what it leaves if it was launched.
pub record AppResult : Type 0 where
  pub name : List ℕ
  pub launched : Option Launched

-- A line for each file, from the `k`-th on, whose fork was written.
abbrev pub fork_told : List ℕ → ℕ → File → List ℕ
fork_told name k f = if f.written then fork_of name k f.name (length f.fork) else []

abbrev pub forks_told : List ℕ → ℕ → List File → List ℕ
forks_told name k [] = []
forks_told name k (f ∷ files) = fork_told name k f ++ forks_told name (k + 1) files

abbrev pub forks_of : AppResult → List ℕ
forks_of t = by_launched t.launched
  where
    by_launched : Option Launched → List ℕ
    by_launched None = []
    by_launched (Some l) = forks_told t.name 0 l.files

-- The number of steps that the applications took, all together.
abbrev pub steps_of : Option Launched → ℕ
steps_of None = 0
steps_of (Some l) = l.steps

abbrev pub steps_shown : List AppResult → ℕ
steps_shown [] = 0
steps_shown (t ∷ told) = steps_of t.launched + steps_shown told

-- What a run leaves: the number of its events that were completed; the desk's log, which ends with the forks that were
-- written; what the applications leave; and whether the run stopped since the host was out of memory.
pub record Outcome : Type 0 where
  pub done : ℕ
  pub log : List ℕ
  pub apps : List AppResult
  pub stopped : Bool

abbrev pub outcome_told : ℕ → List ℕ → List AppResult → Outcome
outcome_told done log apps =
    record { done = done; log = log ++ flat_map forks_of apps; apps = apps; stopped = false }
