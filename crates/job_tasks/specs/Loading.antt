use Rattle.std.specs.Prelude.{ℕ, Option, Some, None, option_map, Result, Ok, List, [], ◌∷◌, ◌++◌, map}
use Rattle.fork_commands.specs.Reading.{fork_in}
use Rattle.fork_format.specs.Canonical.{canon}
use Rattle.applications.specs.Trying.{no_content}
use Rattle.job_tasks.specs.declared.loading.Forks.{Forks}
use Rattle.job_tasks.specs.declared.loading.AppFork as declared
use Rattle.job_tasks.specs.declared.loading.AppFork.TheVariants as part
use Rattle.fork_tasks.specs.Fault.{Message}
use Rattle.job_tasks.specs.Gathering.{Found, GivenFile, GivenSource, fork_told, given_then, with_source, file_given, fork_found}
use Rattle.job_tasks.specs.Gathering.{source_given}

-- What an application is given that runs alone: its own fork, that of the System file, and those of its other files, each read
-- at a path.

-- A file whose fork is read: the application's own, the System file, or another one by its name.
pub data AppFork : Type 0 where
  Own : (path : List ℕ) → AppFork
  System : (path : List ℕ) → AppFork
  Other : (name : List ℕ) → (path : List ℕ) → AppFork

abbrev pub part_seen : declared.AppFork → AppFork
part_seen (part.Own path) = Own path.now
part_seen (part.System path) = System path.now
part_seen (part.Other word name path) = Other name.0.items path.now

abbrev pub path_of : AppFork → List ℕ
path_of (Own path) = path
path_of (System path) = path
path_of (Other name path) = path

-- The path of the application's own fork, and that of the System file: that of the first such part, or an empty path if there
-- is no such part.
abbrev pub own_path : List AppFork → List ℕ
own_path [] = []
own_path (Own path ∷ parts) = path
own_path (System path ∷ parts) = own_path parts
own_path (Other name path ∷ parts) = own_path parts

abbrev pub system_path : List AppFork → List ℕ
system_path [] = []
system_path (Own path ∷ parts) = system_path parts
system_path (System path ∷ parts) = path
system_path (Other name path ∷ parts) = system_path parts

-- The application's own fork with its source; the System file's fork, if it is given; and the application's other files in
-- their order, with the sources of their forks.
pub record Given : Type 0 where
  pub own : Found (List ℕ)
  pub system : Option (List ℕ)
  pub files : List GivenFile
  pub sources : List GivenSource

-- What is given without a part: the application's own fork has no resources, and there is no other file.
abbrev pub nothing_given : Given
nothing_given = record { own = (canon no_content, None); system = None; files = []; sources = [] }

-- What is given with a part more, whose fork was found.
abbrev pub with_found : AppFork → Found (List ℕ) → Given → Given
with_found (Own path) found given = record given { own = found }
with_found (System path) found given = record given { system = Some found.0 }
with_found (Other name path) found given = record given {
  files = given.files ++ record { name = name; fork = found.0 } ∷ [];
  sources = with_source 0 found.1 given.sources;
}

-- What is given with a part more, by the bytes that were read at its path, or how the wrapper of its fork is damaged.
abbrev pub with_part : Given → AppFork → List ℕ → Result Given Message
with_part given p bytes =
    given_then (fork_told (path_of p) bytes (fork_in bytes)) (λ found. Ok (with_found p found given))

abbrev pub with_parts : Given → List AppFork → List (List ℕ) → Result Given Message
with_parts given [] texts = Ok given
with_parts given (p ∷ parts) [] = Ok given
with_parts given (p ∷ parts) (bytes ∷ texts) = given_then (with_part given p bytes) (λ next. with_parts next parts texts)

-- The sources of the forks of all files of the application, its own first.
abbrev pub sources_of : Given → List GivenSource
sources_of given = record { app = 0; file = given.own.1 } ∷ given.sources

-- The values of the code, as the definitions see them.
abbrev pub forks_seen : Forks → Given
forks_seen forks = record {
  own = fork_found forks.own;
  system = option_map (λ fork. fork.items) forks.system;
  files = map file_given forks.files.items;
  sources = map source_given forks.sources.items;
}
