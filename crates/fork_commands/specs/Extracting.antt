use Rattle.std.specs.Prelude.{ℕ, Result, Ok, List, [], ◌∷◌, ◌++◌, codes, map}
use Rattle.fork_format.specs.Content.{Content}
use Rattle.fork_edits.specs.Contents.{listed, listed_text}
use Rattle.fork_edits.specs.Filed.{Filed, filed}
use Rattle.fork_edits.specs.Resources.{rows}
use Rattle.fork_commands.specs.declared.fault.FileFault.{FileFault}
use Rattle.fork_commands.specs.Faults.{made_then}
use Rattle.fork_commands.specs.Reading.{content_in}

-- The files to which a fork is written, in a folder: one for each resource, and the list.

-- A file that is to be written: its path and its bytes.
pub record ToWrite : Type 0 where
  pub path : List ℕ
  pub bytes : List ℕ

-- The path of a file: the folder's path as it was given, a slash, and the file's name.
abbrev pub within : List ℕ → List ℕ → List ℕ
within folder name = folder ++ codes "/" ++ name

-- The file of a resource has its stored data.
abbrev pub file_of : List ℕ → Filed → ToWrite
file_of folder f = record { path = within folder f.file; bytes = f.row.resource.datum }

-- The files of resources, in their order.
abbrev pub resource_files : List ℕ → List Filed → List ToWrite
resource_files folder files = map (file_of folder) files

-- The file of the list.
abbrev pub list_file : List ℕ → Content → List Filed → ToWrite
list_file folder c files = record { path = within folder (codes "contents"); bytes = listed_text (listed c files) }

-- The files of resources and, as the last one, the list.
abbrev pub files_with : List ℕ → Content → List Filed → List ToWrite
files_with folder c files = resource_files folder files ++ list_file folder c files ∷ []

-- The files of a content.
abbrev pub files_of : List ℕ → Content → List ToWrite
files_of folder c = files_with folder c (filed (rows c.groups))

-- The files of the fork in the bytes of a file, or why there are none.
abbrev pub extracted : List ℕ → List ℕ → Result (List ToWrite) FileFault
extracted folder bytes = made_then (content_in bytes) (λ c. Ok (files_of folder c))
