use Rattle.std.specs.Prelude.{◌≡◌, ℕ, Option, Result, Ok, List, [], ◌∷◌, ◌++◌, length}
use Rattle.rez_statements.specs.Types.{Declared}
use Rattle.fork_commands.specs.declared.fault.FileFault.{FileFault}
use Rattle.fork_commands.specs.BuiltIn.{built_in, types_with}
use Rattle.fork_commands.specs.Faults.{made_then}
use Rattle.fork_tasks.specs.Accesses.{Access, Read, and_then, reads_at, IsUnread}
use Rattle.fork_tasks.specs.Fault.{Message, HostMemory, IsForkFault}

-- Files of declarations are read, one after another, and the types of each are declared, over those that were known before. `old`
-- and `new` are the accesses to files before and after.

-- What is known after these texts, or the fault of the first that declares nothing.
abbrev pub declared_by : List Declared → List (List ℕ) → Result (List Declared) FileFault
declared_by types [] = Ok types
declared_by types (text ∷ texts) = made_then (types_with types text) (λ more. declared_by more texts)

-- The files at these paths were read, each once, and their types are known.
abbrev pub Declares
    : List (List ℕ) → List Declared → List Declared → Option (List Access) → Option (List Access) → Type 0
Declares paths types known old new = (texts : List (List ℕ)) × (length texts ≡ length paths)
    × (declared_by types texts ≡ Ok known) × (new ≡ and_then old (reads_at paths texts))

-- A file can't be read, or it was read and its types can't be declared.
pub data IsUndeclared
    (path : List ℕ) (types : List Declared) (old new : Option (List Access)) (message : Message) : Type 0 where
  Unread : IsUnread path old new message → IsUndeclared path types old new message
  Faulty : (text : List ℕ) → new ≡ and_then old (Read path text ∷ []) → IsForkFault path (types_with types text) message
      → IsUndeclared path types old new message

-- Of the files at these paths the first were read, and their types are known; those of the next were not declared, and no
-- other was read.
pub record StopsDeclaring
    (paths : List (List ℕ)) (types : List Declared) (old new : Option (List Access)) (message : Message) : Type 0 where
  pub first : List (List ℕ)
  pub next : List ℕ
  pub rest : List (List ℕ)
  pub split : paths ≡ first ++ next ∷ rest
  pub known : List Declared
  pub mid : Option (List Access)
  pub declares : Declares first types known old mid
  pub stops : IsUndeclared next known mid new message

-- The types of the table and of the files at these paths are known.
abbrev pub Knows : List (List ℕ) → List Declared → Option (List Access) → Option (List Access) → Type 0
Knows paths known old new = Declares paths built_in known old new

-- They are not: there was no memory for those of the table, or those of a file were not declared.
pub data IsUnknown (paths : List (List ℕ)) (old new : Option (List Access)) (message : Message) : Type 0 where
  NoTable : message ≡ HostMemory → new ≡ old → IsUnknown paths old new message
  Undeclared : StopsDeclaring paths built_in old new message → IsUnknown paths old new message
