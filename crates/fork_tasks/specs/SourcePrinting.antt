use Rattle.std.specs.Prelude.{◌≡◌, ℕ, Option, Result, Ok, List, [], ◌∷◌, map}
use Rattle.rez_statements.specs.Types.{Declared}
use Rattle.fork_commands.specs.declared.fault.FileFault.{FileFault}
use Rattle.fork_commands.specs.declared.selecting.Selection.{Selection}
use Rattle.fork_commands.specs.declared.selecting.Selection.TheVariants.{All}
use Rattle.fork_commands.specs.Sources.{printed}
use Rattle.fork_tasks.specs.declared.delivering.Target.TheVariants.{Printed}
use Rattle.fork_tasks.specs.declared.source_printing.Part.{Part}
use Rattle.fork_tasks.specs.declared.source_printing.Part.TheVariants.{Whole, Selected}
use Rattle.fork_tasks.specs.declared.source_printing.Printing.{Printing}
use Rattle.fork_tasks.specs.Accesses.{Access, Read, and_then, IsUnread}
use Rattle.fork_tasks.specs.Declaring.{Knows, IsUnknown}
use Rattle.fork_tasks.specs.Delivering.{Delivers, IsUndelivered}
use Rattle.fork_tasks.specs.Fault.{Message, IsForkFault}

-- A fork is printed as source of Rez, or some of its resources are: files of declarations are read, then the fork. `p` and `q` are
-- the bytes that have been printed before and after, `old` and `new` the accesses to files.

-- What of a fork is printed.
abbrev pub selection_of : Part → Selection
selection_of Whole = All
selection_of (Selected selection) = selection

-- The paths of the files of declarations.
abbrev pub types_read : Printing → List (List ℕ)
types_read r = map (λ path. path.now) r.types.items

-- What is printed of the bytes of the fork's file, where these types are known.
abbrev pub source_of : Printing → List Declared → List ℕ → Result (List ℕ) FileFault
source_of r known bytes = printed r.form (selection_of r.part) known bytes

-- All files were read, and the whole source was printed.
pub record PrintsSource (r : Printing) (p q : Option (List ℕ)) (old new : Option (List Access)) : Type 0 where
  pub known : List Declared
  pub mid : Option (List Access)
  pub knows : Knows (types_read r) known old mid
  pub bytes : List ℕ
  pub out : List ℕ
  pub made : source_of r known bytes ≡ Ok out
  pub prints : Delivers Printed out p q (and_then mid (Read r.fork.now bytes ∷ [])) new

-- The types of a file were not declared, the fork can't be read, nothing is made of its bytes, or the source was not printed to
-- its end.
pub data IsSourceUnprinted
    (r : Printing) (p q : Option (List ℕ)) (old new : Option (List Access)) (message : Message) : Type 0 where
  Unknown : q ≡ p → IsUnknown (types_read r) old new message → IsSourceUnprinted r p q old new message
  Unread : (known : List Declared) (mid : Option (List Access)) → q ≡ p → Knows (types_read r) known old mid
      → IsUnread r.fork.now mid new message → IsSourceUnprinted r p q old new message
  Unmade : (known : List Declared) (mid : Option (List Access)) (bytes : List ℕ) → q ≡ p → Knows (types_read r) known old mid
      → new ≡ and_then mid (Read r.fork.now bytes ∷ []) → IsForkFault r.fork.now (source_of r known bytes) message
      → IsSourceUnprinted r p q old new message
  Unprinted : (known : List Declared) (mid : Option (List Access)) (bytes out : List ℕ) → Knows (types_read r) known old mid
      → source_of r known bytes ≡ Ok out
      → IsUndelivered Printed out p q (and_then mid (Read r.fork.now bytes ∷ [])) new message
      → IsSourceUnprinted r p q old new message
