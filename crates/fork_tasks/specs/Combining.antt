use Rattle.std.specs.Prelude.{◌≡◌, ℕ, Bool, Option, Result, Err, List, [], ◌∷◌}
use Rattle.fork_commands.specs.declared.fault.FileFault.{FileFault}
use Rattle.fork_commands.specs.declared.pair.Place.{Place}
use Rattle.fork_commands.specs.declared.pair.Place.TheVariants.{First, Second}
use Rattle.fork_commands.specs.declared.pair.PairFault.{PairFault}
use Rattle.fork_commands.specs.declared.pair.PairFault.TheVariants as pair_fault
use Rattle.fork_commands.specs.Pairs.{Gives, Names, combined}
use Rattle.fork_tasks.specs.declared.combining.Combination.{Combination}
use Rattle.fork_tasks.specs.Accesses.{Access, Read, and_then, IsUnread}
use Rattle.fork_tasks.specs.declared.ending.Ending.{Ending}
use Rattle.fork_tasks.specs.Delivering.{Delivers, IsUndelivered}
use Rattle.fork_tasks.specs.Ending.{ending_of}
use Rattle.fork_tasks.specs.Fault.{Message, Usage, CannotRead, Script, Fork, CannotWrite, HostMemory, NotLaunched, Dump}

-- Two files are read, and what is made of their bytes is printed or written. `p` and `q` are the bytes that have been
-- printed before and after, `old` and `new` the accesses to files.

-- The path of one of two files.
abbrev pub path_at : Place → List ℕ → List ℕ → List ℕ
path_at First first second = first
path_at Second first second = second

-- The fault of the bytes of two files, with the path of the file.
abbrev pub pair_message : List ℕ → List ℕ → PairFault → Message
pair_message first second pair_fault.HostMemory = HostMemory
pair_message first second (pair_fault.File place fault) = Fork (path_at place first second) fault

-- The fault of the bytes of two files on which a work is done; if the host is out of memory nothing is said of them.
abbrev pub IsPairFault : {A : Type 0} → List ℕ → List ℕ → Result A (Place × FileFault) → Message → Type 0
IsPairFault first second made HostMemory = Unit {0}
IsPairFault first second made (Fork named fault) =
    (place : Place) × (named ≡ path_at place first second) × (made ≡ Err (place, fault))
IsPairFault first second made (Usage message) = ⊥
IsPairFault first second made (CannotRead named) = ⊥
IsPairFault first second made (Script named line kind) = ⊥
IsPairFault first second made (CannotWrite named) = ⊥
IsPairFault first second made (NotLaunched named app) = ⊥
IsPairFault first second made (Dump named why) = ⊥

-- The names of the files in what is made: their paths as they were given.
abbrev pub names_of : Combination → Names
names_of c = record { first = c.first.now; second = c.second.now }

-- The files were read, one after the other.
abbrev pub reads_both : Combination → List ℕ → List ℕ → List Access
reads_both c first second = Read c.first.now first ∷ Read c.second.now second ∷ []

-- Both files were read, and all that the work makes of their bytes was delivered; the ending says whether the work found
-- that what they hold differs.
abbrev pub Combines
    : Combination → Ending → Option (List ℕ) → Option (List ℕ) → Option (List Access) → Option (List Access) → Type 0
Combines c ending p q old new =
    (first : List ℕ) × (second : List ℕ) × (out : List ℕ) × (differs : Bool)
    × Gives (names_of c) (combined c.work first second) out differs × (ending ≡ ending_of differs)
    × Delivers c.target out p q (and_then old (reads_both c first second)) new

-- A file can't be read, nothing is made of the bytes, or what was made of them was not delivered to its end.
pub data IsUncombined
    (c : Combination) (p q : Option (List ℕ)) (old new : Option (List Access)) (message : Message) : Type 0 where
  FirstUnread : q ≡ p → IsUnread c.first.now old new message → IsUncombined c p q old new message
  SecondUnread : (first : List ℕ) → q ≡ p
      → IsUnread c.second.now (and_then old (Read c.first.now first ∷ [])) new message → IsUncombined c p q old new message
  Unmade : (first second : List ℕ) → q ≡ p → new ≡ and_then old (reads_both c first second)
      → IsPairFault c.first.now c.second.now (combined c.work first second) message → IsUncombined c p q old new message
  Undelivered : (first second out : List ℕ) (differs : Bool) → Gives (names_of c) (combined c.work first second) out differs
      → IsUndelivered c.target out p q (and_then old (reads_both c first second)) new message
      → IsUncombined c p q old new message
