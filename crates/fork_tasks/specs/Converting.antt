use Rattle.std.specs.Prelude.{◌≡◌, ℕ, Option, Ok, List, [], ◌∷◌}
use Rattle.fork_commands.specs.Works.{made}
use Rattle.fork_tasks.specs.declared.converting.Conversion.{Conversion}
use Rattle.fork_tasks.specs.Accesses.{Access, Read, and_then, IsUnread}
use Rattle.fork_tasks.specs.Delivering.{Delivers, IsUndelivered}
use Rattle.fork_tasks.specs.Fault.{Message, IsForkFault}

-- A file is read, and what is made of its bytes is printed or written. `p` and `q` are the bytes that have been printed
-- before and after, `old` and `new` the accesses to files.

-- The file was read, and all that the work makes of its bytes was delivered.
abbrev pub Converts
    : Conversion → Option (List ℕ) → Option (List ℕ) → Option (List Access) → Option (List Access) → Type 0
Converts c p q old new =
    (bytes : List ℕ) × (out : List ℕ) × (made c.work bytes ≡ Ok out)
    × Delivers c.target out p q (and_then old (Read c.path.now bytes ∷ [])) new

-- The file can't be read, nothing is made of its bytes, or what was made of them was not delivered to its end.
pub data IsUnconverted
    (c : Conversion) (p q : Option (List ℕ)) (old new : Option (List Access)) (message : Message) : Type 0 where
  Unread : q ≡ p → IsUnread c.path.now old new message → IsUnconverted c p q old new message
  Unmade : (bytes : List ℕ) → q ≡ p → new ≡ and_then old (Read c.path.now bytes ∷ [])
      → IsForkFault c.path.now (made c.work bytes) message → IsUnconverted c p q old new message
  Undelivered : (bytes out : List ℕ) → made c.work bytes ≡ Ok out
      → IsUndelivered c.target out p q (and_then old (Read c.path.now bytes ∷ [])) new message
      → IsUnconverted c p q old new message
