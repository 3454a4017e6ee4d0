use Rattle.std.specs.Prelude.{◌≡◌, ℕ, Option, List, [], ◌∷◌, codes}
use Rattle.std.specs.Io.KnownBytes.{append_known}
use Rattle.fork_tasks.specs.declared.delivering.Target.{Target}
use Rattle.fork_tasks.specs.declared.delivering.Target.TheVariants.{Printed, NewFile}
use Rattle.fork_tasks.specs.Accesses.{Access, Write, and_then, IsUnwritten, IsPartWritten}
use Rattle.fork_tasks.specs.Fault.{Message}
use Rattle.fork_tasks.specs.Printing.{PrintsFront}

-- Where bytes go: to the standard output, or into a new file. `p` and `q` are the bytes that have been printed before and
-- after, `old` and `new` the accesses to files.

-- All bytes went there, and nothing else was printed or written.
abbrev pub Delivers
    : Target → List ℕ → Option (List ℕ) → Option (List ℕ) → Option (List Access) → Option (List Access) → Type 0
Delivers Printed bytes p q old new = (q ≡ append_known p bytes) × (new ≡ old)
Delivers (NewFile path) bytes p q old new = (q ≡ p) × (new ≡ and_then old (Write path.now bytes ∷ []))

-- The bytes did not go there, or a front of them did; nothing else was printed or written.
abbrev pub IsUndelivered
    : Target → List ℕ → Option (List ℕ) → Option (List ℕ) → Option (List Access) → Option (List Access) → Message → Type 0
IsUndelivered Printed bytes p q old new message = PrintsFront bytes p q × IsUnwritten (codes "-") old new message
IsUndelivered (NewFile path) bytes p q old new message = (q ≡ p) × IsPartWritten path.now bytes old new message
