use Rattle.fork_commands.proofs.Cited.{◌≡◌, ◌≢◌, ◌↔◌, ℕ, IsTrue, Result, Ok, Err, List, [], refl, sym, ap, END_OF_FILE, MAP_READ, ForkFault}
use Rattle.fork_commands.proofs.Cited.{read_code, Content, Spells, IsUnspelled, WorkFault, of_code, Stops, canon, fits, content_or_fault}
use Rattle.fork_commands.proofs.Cited.{content_of_fork, fork_in, content_in, canonical}
use Rattle.fork_format.specs.declared.fault.ForkFault.TheVariants as fork_fault
use Rattle.fork_format.proofs.Codes.{spelled as has_content, refused as has_code}

-- The content of a fork.

-- bytes that spell a content have it
pub spelled : (bytes : List ℕ) (c : Content) → Spells bytes c → content_of_fork bytes ≡ Ok c
unfolding content_of_fork
spelled bytes c spells = ap content_or_fault (has_content bytes c spells)

-- why bytes that a reader refuses have none
pub refused : {A : Type 0} (bytes : List ℕ) (result : Result A ForkFault) (fault : ForkFault)
    → ((result ≡ Err fork_fault.Empty) ↔ (bytes ≡ []))
    → ((result ≡ Err fork_fault.BadMap) ↔ ((bytes ≢ []) × IsUnspelled bytes)) → result ≡ Err fault
    → Stops (of_code (read_code fault)) (content_of_fork bytes)
unfolding content_of_fork
refused bytes result fork_fault.Empty empty bad is =
    ap content_or_fault (has_code bytes result fork_fault.Empty END_OF_FILE empty bad is refl)
refused bytes result fork_fault.BadMap empty bad is =
    ap content_or_fault (has_code bytes result fork_fault.BadMap MAP_READ empty bad is refl)
refused bytes result fork_fault.HostMemory empty bad is = tt

-- a content that fits is written as its canonical fork
pub fitting : (c : Content) (fork : List ℕ) → IsTrue (fits c) → fork ≡ canon c → canonical c ≡ Ok fork
fitting c fork fit is = rw fit (ap Ok (sym is))

-- the content of the fork in a file is that of the file
pub content_there : (bytes fork : List ℕ) (c : Content) → fork_in bytes ≡ Ok fork → content_of_fork fork ≡ Ok c
    → content_in bytes ≡ Ok c
content_there bytes fork c found has = rw found has

-- why the fork in a file has no content
pub stopped_there : (bytes fork : List ℕ) (fault : WorkFault) → fork_in bytes ≡ Ok fork
    → Stops fault (content_of_fork fork) → Stops fault (content_in bytes)
stopped_there bytes fork fault found stops = rw found stops
