-- Files that can't be opened.
use Rattle.fork_tasks.proofs.Cited.{◌≡◌, ℕ, List, Option, Result, Ok, Err, refl, subst, FileFault, opened, data_in, parted, fork_in}
use Rattle.fork_tasks.proofs.Cited.{content_in, no_fork, Pieces, Resources, to_write, Message, Usage, CannotRead, Script, Fork, CannotWrite}
use Rattle.fork_tasks.proofs.Cited.{HostMemory, NotLaunched, Dump, IsForkFault}
use Rattle.fork_commands.specs.declared.fault.WorkFault.TheVariants.{File as FileAt}
use Rattle.fork_tasks.specs.declared.extracting.Pieces.TheVariants.{Forks}

no_content : (bytes : List ℕ) (fault : FileFault) → opened bytes ≡ Err fault → content_in bytes ≡ Err fault
no_content bytes fault is =
    let none : fork_in bytes ≡ Err fault = no_fork bytes (FileAt fault) is in
    rw none refl

no_pieces : (pieces : Pieces) (folder bytes : List ℕ) (fault : FileFault) → opened bytes ≡ Err fault
    → to_write pieces folder bytes ≡ Err fault
unfolding data_in
no_pieces Resources folder bytes fault is = rw (no_content bytes fault is) refl
no_pieces Forks folder bytes fault is = rw is refl

-- the fault of a file that can't be opened is that of whatever is made of it
passed : {A B : Type 0} (path : List ℕ) (made : Result A FileFault) (other : Result B FileFault) (message : Message)
    → ((fault : FileFault) → made ≡ Err fault → other ≡ Err fault) → IsForkFault path made message
    → IsForkFault path other message
passed path made other HostMemory next is = tt
passed path made other (Fork named fault) next is = (is.0, next fault is.1)
passed path made other (Usage text) next is = absurd is
passed path made other (CannotRead named) next is = absurd is
passed path made other (Script named line kind) next is = absurd is
passed path made other (CannotWrite named) next is = absurd is
passed path made other (NotLaunched named app) next is = absurd is
passed path made other (Dump named why) next is = absurd is

pub unlisted : (path bytes : List ℕ) (message : Message) → IsForkFault path (opened bytes) message
    → IsForkFault path (content_in bytes) message
unlisted path bytes message is = passed path (opened bytes) (content_in bytes) message (no_content bytes) is

pub unwritten_pieces : (pieces : Pieces) (path folder bytes : List ℕ) (message : Message)
    → IsForkFault path (opened bytes) message → IsForkFault path (to_write pieces folder bytes) message
unwritten_pieces pieces path folder bytes message is =
    passed path (opened bytes) (to_write pieces folder bytes) message (no_pieces pieces folder bytes) is
