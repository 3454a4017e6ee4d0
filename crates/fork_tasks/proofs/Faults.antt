use Rattle.fork_tasks.proofs.Cited.{◌≡◌, ℕ, List, Option, Result, refl, sym, subst, FileFault, WorkFault, File, Message, Usage, CannotRead}
use Rattle.fork_tasks.proofs.Cited.{Script, Fork, CannotWrite, HostMemory, NotLaunched, Dump, fork_message, Access, IsUnwritten}
use Rattle.fork_tasks.proofs.Cited.{IsForkFault, IsQuiet}
use Rattle.fork_commands.specs.declared.fault.WorkFault.TheVariants.{HostMemory as NoMemory}
use Rattle.fork_commands.specs.Faults.{Stops}

-- What a fault says stays so as it is passed on.

-- the fault of a file's bytes is reported with the file's path
pub fork_stopped : {A : Type 0} (path : List ℕ) (fault : WorkFault) (wanted : Result A FileFault) (message : Message)
    → Stops fault wanted → message ≡ fork_message path fault → IsForkFault path wanted message
fork_stopped path NoMemory wanted message stops is = subst (λ m. IsForkFault path wanted m) (sym is) tt
fork_stopped path (File fault) wanted message stops is = subst (λ m. IsForkFault path wanted m) (sym is) (refl, stops)

-- nothing is said of what was printed where something can't be written
pub loud_write : (path : List ℕ) (p q : Option (List ℕ)) (old new : Option (List Access)) (message : Message)
    → IsUnwritten path old new message → IsQuiet p q message
loud_write path p q old new HostMemory is = tt
loud_write path p q old new (CannotWrite named) is = tt
loud_write path p q old new (Fork named fault) is = absurd (let no : Fork named fault ≡ CannotWrite path = is.0 in cc)
loud_write path p q old new (Usage text) is = absurd (let no : Usage text ≡ CannotWrite path = is.0 in cc)
loud_write path p q old new (CannotRead named) is = absurd (let no : CannotRead named ≡ CannotWrite path = is.0 in cc)
loud_write path p q old new (Script named line kind) is =
    absurd (let no : Script named line kind ≡ CannotWrite path = is.0 in cc)
loud_write path p q old new (NotLaunched named app) is =
    absurd (let no : NotLaunched named app ≡ CannotWrite path = is.0 in cc)
loud_write path p q old new (Dump named why) is =
    absurd (let no : Dump named why ≡ CannotWrite path = is.0 in cc)

-- nothing was printed
pub quiet_silent : (p q : Option (List ℕ)) (message : Message) → q ≡ p → IsQuiet p q message
quiet_silent p q HostMemory same = tt
quiet_silent p q (CannotWrite named) same = tt
quiet_silent p q (Fork named fault) same = same
quiet_silent p q (Usage text) same = same
quiet_silent p q (CannotRead named) same = same
quiet_silent p q (Script named line kind) same = same
quiet_silent p q (NotLaunched named app) same = same
quiet_silent p q (Dump named why) same = same

-- what is quiet after nothing was printed
pub quiet_from : (p mid q : Option (List ℕ)) (message : Message) → mid ≡ p → IsQuiet mid q message → IsQuiet p q message
quiet_from p mid q message same h = subst (λ x. IsQuiet x q message) same h
