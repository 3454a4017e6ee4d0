-- What stops the reading of the files that a job names.
use Rattle.job_tasks.proofs.Cited.{◌≡◌, ℕ, List, Option, Result, Err, sym, ap, subst, FaultKind, FailsAt, Spelled, Message, Usage}
use Rattle.job_tasks.proofs.Cited.{CannotRead, Script, Fork, CannotWrite, HostMemory, NotLaunched, Dump, message_of, ToolFault}
use Rattle.job_tasks.proofs.Cited.{script_message, Access, IsUnread, Stops, IsStop, IsGiven, script_told, given_then}
use Rattle.script_text.specs.declared.fault.FaultKind.TheVariants as kinds

-- a script's fault stops the reading
pub script_stop : (path text : List ℕ) (read : Result Spelled (ℕ × FaultKind)) (line : ℕ) (kind : FaultKind) (message : Message)
    → FailsAt line kind read → message ≡ script_message path line kind → IsStop (script_told path text read) message
script_stop path text read line kinds.HostMemory message fails is =
    subst (λ m. IsStop (script_told path text read) m) (sym is) tt
script_stop path text read line kinds.UnknownCall message fails is =
    subst (λ m. IsStop (script_told path text read) m) (sym is) (ap (script_told path text) fails)
script_stop path text read line kinds.BadArgument message fails is =
    subst (λ m. IsStop (script_told path text read) m) (sym is) (ap (script_told path text) fails)
script_stop path text read line kinds.NotAllowed message fails is =
    subst (λ m. IsStop (script_told path text read) m) (sym is) (ap (script_told path text) fails)
script_stop path text read line kinds.LongLine message fails is =
    subst (λ m. IsStop (script_told path text read) m) (sym is) (ap (script_told path text) fails)

pub unread_given : (A : Type 0) (path : List ℕ) (old new : Option (List Access)) (message : Message)
    → IsUnread path old new message → IsStop {Y = A} (Err (CannotRead path)) message
unread_given A path old new HostMemory unread = tt
unread_given A path old new (CannotRead named) unread = ap Err (sym unread.0)
unread_given A path old new (Usage text) unread = ap Err (sym unread.0)
unread_given A path old new (Script named line kind) unread = ap Err (sym unread.0)
unread_given A path old new (Fork named fault) unread = ap Err (sym unread.0)
unread_given A path old new (CannotWrite named) unread = ap Err (sym unread.0)
unread_given A path old new (NotLaunched named app) unread = ap Err (sym unread.0)
unread_given A path old new (Dump named why) unread = ap Err (sym unread.0)

pub script_ends : (path : List ℕ) (line : ℕ) (kind : FaultKind) (mid new : Option (List Access)) (message : Message)
    → message ≡ script_message path line kind → new ≡ mid → Stops mid new message
script_ends path line kinds.HostMemory mid new message is same = subst (λ m. Stops mid new m) (sym is) same
script_ends path line kinds.UnknownCall mid new message is same = subst (λ m. Stops mid new m) (sym is) same
script_ends path line kinds.BadArgument mid new message is same = subst (λ m. Stops mid new m) (sym is) same
script_ends path line kinds.NotAllowed mid new message is same = subst (λ m. Stops mid new m) (sym is) same
script_ends path line kinds.LongLine mid new message is same = subst (λ m. Stops mid new m) (sym is) same

-- what stops the first stops what follows
pub stop_then : {A B : Type 0} (r : Result A Message) (next : A → Result B Message) (message : Message) → IsStop r message
    → IsStop (given_then r next) message
stop_then r next HostMemory stops = tt
stop_then r next (Usage text) stops = ap (λ x. given_then x next) stops
stop_then r next (CannotRead path) stops = ap (λ x. given_then x next) stops
stop_then r next (Script path line kind) stops = ap (λ x. given_then x next) stops
stop_then r next (Fork path fault) stops = ap (λ x. given_then x next) stops
stop_then r next (CannotWrite path) stops = ap (λ x. given_then x next) stops
stop_then r next (NotLaunched path app) stops = ap (λ x. given_then x next) stops
stop_then r next (Dump path why) stops = ap (λ x. given_then x next) stops

-- the fault of a call that stopped is passed on
pub stop_given : {X Y : Type 0} (view : X → Y) (given : Result Y Message) (result : Result X ToolFault) (fault : ToolFault)
    → result ≡ Err fault → IsStop given (message_of fault) → IsGiven view given result
stop_given view given result fault is stops = subst (λ r. IsGiven view given r) (sym is) stops
