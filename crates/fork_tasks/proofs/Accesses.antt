-- Accesses that are made one after the other, and what stops them.
use Rattle.fork_tasks.proofs.Cited.{◌≡◌, ◌∷◌, ◌++◌, ℕ, List, [], Option, Some, None, Result, Err, IfErr, inl, inr, refl, sym, ap, subst}
use Rattle.fork_tasks.proofs.Cited.{append_assoc, append-nil, Message, Usage, CannotRead, Script, Fork, CannotWrite, HostMemory}
use Rattle.fork_tasks.proofs.Cited.{NotLaunched, Dump, message_of, ToolFault, WriteError, FileFault, write_message, IsForkFault, Access}
use Rattle.fork_tasks.proofs.Cited.{Failed, and_then, RefusesWrite, IsUnread, IsUnwritten, Stops, Ends}
use Rattle.fork_tasks.specs.declared.host.WriteError.TheVariants as write_error
pub use Rattle.fork_commands.proofs.Pairs.{also_err}

pub none : (a : Option (List Access)) → a ≡ and_then a []
none None = refl
none (Some xs) = ap Some (sym (append-nil xs))

pub one_more : (a : Option (List Access)) (xs ys : List Access) → and_then (and_then a xs) ys ≡ and_then a (xs ++ ys)
one_more None xs ys = refl
one_more (Some zs) xs ys = ap Some (append_assoc zs xs ys)

-- the host refused to write to a path, as the fault says; or there was no memory to report it
pub unwritten_so : (path : List ℕ) (error : WriteError) (old new : Option (List Access)) (message : Message)
    → RefusesWrite path error old new → message ≡ write_message path error → IsUnwritten path old new message
unwritten_so path write_error.CannotWrite old new message fails is =
    subst (λ m. IsUnwritten path old new m) (sym is) (refl, fails)
unwritten_so path write_error.HostMemory old new message fails is =
    subst (λ m. IsUnwritten path old new m) (sym is) (inl fails)

pub unreported : (path : List ℕ) (error : WriteError) (old new : Option (List Access)) → RefusesWrite path error old new
    → IsUnwritten path old new HostMemory
unreported path write_error.CannotWrite old new fails = inr fails
unreported path write_error.HostMemory old new fails = inl fails

-- the path that a fault names
abbrev named_in : Message → List ℕ
named_in (CannotRead path) = path
named_in message = []

-- a file that was not read stops the reading
pub unread_stops : (path : List ℕ) (old new : Option (List Access)) (message : Message) → IsUnread path old new message
    → Stops old new message
unread_stops path old new HostMemory unread = unread
unread_stops path old new (CannotRead named) unread =
    subst (λ p. new ≡ and_then old (Failed p ∷ [])) (sym (ap named_in unread.0)) unread.1
unread_stops path old new (Usage text) unread = absurd (let no : Usage text ≡ CannotRead path = unread.0 in cc)
unread_stops path old new (Script named line kind) unread =
    absurd (let no : Script named line kind ≡ CannotRead path = unread.0 in cc)
unread_stops path old new (Fork named fault) unread = absurd (let no : Fork named fault ≡ CannotRead path = unread.0 in cc)
unread_stops path old new (CannotWrite named) unread =
    absurd (let no : CannotWrite named ≡ CannotRead path = unread.0 in cc)
unread_stops path old new (NotLaunched named app) unread =
    absurd (let no : NotLaunched named app ≡ CannotRead path = unread.0 in cc)
unread_stops path old new (Dump named why) unread =
    absurd (let no : Dump named why ≡ CannotRead path = unread.0 in cc)

-- the fault of a file's bytes, and of a script, comes after all that was read
pub fork_ends : {A : Type 0} (path : List ℕ) (made : Result A FileFault) (mid new : Option (List Access))
    (message : Message) → IsForkFault path made message → new ≡ mid → Stops mid new message
fork_ends path made mid new HostMemory fault same = same
fork_ends path made mid new (Fork named why) fault same = same
fork_ends path made mid new (Usage text) fault same = same
fork_ends path made mid new (CannotRead named) fault same = absurd fault
fork_ends path made mid new (Script named line kind) fault same = same
fork_ends path made mid new (CannotWrite named) fault same = same
fork_ends path made mid new (NotLaunched named app) fault same = same
fork_ends path made mid new (Dump named why) fault same = same

-- a fault that is passed on ends the reading
pub ends_err : {X : Type 0} (mid new : Option (List Access)) (result : Result X ToolFault) (fault : ToolFault)
    → result ≡ Err fault → Stops mid new (message_of fault) → Ends mid new result
ends_err mid new result fault is stops = subst (λ r. Ends mid new r) (sym is) stops

-- it does so after all that was read before
pub stops_from : (mid all new : Option (List Access)) (message : Message) → mid ≡ all → Stops mid new message
    → Stops all new message
stops_from mid all new message same stops = subst (λ m. Stops m new message) same stops

-- what is known of a fault that is passed on
pub told_err : {X E : Type 0} (P : E → Type 0) (result : Result X E) (fault : E)
    → result ≡ Err fault → P fault → IfErr result P
told_err P result fault is h = subst (λ r. IfErr r P) (sym is) h
