-- Forks that were read for the lines of a job.
use Rattle.job_tasks.proofs.Cited.{◌≡◌, ◌∷◌, ◌∙◌, ℕ, List, [], Option, None, Result, Ok, Err, IfErr, sym, ap, subst, fork_in, Message}
use Rattle.job_tasks.proofs.Cited.{Usage, CannotRead, Script, Fork, CannotWrite, HostMemory, NotLaunched, Dump, message_of, ToolFault}
use Rattle.job_tasks.proofs.Cited.{Access, Stops, IsUnread, and_then, reads_at, Found, source_of, fork_told, fork_at, script_at, app_of}
use Rattle.job_tasks.proofs.Cited.{app_at, Spoken, FoundApplication, GivenApp, IsStop, Reads, IsGiven, IsForkFault, none, stops_from}
use Rattle.job_tasks.proofs.Cited.{unread_stops}
use Rattle.job_tasks.proofs.Stops.{stop_then, unread_given}

-- a fork that was found, with its source
pub told_found : (path bytes fork : List ℕ) (source : Option (List ℕ)) → fork_in bytes ≡ Ok fork → source ≡ source_of bytes
    → fork_told path bytes (fork_in bytes) ≡ Ok (fork, source)
told_found path bytes fork source found is = ap (fork_told path bytes) found ∙ ap (λ s. Ok (fork, s)) (sym is)

-- a wrapper that is damaged
pub fork_stop : (path file : List ℕ) (message : Message) → IsForkFault path (fork_in file) message
    → IsStop (fork_at path (file ∷ [])) message
fork_stop path file HostMemory is = tt
fork_stop path file (Fork named fault) is =
    ap (fork_told path file) is.1 ∙ ap (λ p. Err (Fork p fault)) (sym is.0)
fork_stop path file (Usage text) is = absurd is
fork_stop path file (CannotRead named) is = absurd is
fork_stop path file (Script named line kind) is = absurd is
fork_stop path file (CannotWrite named) is = absurd is
fork_stop path file (NotLaunched named app) is = absurd is
fork_stop path file (Dump named why) is = absurd is

-- the fork's file, and the script's, can't be read
pub fork_unread : {X : Type 0} (path : List ℕ) (old new : Option (List Access)) (result : Result X ToolFault)
    (fault : ToolFault) → result ≡ Err fault → IsUnread path old new (message_of fault)
    → IfErr result (λ f. Reads (path ∷ []) old new result (λ texts. IsStop (fork_at path texts) (message_of f)))
fork_unread path old new result fault is unread =
    subst (λ r. IfErr r (λ f. Reads (path ∷ []) old new r (λ texts. IsStop (fork_at path texts) (message_of f)))) (sym is) (
      [],
      stops_from old (and_then old []) new (message_of fault) (none old) (unread_stops path old new (message_of fault) unread),
      unread_given _ path old new (message_of fault) unread,
    )

pub script_unread : {X : Type 0} (view : X → Spoken) (path : List ℕ) (old new : Option (List Access))
    (result : Result X ToolFault) (fault : ToolFault) → result ≡ Err fault → IsUnread path old new (message_of fault)
    → Reads (path ∷ []) old new result (λ texts. IsGiven view (script_at path texts) result)
script_unread view path old new result fault is unread =
    subst (λ r. Reads (path ∷ []) old new r (λ texts. IsGiven view (script_at path texts) r)) (sym is) (
      [],
      stops_from old (and_then old []) new (message_of fault) (none old) (unread_stops path old new (message_of fault) unread),
      unread_given _ path old new (message_of fault) unread,
    )

-- an application's script stops it, after its fork
pub app_stop : (name fork script file : List ℕ) (found : Found (List ℕ)) (texts : List (List ℕ)) (message : Message)
    → fork_told fork file (fork_in file) ≡ Ok found → IsStop (script_at script texts) message
    → IsStop (app_at name fork script (file ∷ texts)) message
app_stop name fork script file found texts message told stops =
    subst (λ r. IsStop (app_of name r (script_at script texts)) message) (sym told)
    (stop_then (script_at script texts) _ message stops)

-- an application, with the fork and the script that were read
pub app_there : (name fork script file : List ℕ) (found : Found (List ℕ)) (texts : List (List ℕ)) (read : Spoken)
    (app : FoundApplication) → fork_told fork file (fork_in file) ≡ Ok found → script_at script texts ≡ Ok read
    → app_of name (Ok found) (Ok read) ≡ Ok app → app_at name fork script (file ∷ texts) ≡ Ok app
app_there name fork script file found texts read app told reads is =
    ap (λ r. app_of name r (script_at script texts)) told ∙ ap (λ r. app_of name (Ok found) r) reads ∙ is

-- an application that is made of its fork and its script
pub app_made : (name fork : List ℕ) (source : Option (List ℕ)) (read : Spoken) (app : GivenApp)
    → app ≡ record { name = name; fork = fork; files = []; size = None; script = read.0 }
    → app_of name (Ok (fork, source)) (Ok read) ≡ Ok ((app, source), read.1)
app_made name fork source read app is = ap (λ a. Ok ((a, source), read.1)) (sym is)

-- an application's fork stops it
pub app_unread : (name fork script : List ℕ) (old new : Option (List Access)) (message : Message) (texts : List (List ℕ))
    → Stops (and_then old (reads_at (fork ∷ []) texts)) new message → IsStop (fork_at fork texts) message
    → (read : List (List ℕ)) × Stops (and_then old (reads_at (fork ∷ script ∷ []) read)) new message
    × IsStop (app_at name fork script read) message
app_unread name fork script old new message [] reads stops =
    ([], reads, stop_then (fork_at fork []) (λ found. app_of name (Ok found) (script_at script [])) message stops)
app_unread name fork script old new message (file ∷ texts) reads stops = (
  file ∷ [],
  reads,
  stop_then (fork_at fork (file ∷ [])) (λ found. app_of name (Ok found) (script_at script [])) message stops,
)
