-- A script is run with files.
use Rattle.job_tasks.proofs.Cited.{◌≡◌, ◌≤◌, ◌-◌, ◌∷◌, ◌∙◌, ℕ, suc, List, [], Option, Result, Ok, Err, inl, refl, sym, ap, subst, arith}
use Rattle.job_tasks.proofs.Cited.{take, drop, map, get_or, common_steps, length-map, codes, option_map, OsErr, content_or_code, Content}
use Rattle.job_tasks.proofs.Cited.{Resources, ScriptParts, script_of, spelled, App, Job, system_in, system_of, start_with, content_of_fork}
use Rattle.job_tasks.proofs.Cited.{content_or_fault, FileFault, Code, Printed, Playing, PlayWork, Access, Folder, StopsAmong, IsUndelivered}
use Rattle.job_tasks.proofs.Cited.{Message, Fork, HostMemory, IsQuiet, GivenSource, app_given, AppFork, Given, part_seen, path_of, own_path}
use Rattle.job_tasks.proofs.Cited.{with_parts, sources_of, player_name, paths_read, IsTaken, IsUntaken, Misspelled, parts_of, Takes}
use Rattle.job_tasks.proofs.Cited.{path_at_fault, IsLaunchFault, DoesPlay, IsPlayUndone, Plays, IsUnplayed, Unlaunched, Undone, none}
use Rattle.job_tasks.proofs.Cited.{loud_write, quiet_silent, nothing}
use Rattle.std.specs.Prelude.{Some, None, length}
use Rattle.job_tasks.specs.declared.playing.PlayWork.TheVariants as work
use Rattle.job_tasks.specs.Loading.{system_path, nothing_given}

-- the first of what was read, and the others
pub first_of : {A : Type 0} (f : A → List ℕ) (xs : List A) (x d : A) (text : List ℕ) → 1 ≤ length xs → x ≡ get_or xs 0 d
    → text ≡ f x → map f xs ≡ text ∷ map f (take (length xs - 1) (drop 1 xs))
first_of f [] x d text one item is = absurd (omega (arith, one))
first_of f (y ∷ rest) x d text one item is =
    let all : rest ≡ take (length (y ∷ rest) - 1) (drop 1 (y ∷ rest)) = grind (arith, common_steps) in
    ap (λ l. f y ∷ map f l) all ∙ ap (λ t. t ∷ map f (take (length (y ∷ rest) - 1) (drop 1 (y ∷ rest)))) (sym (is ∙ ap f item))

pub others_count : {A : Type 0} (play : Playing) (xs : List A) → length xs ≡ length (paths_read play)
    → length (take (length xs - 1) (drop 1 xs)) ≡ length play.parts.items
others_count play xs same =
    let counts : length (map path_of (parts_of play)) ≡ length play.parts.items =
    length-map (parts_of play) path_of ∙ length-map play.parts.items part_seen in
    let rest : length (take (length xs - 1) (drop 1 xs)) ≡ length xs - 1 = grind (arith, common_steps) in
    let whole : length xs ≡ suc (length (map path_of (parts_of play))) = same in
    omega (arith, counts, rest, whole)

-- there is no memory to make an application
pub unmade : {A : Type 0} (play : Playing) (f : A → List ℕ) (xs : List A) → 1 ≤ length xs → IsUntaken play (map f xs) HostMemory
unmade play f [] one = absurd (omega (arith, one))
unmade play f (x ∷ rest) one = Misspelled (f x) (map f rest) refl tt

-- what was read makes an application
pub is_taken : (play : Playing) (texts : List (List ℕ)) (text : List ℕ) (more : List (List ℕ)) (job : Job) (app : App)
    (sources : List GivenSource) (given : Given) (script : ScriptParts) → texts ≡ text ∷ more
    → script_of text ≡ Ok (spelled script) → app.script ≡ script → with_parts nothing_given (parts_of play) more ≡ Ok given
    → option_map (λ fork. fork.items) job.system ≡ given.system
    → app_given app ≡ record { name = player_name; fork = given.own.0; files = given.files; size = None; script = spelled script }
    → sources ≡ sources_of given → IsTaken play texts job app sources
is_taken play texts text more job app sources given script split spells same gives system made from = record {
  text = text;
  more = more;
  split = split;
  spells = subst (λ s. script_of text ≡ Ok (spelled s)) (sym same) spells;
  given = given;
  gives = gives;
  system = system;
  made = subst (λ s. app_given app
      ≡ record { name = player_name; fork = given.own.0; files = given.files; size = None; script = spelled s }) (sym same) made;
  from = from;
}

-- the System file's fork can be read, or not
pub system_read : (parts : List AppFork) (fork : List ℕ) (c : Content) → content_of_fork fork ≡ Ok c
    → own_path parts ≡ path_at_fault parts (system_in (Some fork))
unfolding content_of_fork
system_read parts fork c is = of_result (content_or_code fork) is
  where
    of_result : (r : Result Content OsErr) → content_or_fault r ≡ Ok c → own_path parts ≡ path_at_fault parts r
    of_result (Ok s) is = refl
    of_result (Err code) is = absurd (let no : Err (Code code) ≡ Ok c = is in cc)

pub system_unread : (parts : List AppFork) (fork : List ℕ) (fault : FileFault) → content_of_fork fork ≡ Err fault
    → system_path parts ≡ path_at_fault parts (system_in (Some fork))
unfolding content_of_fork
system_unread parts fork fault is = of_result (content_or_code fork) is
  where
    of_result : (r : Result Content OsErr) → content_or_fault r ≡ Err fault → system_path parts ≡ path_at_fault parts r
    of_result (Ok s) is = absurd (let no : Ok s ≡ Err fault = is in cc)
    of_result (Err code) is = refl

-- there are no resources to launch the application with
pub not_launched : (parts : List AppFork) (job : Job) (app : App) (code : OsErr) (message : Message)
    → message ≡ Fork (path_at_fault parts (system_of job)) (Code code) → start_with (system_of job) app ≡ Err code
    → IsLaunchFault parts job app message
not_launched parts job app code message is start = subst (λ m. IsLaunchFault parts job app m) (sym is) (refl, start)

-- there is no memory to run it, and nothing was printed or written
pub unprinted : (bytes : List ℕ) (p : Option (List ℕ)) (a : Option (List Access)) → IsUndelivered Printed bytes p p a a HostMemory
unprinted bytes p a = (nothing bytes p, inl refl)

pub unwritten : (folder : List ℕ) (rest : List Access) (a : Option (List Access))
    → StopsAmong (Folder folder ∷ rest) a a HostMemory
unwritten folder rest a =
    record { first = []; next = Folder folder; rest = rest; split = refl; fails = inl (none a) }

-- nothing is said of what was printed where something can't be written
pub quiet_work : (play : Playing) (w : PlayWork) (texts : List (List ℕ)) (app : App) (sources : List GivenSource) (resources : Resources)
    (p q : Option (List ℕ)) (old new : Option (List Access)) (message : Message)
    → IsPlayUndone play w texts app sources resources p q old new message → IsQuiet p q message
quiet_work play work.Transcript texts app sources resources p q old new message h = loud_write (codes "-") p q old new message h.1
quiet_work play (work.Words lines) texts app sources resources p q old new message h = loud_write (codes "-") p q old new message h.1
quiet_work play (work.Leavings folder) texts app sources resources p q old new message h = quiet_silent p q message h.0
quiet_work play (work.Zone lines) texts app sources resources p q old new message h = loud_write (codes "-") p q old new message h.1

-- all was read, and then what was asked for was done, or not to its end
pub plays : (play : Playing) (texts : List (List ℕ)) (job : Job) (app : App) (sources : List GivenSource) (resources : Resources)
    (p mid q : Option (List ℕ)) (old then new : Option (List Access)) → mid ≡ p → Takes play texts job app sources old then
    → start_with (system_of job) app ≡ Ok resources → DoesPlay play play.work texts app sources resources mid q then new
    → Plays play p q old new
plays play texts job app sources resources p mid q old then new silent taken start h = (
  texts,
  job,
  app,
  sources,
  then,
  resources,
  taken,
  start,
  subst (λ x. DoesPlay play play.work texts app sources resources x q then new) silent h,
)

pub not_played : (play : Playing) (texts : List (List ℕ)) (job : Job) (app : App) (sources : List GivenSource) (resources : Resources)
    (p mid q : Option (List ℕ)) (old then new : Option (List Access)) (message : Message) → mid ≡ p
    → Takes play texts job app sources old then → start_with (system_of job) app ≡ Ok resources
    → IsPlayUndone play play.work texts app sources resources mid q then new message → IsUnplayed play p q old new message
not_played play texts job app sources resources p mid q old then new message silent taken start h =
    Undone texts job app sources then resources taken start
    (subst (λ x. IsPlayUndone play play.work texts app sources resources x q then new message) silent h)

pub not_opened : (play : Playing) (parts : List AppFork) (texts : List (List ℕ)) (job : Job) (app : App) (sources : List GivenSource)
    (p q : Option (List ℕ)) (old new : Option (List Access)) (message : Message) → parts ≡ parts_of play → q ≡ p
    → Takes play texts job app sources old new → IsLaunchFault parts job app message → IsUnplayed play p q old new message
not_opened play parts texts job app sources p q old new message same silent taken fault =
    Unlaunched texts job app sources silent taken (subst (λ l. IsLaunchFault l job app message) same fault)
