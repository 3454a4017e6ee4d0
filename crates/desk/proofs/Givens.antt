use Rattle.desk.proofs.Cited.{◌≡◌, ℕ, Bool, Option, Some, None, Result, Ok, Err, List, [], ◌∷◌, IfOk, IfSome, map, refl, sym, subst, inl}
use Rattle.desk.proofs.Cited.{inr, zero, suc, slice_get, OsErr, Content, ScriptParts, Event, Resources, App, Job, Launched, AppResult}
use Rattle.desk.proofs.Cited.{Outcome, Place, after_events, told, Halt, IsLeft, halted, opening, start_of, launched_alone, IsPlaceOf}
use Rattle.desk.proofs.Cited.{outcome_seen, Law, OfLaunched, OfEach, OfEachApp, EachLaunched, system_of, start_with}
use Rattle.desk.specs.declared.outcome.Outcome as declared
use Rattle.desk.proofs.Events.{Pairs}
use Rattle.desk.proofs.Alone.{all_alone, after_alone, told-alone}

-- A law of what an application leaves alone holds of what each launched application of a run leaves.

told-keeps : (P : Law)
    → ((resources : Resources) (script : ScriptParts) (size n : ℕ) (asked : Bool)
    → P resources script (launched_alone resources script size n asked))
    → (system : Content) (app : App) (p : Place) → IsPlaceOf system app p
    → OfLaunched P (start_of system app) app.script (told p)
told-keeps P each system app p so = by_launched (told p).launched refl
  where
    by_launched : (o : Option Launched) → (told p).launched ≡ o
        → IfSome o (λ l. (resources : Resources) × (start_of system app ≡ Ok resources) × P resources app.script l)
    by_launched None is = tt
    by_launched (Some l) is =
        let alone = told-alone (start_of system app) app.script p.phase l so.phase is in (
          alone.0,
          alone.1,
          subst (P alone.0 app.script) (sym alone.2) (each alone.0 app.script l.size l.steps l.asked),
        )

each-keeps : (P : Law)
    → ((resources : Resources) (script : ScriptParts) (size n : ℕ) (asked : Bool)
    → P resources script (launched_alone resources script size n asked))
    → (system : Content) (apps : List App) (places : List Place) → Pairs (IsPlaceOf system) apps places
    → OfEach P system apps (map told places)
each-keeps P each system [] [] so = tt
each-keeps P each system (app ∷ apps) (p ∷ places) so =
    (told-keeps P each system app p so.0, each-keeps P each system apps places so.1)
each-keeps P each system [] (p ∷ places) so = absurd so
each-keeps P each system (app ∷ apps) [] so = absurd so

-- what a run leaves, also one that stopped
each-left : (P : Law)
    → ((resources : Resources) (script : ScriptParts) (size n : ℕ) (asked : Bool)
    → P resources script (launched_alone resources script size n asked))
    → (system : Content) (memory : ℕ) (apps : List App) (events : List Event) (found : Outcome)
    → IsLeft found events (opening memory system apps) → OfEach P system apps found.apps
each-left P each system memory apps events found (inl is) =
    subst (λ (o : Outcome). OfEach P system apps o.apps) (sym is)
    (each-keeps P each system apps (after_events events (opening memory system apps)).places
    (all_alone memory system apps events))
each-left P each system memory apps events found (inr within) =
    let reached = after_alone memory system apps found.done events (λ m. halted m ≡ (found.log, found.apps)) within.1 in
    subst (λ (h : Halt). OfEach P system apps h.1) reached.2
    (each-keeps P each system apps reached.0.places reached.1)

-- such a law holds of each application that a run launched
pub each-launched : {E : Type 0} (P : Law)
    → ((resources : Resources) (script : ScriptParts) (size n : ℕ) (asked : Bool)
    → P resources script (launched_alone resources script size n asked))
    → (job : Job) (content : Content) (result : Result declared.Outcome E) (outcome : declared.Outcome)
    → system_of job ≡ Ok content
    → IfOk result (λ o. IsLeft (outcome_seen o) job.events.items (opening job.memory content job.apps.items))
    → result ≡ Ok outcome → EachLaunched P job outcome
each-launched P each job content (Err fault) outcome system found is = cc
each-launched P each job content (Ok o) outcome system found is =
    let same : o ≡ outcome = cc in
    subst (EachLaunched P job) same
    (subst (λ (x : Result Content OsErr). OfEachApp P x job.apps.items (outcome_seen o).apps) (sym system)
    (each-left P each content job.memory job.apps.items job.events.items (outcome_seen o) found))

-- such a law holds of the application of some number, if it was launched
of-number : (P : Law) (system : Content) (apps : List App) (told : List AppResult) (i : ℕ) (app : App) (t : AppResult)
    → slice_get apps i ≡ Some app → slice_get told i ≡ Some t → OfEach P system apps told
    → OfLaunched P (start_of system app) app.script t
of-number P system [] [] i app t given here so = cc
of-number P system (a ∷ apps) (q ∷ told) zero app t given here so =
    let first : a ≡ app = cc in
    let left : q ≡ t = cc in
    subst (λ (b : App). OfLaunched P (start_of system b) b.script t) first
    (subst (λ (r : AppResult). OfLaunched P (start_of system a) a.script r) left so.0)
of-number P system (a ∷ apps) (q ∷ told) (suc i) app t given here so =
    of-number P system apps told i app t given here so.1
of-number P system [] (q ∷ told) i app t given here so = absurd so
of-number P system (a ∷ apps) [] i app t given here so = absurd so

-- so each application that was launched has resources with which it was launched
started-launched : (P : Law) (start : Result Resources OsErr) (script : ScriptParts) (t : AppResult) (l : Launched)
    → t.launched ≡ Some l → OfLaunched P start script t → (resources : Resources) × (start ≡ Ok resources)
started-launched P start script t l is so =
    let of =
    subst (λ (o : Option Launched). IfSome o (λ l. (resources : Resources) × (start ≡ Ok resources) × P resources script l)) is so in
    (of.0, of.1)

pub has_started : (P : Law) (system : Result Content OsErr) (apps : List App) (told : List AppResult) (i : ℕ) (app : App)
    (t : AppResult) (l : Launched) → slice_get apps i ≡ Some app → slice_get told i ≡ Some t → t.launched ≡ Some l
    → OfEachApp P system apps told → (resources : Resources) × (start_with system app ≡ Ok resources)
has_started P (Err code) apps told i app t l given here is so = absurd so
has_started P (Ok content) apps told i app t l given here is so =
    started-launched P (start_of content app) app.script t l is (of-number P content apps told i app t given here so)
