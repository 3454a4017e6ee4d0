-- Places of the memory that are in no partition.
use Rattle.desk.proofs.Cited.{◌≡◌, ℕ, ◌+◌, ◌<◌, suc, List, [], ◌∷◌, Option, Some, None, Result, Ok, Err, IfOk, IfSome, refl, length, take}
use Rattle.desk.proofs.Cited.{drop, slice_index_or, sym, ◌∙◌, subst, arith, at_drop_more, All-contains, Contains, Window, IsOutside}
use Rattle.desk.proofs.Cited.{IsOutsideAll, All-without_window, Site, Content, Event, Whole, LiesIn, Job, State, after_event, IsFree}
use Rattle.desk.proofs.Cited.{StaysFree, FreeThrough, IsNeverGranted, closed, opening, system_of}
use Rattle.desk.specs.declared.outcome.Outcome.{Outcome}

-- a place that is in none of these windows
module _ (place : ℕ) where
  pub out-closed : (o : Option Window) (ws : List Window) → IsOutsideAll place ws → IsOutsideAll place (closed o ws)
  out-closed None ws f = f
  out-closed (Some w) ws f = All-without_window w.at w.len ws (λ v. IsOutside place v) f

  pub out-of : (o : Option Window) (ws : List Window) → IfSome o (λ w. Contains ws w) → IsOutsideAll place ws
      → IfSome o (λ w. IsOutside place w)
  out-of None ws h f = tt
  out-of (Some w) ws h f = All-contains (λ v. IsOutside place v) ws w f h

  pub free-first : (events : List Event) (s : State) → StaysFree place events s → IsFree place s
  free-first [] s f = f
  free-first (e ∷ events) s f = f.0

  free-more : (k : ℕ) (events : List Event) (i : ℕ) (e : Event) (s : State) → i < length events
      → StaysFree place (take (suc k) (drop i events)) s
      → StaysFree place (slice_index_or events i e ∷ take k (drop (i + 1) events)) s
  free-more k events i e s less f =
      subst (λ (es : List Event). StaysFree place (take (suc k) es) s)
      (at_drop_more (λ (es : List Event). es) events i e less) f

-- bytes that stay as they are, while one thing after another is done
module _ {Z : Type 0} (byte : Z → ℕ → Option ℕ) (first now next : Z) where
  -- the window of who leaves is closed
  pub out-next : (o : Option Window) (all ws vs : List Window) → vs ≡ closed o ws → IfSome o (λ w. Contains ws w)
      → ((place : ℕ) → IfSome o (λ w. IsOutside place w) → byte next place ≡ byte now place)
      → ((place : ℕ) → IsOutsideAll place all → IsOutsideAll place ws × (byte now place ≡ byte first place))
      → (place : ℕ) → IsOutsideAll place all → IsOutsideAll place vs × (byte next place ≡ byte first place)
  out-next o all ws vs e here step so place f =
      let h = so place f in (
        subst (λ us. IsOutsideAll place us) (sym e) (out-closed place o ws h.0),
        step place (out-of place o ws here h.0) ∙ h.1,
      )

  -- one thing more is done, within which no window is granted
  pub next-out : (all s t : State)
      → ((place : ℕ) → IsFree place s → IsFree place t × (byte next place ≡ byte now place))
      → ((place : ℕ) → IsFree place all → IsFree place s × (byte now place ≡ byte first place))
      → (place : ℕ) → IsFree place all → IsFree place t × (byte next place ≡ byte first place)
  next-out all s t step so place f =
      let h = so place f in
      let k = step place h.0 in
      (k.0, k.1 ∙ h.1)

  module _ (events : List Event) (i : ℕ) (e : Event) (all s t : State) (less : i < length events)
      (step : (place : ℕ) → IsFree place s → IsFree place (after_event (slice_index_or events i e) s)
      → IsFree place t × (byte next place ≡ byte now place))
      (so : (place k : ℕ) → StaysFree place (take (i + k) events) all
      → StaysFree place (take k (drop i events)) s × (byte now place ≡ byte first place)) where
    -- an event happens
    pub event-out : t ≡ after_event (slice_index_or events i e) s → (place k : ℕ)
        → StaysFree place (take (i + 1 + k) events) all
        → StaysFree place (take k (drop (i + 1) events)) t × (byte next place ≡ byte first place)
    event-out is place k f =
        let count : i + 1 + k ≡ i + suc k = omega arith in
        let h = so place (suc k) (subst (λ (n : ℕ). StaysFree place (take n events) all) count f) in
        let more = free-more place k events i e s less h.0 in
        let rest = subst (λ (q : State). StaysFree place (take k (drop (i + 1) events)) q) (sym is) more.1 in (
          rest,
          (step place more.0 (free-first place (take k (drop (i + 1) events)) (after_event (slice_index_or events i e) s) more.1)).1 ∙ h.1,
        )

    -- the run stops within an event
    pub halt-out : (place : ℕ) → StaysFree place (take (suc i) events) all
        → IsFree place t × (byte next place ≡ byte first place)
    halt-out place f =
        let count : suc i ≡ i + 1 = omega arith in
        let h = so place 1 (subst (λ (n : ℕ). StaysFree place (take n events) all) count f) in
        let more = free-more place 0 events i e s less h.0 in
        let k = step place more.0 (free-first place (take 0 (drop (i + 1) events)) (after_event (slice_index_or events i e) s) more.1) in
        (k.0, k.1 ∙ h.1)

  -- all events have happened
  pub all-out : (events : List Event) (i : ℕ) (all s : State) → i ≡ length events
      → ((place k : ℕ) → StaysFree place (take (i + k) events) all
      → StaysFree place (take k (drop i events)) s × (byte now place ≡ byte first place))
      → (place : ℕ) → StaysFree place (take (suc (length events)) events) all
      → IsFree place s × (byte now place ≡ byte first place)
  all-out events i all s end so place f =
      let count : suc (length events) ≡ i + 1 = omega (arith, end) in
      let h = so place 1 (subst (λ (n : ℕ). StaysFree place (take n events) all) count f) in
      (free-first place (take 1 (drop i events)) s h.0, h.1)

-- by the System file's content
pub never-granted : {E : Type 0} (Out : ℕ → Type 0) (job : Job) (content : Content)
    (result : Result Outcome E) (outcome : Outcome) → system_of job ≡ Ok content
    → IfOk result (λ o. (place : ℕ)
    → StaysFree place (take (suc o.done) job.events.items) (opening job.memory content job.apps.items) → Out place)
    → result ≡ Ok outcome → (place : ℕ) → IsNeverGranted place outcome.done job → Out place
never-granted Out job content (Ok o) outcome system stays is place f =
    let same : o ≡ outcome = cc in
    stays place (subst (λ (x : Outcome). StaysFree place (take (suc x.done) job.events.items)
    (opening job.memory content job.apps.items)) (sym same)
    (subst (λ s. FreeThrough place s job.memory job.apps.items (take (suc outcome.done) job.events.items)) system f))
never-granted Out job content (Err fault) outcome system stays is place f = absurd cc

-- a maker in the same memory is one of the same region
pub same-home : (old new : Whole) → ((w : Window) (site : Site) → LiesIn old w site → LiesIn new w site)
    → new.home ≡ old.home
same-home old new kept =
    let w : Window = record { at = 0; len = 0 } in sym (kept w (record { home = old.home; window = w }) (refl, refl)).0
