use Rattle.desk.proofs.Cited.{◌≡◌, ℕ, ◌+◌, Bool, true, false, Option, Some, None, Result, Ok, Err, List, [], ◌∷◌, length, slice_get}
use Rattle.desk.proofs.Cited.{slice_set, refl, subst, cond, zero, suc, drop, inl, inr, OsErr, Event, Act, Step, Turn, Quit, App, Line, Live}
use Rattle.desk.proofs.Cited.{Phase, Waiting, Running, Ended, Next, GoesOn, Ends, come_by, stepped, Goes, WithinTurn, WithinAct}
use Rattle.desk.proofs.Cited.{WithinPhase, WithinOf, WithinAt, WithinTurns, WithinRounds, WithinEvent, HaltsAfter, Place, State, coming}
use Rattle.desk.proofs.Cited.{place_come, acted_in, acted_at, launch_answer, launched_by, launched_in, each_turned, round, any_runs, rounds}
use Rattle.desk.proofs.Cited.{longest, after_event, after_events}
use Rattle.script_text.specs.declared.job.Event.TheVariants as event

-- What acts and launches keep of each application at its place, events keep.

-- Each application and its place have this.
abbrev pub Pairs : (App → Place → Type 0) → List App → List Place → Type 0
Pairs P [] [] = Unit {0}
Pairs P (app ∷ apps) (p ∷ places) = P app p × Pairs P apps places
Pairs P [] (p ∷ places) = ⊥
Pairs P (app ∷ apps) [] = ⊥

same-place : (p q : Place) → Some p ≡ Some q → p ≡ q
same-place p q is = cc

same-app : (a b : App) → Some a ≡ Some b → a ≡ b
same-app a b is = cc

-- an application and its place, by their number
pub pair_at : (P : App → Place → Type 0) (apps : List App) (places : List Place) (i : ℕ) (app : App) (p : Place)
    → slice_get apps i ≡ Some app → slice_get places i ≡ Some p → Pairs P apps places → P app p
pair_at P [] [] i app p given here so = cc
pair_at P (a ∷ apps) (q ∷ places) zero app p given here so =
    subst (λ (b : App). P b p) (same-app a app given) (subst (P a) (same-place q p here) so.0)
pair_at P (a ∷ apps) (q ∷ places) (suc i) app p given here so = pair_at P apps places i app p given here so.1
pair_at P [] (q ∷ places) i app p given here so = absurd so
pair_at P (a ∷ apps) [] i app p given here so = absurd so

module _ (P : App → Place → Type 0)
    (acts : (act : Act) (app : App) (p : Place) → P app p → P app (place_come p (coming act p)))
    (launches : (app : App) (p : Place) (s : State) (live : Live) → launch_answer p s ≡ Ok live → P app p
    → P app (record p { phase = Running live })) (apps : List App) where
  set-pairs : (all : List App) (places : List Place) (i : ℕ) (p q : Place) → slice_get places i ≡ Some p
      → ((app : App) → P app p → P app q) → Pairs P all places → Pairs P all (slice_set places i q)
  set-pairs [] [] i p q is on so = cc
  set-pairs (app ∷ all) (r ∷ places) zero p q is on so = (on app (subst (P app) (same-place r p is) so.0), so.1)
  set-pairs (app ∷ all) (r ∷ places) (suc i) p q is on so = (so.0, set-pairs all places i p q is on so.1)
  set-pairs [] (r ∷ places) i p q is on so = absurd so
  set-pairs (app ∷ all) [] i p q is on so = absurd so

  pub acted-pairs : (act : Act) (i : ℕ) (o : Option Place) (s : State) → slice_get s.places i ≡ o
      → Pairs P apps s.places → Pairs P apps (acted_in act i o s).places
  acted-pairs act i None s is so = so
  acted-pairs act i (Some p) s is so =
      set-pairs apps s.places i p (place_come p (coming act p)) is (λ app so. acts act app p so) so

  answered-pairs : (answer : Result Live OsErr) (i : ℕ) (p : Place) (s : State) → slice_get s.places i ≡ Some p
      → launch_answer p s ≡ answer → Pairs P apps s.places → Pairs P apps (launched_by answer i p s).places
  answered-pairs (Err code) i p s is answers so = so
  answered-pairs (Ok live) i p s is answers so =
      set-pairs apps s.places i p (record p { phase = Running live }) is (λ app so. launches app p s live answers so) so

  launched-pairs : (i : ℕ) (o : Option Place) (s : State) → slice_get s.places i ≡ o
      → Pairs P apps s.places → Pairs P apps (launched_in i o s).places
  launched-pairs i None s is so = so
  launched-pairs i (Some p) s is so = answered-pairs (launch_answer p s) i p s is refl so

  turned-pairs : (k i : ℕ) (s : State) → Pairs P apps s.places → Pairs P apps (each_turned k i s).places
  turned-pairs zero i s so = so
  turned-pairs (suc k) i s so =
      turned-pairs k (i + 1) (acted_at Turn i s) (acted-pairs Turn i (slice_get s.places i) s refl so)

  rounds-pairs : (k : ℕ) (s : State) → Pairs P apps s.places → Pairs P apps (rounds k s).places
  rounds-pairs zero s so = so
  rounds-pairs (suc k) s so =
      by_runs (rounds-pairs k (round s) (turned-pairs (length s.places) 0 s so)) (any_runs s)
    where
      by_runs : Pairs P apps (rounds k (round s)).places → (t : Bool)
          → Pairs P apps (cond t (rounds k (round s)) s).places
      by_runs goes true = goes
      by_runs goes false = so

  pub event-pairs : (e : Event) (s : State) → Pairs P apps s.places → Pairs P apps (after_event e s).places
  event-pairs (event.Launch i) s so = launched-pairs i (slice_get s.places i) s refl so
  event-pairs (event.Act i act) s so = acted-pairs act i (slice_get s.places i) s refl so
  event-pairs event.Rest s so = rounds-pairs (suc (longest s.places)) s so

  -- within a turn there is a place that has what the place had before
  turn-within : (Q : Place → Type 0) (p : Place) (lines : List Line) (live : Live)
      → WithinTurn (λ m. Q (record p { phase = Running m })) lines p.script live
      → (q : Place) × Q q × ((app : App) → P app (record p { phase = Running live }) → P app q)
  turn-within Q p [] live within = (record p { phase = Running live }, within, λ app so. so)
  turn-within Q p (l ∷ lines) live (inl within) = (record p { phase = Running live }, within, λ app so. so)
  turn-within Q p (l ∷ lines) live (inr within) =
      by_next (λ m. turn-within Q p lines m) (stepped p.script live)
      (λ app so. acts Step app (record p { phase = Running live }) so) within.1
    where
      Found : Live → Type 0
      Found m = (q : Place) × Q q × ((app : App) → P app (record p { phase = Running m }) → P app q)

      by_next : ((m : Live) → WithinTurn (λ m. Q (record p { phase = Running m })) lines p.script m → Found m)
          → (next : Next)
          → ((app : App) → P app (record p { phase = Running live }) → P app (record p { phase = (come_by next).phase }))
          → Goes (WithinTurn (λ m. Q (record p { phase = Running m })) lines p.script) next → Found live
      by_next more (GoesOn m) on within =
          let rest = more m within in (rest.0, rest.1, λ app so. rest.2 app (on app so))
      by_next more (Ends l left) on within = absurd within

  -- and so there is within any act
  act-within : (Q : Place → Type 0) (act : Act) (p : Place) (live : Live)
      → WithinAct (λ m. Q (record p { phase = Running m })) act p.script live
      → (q : Place) × Q q × ((app : App) → P app (record p { phase = Running live }) → P app q)
  act-within Q Step p live within = (record p { phase = Running live }, within, λ app so. so)
  act-within Q Turn p live within = turn-within Q p (drop live.steps p.script.steps) live within
  act-within Q Quit p live within = (record p { phase = Running live }, within, λ app so. so)

  place-within : (Q : Place → Type 0) (act : Act) (p : Place) (phase : Phase)
      → WithinPhase (λ f. Q (record p { phase = f })) act p.script phase
      → (q : Place) × Q q × ((app : App) → P app (record p { phase = phase }) → P app q)
  place-within Q act p (Waiting start) within = (record p { phase = Waiting start }, within, λ app so. so)
  place-within Q act p (Running live) within = act-within Q act p live within
  place-within Q act p (Ended l) within = (record p { phase = Ended l }, within, λ app so. so)

  -- a state of the desk within an act, whose places have it
  of-within : (Q : State → Type 0) (act : Act) (i : ℕ) (o : Option Place) (s : State) → slice_get s.places i ≡ o
      → Pairs P apps s.places → WithinOf (λ places. Q (record s { places = places })) act i o s.places
      → (m : State) × Pairs P apps m.places × Q m
  of-within Q act i None s is so within = (s, so, within)
  of-within Q act i (Some p) s is so within =
      let found = place-within (λ q. Q (record s { places = slice_set s.places i q })) act p p.phase within in (
        record s { places = slice_set s.places i found.0 },
        set-pairs apps s.places i p found.0 is found.2 so,
        found.1,
      )

  at-within : (Q : State → Type 0) (act : Act) (i : ℕ) (s : State) → Pairs P apps s.places → WithinAt Q act i s
      → (m : State) × Pairs P apps m.places × Q m
  at-within Q act i s so within = of-within Q act i (slice_get s.places i) s refl so within

  -- the same within turns, rounds and events
  turns-within : (Q : State → Type 0) (k i : ℕ) (s : State) → Pairs P apps s.places → WithinTurns Q k i s
      → (m : State) × Pairs P apps m.places × Q m
  turns-within Q zero i s so within = absurd within
  turns-within Q (suc k) i s so (inl within) = at-within Q Turn i s so within
  turns-within Q (suc k) i s so (inr within) =
      turns-within Q k (i + 1) (acted_at Turn i s) (acted-pairs Turn i (slice_get s.places i) s refl so) within

  rounds-within : (Q : State → Type 0) (k : ℕ) (s : State) → Pairs P apps s.places → WithinRounds Q k s
      → (m : State) × Pairs P apps m.places × Q m
  rounds-within Q zero s so within = absurd within
  rounds-within Q (suc k) s so (inl within) = turns-within Q (length s.places) 0 s so within
  rounds-within Q (suc k) s so (inr within) =
      rounds-within Q k (round s) (turned-pairs (length s.places) 0 s so) within

  event-within : (Q : State → Type 0) (e : Event) (s : State) → Pairs P apps s.places → WithinEvent Q e s
      → (m : State) × Pairs P apps m.places × Q m
  event-within Q (event.Launch i) s so within = (s, so, within)
  event-within Q (event.Act i act) s so within = at-within Q act i s so within
  event-within Q event.Rest s so within = rounds-within Q (suc (longest s.places)) s so within

  pub pairs_within : (Q : State → Type 0) (done : ℕ) (events : List Event) (s : State) → Pairs P apps s.places
      → HaltsAfter Q done events s → (m : State) × Pairs P apps m.places × Q m
  pairs_within Q zero [] s so within = (s, so, within.0)
  pairs_within Q zero (e ∷ events) s so within = event-within Q e s so within
  pairs_within Q (suc done) [] s so within = absurd within
  pairs_within Q (suc done) (e ∷ events) s so within =
      pairs_within Q done events (after_event e s) (event-pairs e s so) within

  pub pairs_kept : (events : List Event) (s : State) → Pairs P apps s.places
      → Pairs P apps (after_events events s).places
  pairs_kept [] s so = so
  pairs_kept (e ∷ events) s so = pairs_kept events (after_event e s) (event-pairs e s so)
