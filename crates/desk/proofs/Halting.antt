use Rattle.desk.proofs.Cited.{◌≡◌, ◌∙◌, ◌+◌, ◌-◌, ◌<◌, inl, inr, ℕ, Bool, true, false, Option, Some, None, List, [], ◌∷◌, length, map, drop}
use Rattle.desk.proofs.Cited.{slice_get, slice_set, slice_index_or, refl, sym, ap, subst, arith, zero, suc, ◌++◌, ◌≤◌, ◌≢◌, append-nil}
use Rattle.desk.proofs.Cited.{option_map, IfSome, map-set, at_drop_more, flat_map, end_of, IsOk, is_ok, OnOk, OnErr, Window, ScriptParts}
use Rattle.desk.proofs.Cited.{Line, Event, nowhere, moved, is_wait, Act, Step, Turn, Quit, AppResult, Launched, Outcome, forks_of}
use Rattle.desk.proofs.Cited.{outcome_told, Phase, Waiting, Running, Ended, Live, Next, GoesOn, Ends, Left, leaves, stepped, told_of, Place}
use Rattle.desk.proofs.Cited.{State, acted_at, acted_in, after_event, after_events, coming, end_told, left_by, outcome_of, places_acted}
use Rattle.desk.proofs.Cited.{round, told, windows_after, Goes, WithinTurn, WithinAct, WithinPhase, WithinPlace, WithinOf, WithinPlaces}
use Rattle.desk.proofs.Cited.{WithinAt, WithinTurns, WithinRounds, WithinEvent, WroteForks, HaltsAfter, IsLeft, halted}
use Rattle.std.specs.Prelude.{Result, Ok, Err}
use Rattle.applications.specs.Trying as application
use Rattle.desk.proofs.Places.{seen_at}

-- What holds within an act, a round or events.

-- what holds where a turn begins, so also where its first step halts; and where an act begins
pub turn-begun : (P : Live → Type 0) (lines : List Line) (script : ScriptParts) (live : Live) → P live
    → WithinTurn P lines script live
turn-begun P [] script live so = so
turn-begun P (l ∷ lines) script live so = inl so

act-begun : (P : Live → Type 0) (act : Act) (script : ScriptParts) (live : Live) → P live → WithinAct P act script live
act-begun P Step script live so = so
act-begun P Turn script live so = turn-begun P (drop live.steps script.steps) script live so
act-begun P Quit script live so = so

phase-begun : (P : Phase → Type 0) (act : Act) (script : ScriptParts) (phase : Phase) → P phase
    → WithinPhase P act script phase
phase-begun P act script (Waiting start) so = so
phase-begun P act script (Running live) so = act-begun (λ m. P (Running m)) act script live so
phase-begun P act script (Ended l) so = so

-- setting a place to what it holds changes nothing
pub same_place : {X : Type 0} (xs : List X) (i : ℕ) (x : X) → slice_get xs i ≡ Some x → slice_set xs i x ≡ xs
same_place [] i x is = cc
same_place (y ∷ xs) zero x is = let same : y ≡ x = cc in ap (λ z. z ∷ xs) (sym same)
same_place (y ∷ xs) (suc i) x is = ap (λ zs. y ∷ zs) (same_place xs i x is)

of-begun : (P : List Place → Type 0) (act : Act) (i : ℕ) (o : Option Place) (places : List Place)
    → slice_get places i ≡ o → P places → WithinOf P act i o places
of-begun P act i None places is so = so
of-begun P act i (Some p) places is so =
    phase-begun (λ phase. P (slice_set places i (record p { phase = phase }))) act p.script p.phase
    (subst P (sym (same_place places i p is)) so)

pub at_begun : (P : State → Type 0) (act : Act) (i : ℕ) (s : State) → P s → WithinAt P act i s
at_begun P act i s so =
    of-begun (λ places. P (record s { places = places })) act i (slice_get s.places i) s.places refl so

-- what follows from what holds within an act
goes-then : (P Q : Live → Type 0) (next : Next) → ((m : Live) → P m → Q m) → Goes P next → Goes Q next
goes-then P Q (GoesOn live) on so = on live so
goes-then P Q (Ends l left) on so = so

turn-then : (P Q : Live → Type 0) (lines : List Line) (script : ScriptParts) (live : Live)
    → ((m : Live) → P m → Q m) → WithinTurn P lines script live → WithinTurn Q lines script live
turn-then P Q [] script live on so = on live so
turn-then P Q (l ∷ lines) script live on (inl so) = inl (on live so)
turn-then P Q (l ∷ lines) script live on (inr so) = inr (
  so.0,
  goes-then (WithinTurn P lines script) (WithinTurn Q lines script) (stepped script live)
      (λ m within. turn-then P Q lines script m on within) so.1,
)

pub act_then : (P Q : Live → Type 0) (act : Act) (script : ScriptParts) (live : Live) → ((m : Live) → P m → Q m)
    → WithinAct P act script live → WithinAct Q act script live
act_then P Q Step script live on so = on live so
act_then P Q Turn script live on so = turn-then P Q (drop live.steps script.steps) script live on so
act_then P Q Quit script live on so = on live so

pub phase_then : (P Q : Phase → Type 0) (act : Act) (script : ScriptParts) (phase : Phase)
    → ((q : Phase) → P q → Q q) → WithinPhase P act script phase → WithinPhase Q act script phase
phase_then P Q act script (Waiting start) on so = on (Waiting start) so
phase_then P Q act script (Running live) on so =
    act_then (λ m. P (Running m)) (λ m. Q (Running m)) act script live (λ m. on (Running m)) so
phase_then P Q act script (Ended l) on so = on (Ended l) so

pub of_then : (P Q : List Place → Type 0) (act : Act) (i : ℕ) (o : Option Place) (places : List Place)
    → ((qs : List Place) → P qs → Q qs) → WithinOf P act i o places → WithinOf Q act i o places
of_then P Q act i None places on so = on places so
of_then P Q act i (Some p) places on so =
    phase_then (λ phase. P (slice_set places i (record p { phase = phase })))
    (λ phase. Q (slice_set places i (record p { phase = phase }))) act p.script p.phase
    (λ phase. on (slice_set places i (record p { phase = phase }))) so

-- one more step of a turn, after which the application goes on
pub turn_next : (P : Live → Type 0) (lines : List Line) (i : ℕ) (l : Line) (script : ScriptParts) (live m : Live)
    → i < length lines → stepped script live ≡ GoesOn m → is_wait (slice_index_or lines i l).call ≡ false
    → WithinTurn P (drop (i + 1) lines) script m → WithinTurn P (drop i lines) script live
turn_next P lines i l script live m less goes waits within =
    subst (λ ls. WithinTurn P ls script live) (sym (at_drop_more (λ (ls : List Line). ls) lines i l less))
    (inr (waits, subst (Goes (WithinTurn P (drop (i + 1) lines) script)) (sym goes) within))

-- one more application's turn of a round
pub turns_next : (P : State → Type 0) (n i : ℕ) (s : State) → i < n
    → WithinTurns P (n - (i + 1)) (i + 1) (acted_at Turn i s) → WithinTurns P (n - i) i s
turns_next P n i s less within =
    let more : n - i ≡ suc (n - (i + 1)) = omega (arith, less) in
    subst (λ (k : ℕ). WithinTurns P k i s) (sym more) (inr within)

-- and a halt in it
pub turns_halt : (P : State → Type 0) (n i : ℕ) (s : State) → i < n → WithinAt P Turn i s → WithinTurns P (n - i) i s
turns_halt P n i s less within =
    let more : n - i ≡ suc (n - (i + 1)) = omega (arith, less) in
    subst (λ (k : ℕ). WithinTurns P k i s) (sym more) (inl within)

-- one more round, and a halt in it
pub rounds_next : (P : State → Type 0) (n i : ℕ) (s : State) → i < n
    → WithinRounds P (suc (n - (i + 1))) (round s) → WithinRounds P (suc (n - i)) s
rounds_next P n i s less within =
    let more : n - i ≡ suc (n - (i + 1)) = omega (arith, less) in
    inr (subst (λ (k : ℕ). WithinRounds P k (round s)) (sym more) within)

-- one more event, and a halt in it
pub events_within : (P : State → Type 0) (k : ℕ) (events : List Event) (i : ℕ) (e : Event) (s : State)
    → i < length events → HaltsAfter P k (drop (i + 1) events) (after_event (slice_index_or events i e) s)
    → HaltsAfter P (suc k) (drop i events) s
events_within P k events i e s less within =
    subst (λ es. HaltsAfter P (suc k) es s) (sym (at_drop_more (λ (es : List Event). es) events i e less)) within

pub events_halt : (P : State → Type 0) (events : List Event) (i : ℕ) (e : Event) (s : State) → i < length events
    → WithinEvent P (slice_index_or events i e) s → HaltsAfter P 0 (drop i events) s
events_halt P events i e s less within =
    subst (λ es. HaltsAfter P 0 es s) (sym (at_drop_more (λ (es : List Event). es) events i e less)) within

-- the places of which one is set tell what those tell of which an element is set
pub told_set : {X : Type 0} (v : X → Place) (xs : List X) (i : ℕ) (y : X) (q : Place) → told q ≡ told (v y)
    → map told (slice_set (map v xs) i q) ≡ map told (map v (slice_set xs i y))
told_set v xs i y q is =
    map-set told (map v xs) i q ∙ ap (slice_set (map told (map v xs)) i) is
    ∙ sym (map-set told (map v xs) i (v y)) ∙ ap (map told) (sym (map-set v xs i y))

-- so what holds within an act of an element, of what it is told, holds of all
module _ {X : Type 0} (v : X → Place) (xs : List X) (n i : ℕ) (x : X) (e : n ≡ length xs) (lt : i < n)
    (r : x ≡ slice_index_or xs i x) where
  pub within_there : (act : Act) (y : X) → WithinPlace (λ q. told q ≡ told (v y)) act (v x)
      → WithinPlaces (λ places. map told places ≡ map told (map v (slice_set xs i y))) act i (map v xs)
  within_there act y within =
      subst (λ (o : Option Place). WithinOf (λ places. map told places ≡ map told (map v (slice_set xs i y))) act i o (map v xs))
      (sym (seen_at v xs n i x e lt r))
      (phase_then (λ phase. told (record (v x) { phase = phase }) ≡ told (v y))
      (λ phase. map told (slice_set (map v xs) i (record (v x) { phase = phase })) ≡ map told (map v (slice_set xs i y)))
      act (v x).script (v x).phase (λ phase same. told_set v xs i y (record (v x) { phase = phase }) same) within)

-- what holds of the phase within an act, of what it is told, holds of the place
pub place_within : {T E : Type 0} (r : Result T E) (p : Place) (q : Phase) (act : Act)
    → OnErr r (WithinPhase (λ f. told_of f ≡ told_of q) act p.script p.phase)
    → OnErr r (WithinPlace (λ f. told f ≡ told (record p { phase = q })) act p)
place_within (Ok x) p q act within = tt
place_within (Err e) p q act within =
    phase_then (λ f. told_of f ≡ told_of q) (λ f. told (record p { phase = f }) ≡ told (record p { phase = q })) act p.script
    p.phase
    (λ f same. ap (λ (l : Option Launched). let t : AppResult = record { name = p.name; launched = l } in t) same) within

-- two states with the same log, whose places tell the same
pub halted_alike : (s t : State) → s.log ≡ t.log → map told s.places ≡ map told t.places → halted s ≡ halted t
halted_alike s t log apps = λ i. (log i, apps i)

-- an application leaves the same as it stands, with the same text and the same files
pub leaves_alike : (w : Window) (n : ℕ) (text new : List ℕ) (r after : application.Running) → new ≡ text
    → after.resources.files ≡ r.resources.files
    → (let live : Live = record { window = w; steps = n; transcript = text; state = moved nowhere r } in leaves false live)
    ≡ (let live : Live = record { window = w; steps = n; transcript = new; state = moved nowhere after } in leaves false live)
leaves_alike w n text new r after same files = λ i. record {
  size = w.len;
  steps = n;
  asked = false;
  transcript = (sym same) i;
  files = (sym files) i;
}

-- what went well has not failed
pub never_failed : {T E : Type 0} {e : E} (result : Result T E) (P : Type 0) → IsOk result → result ≡ Err e → P
never_failed (Ok x) P well is = absurd cc
never_failed (Err e) P well is = absurd (let no : false ≡ true = well in cc)

pub ok_then : {T E : Type 0} (result : Result T E) (P : Type 0) → OnOk result P → IsOk result → P
ok_then (Ok x) P so well = so
ok_then (Err e) P so well = absurd (let no : false ≡ true = well in cc)

-- what holds after all events, where some fork was written
after_end : (P : State → Type 0) (events : List Event) (s : State) → P (after_events events s)
    → WroteForks (after_events events s) → HaltsAfter P (length events) events s
after_end P [] s so forks = (so, forks)
after_end P (e ∷ events) s so forks = after_end P events (after_event e s) so forks

-- what a run leaves whose events were all performed
pub left_whole : (o : Outcome) (n : ℕ) (events : List Event) (s m : State) (log : List ℕ) (apps : List AppResult)
    → log ≡ m.log → apps ≡ map told m.places → n ≡ length events → m ≡ after_events events s
    → (o.stopped ≡ false → o ≡ outcome_told n log apps) → (o.stopped ≡ true → o.log ≡ log) → o.apps ≡ apps
    → (o.stopped ≡ true → flat_map forks_of apps ≢ []) → o.done ≡ n → IsLeft o events s
left_whole o n events s m log apps same told_so all done whole stopped kept forks count = by_stopped o.stopped refl
  where
    by_stopped : (t : Bool) → o.stopped ≡ t → IsLeft o events s
    by_stopped false is =
        inl (whole is ∙ (λ i. outcome_told (all i) (same i) (told_so i)) ∙ ap (outcome_of (length events)) done)
    by_stopped true is = inr (
      is,
      subst (λ (k : ℕ). HaltsAfter (λ n. halted n ≡ (o.log, o.apps)) k events s) (sym (count ∙ all))
          (after_end (λ n. halted n ≡ (o.log, o.apps)) events s
          (ap halted (sym done) ∙ (λ i. (sym (stopped is ∙ same) i, sym (kept ∙ told_so) i)))
          (subst WroteForks done (subst (λ (ts : List AppResult). flat_map forks_of ts ≢ []) told_so (forks is)))),
    )

-- what a run leaves that stopped within an event
pub left_halted : (o : Outcome) (n : ℕ) (events : List Event) (s m : State) → o.log ≡ m.log
    → o.apps ≡ map told m.places → HaltsAfter (λ n. halted n ≡ halted m) n events s → o.stopped ≡ true → o.done ≡ n
    → IsLeft o events s
left_halted o n events s m same told_so within is count = inr (
  is,
  subst (λ (k : ℕ). HaltsAfter (λ n. halted n ≡ (o.log, o.apps)) k events s) (sym count)
      (subst (λ x. HaltsAfter (λ n. halted n ≡ x) n events s) (λ i. (sym same i, sym told_so i)) within),
)

-- A desk that stops in an act.

-- before the act began
pub halts_begun : {T E : Type 0} (r : Result T E) (act : Act) (i : ℕ) (s n : State) → n.log ≡ s.log
    → map told n.places ≡ map told s.places → OnErr r (WithinAt (λ m. halted m ≡ halted n) act i s)
halts_begun (Ok x) act i s n log apps = tt
halts_begun (Err e) act i s n log apps =
    at_begun (λ m. halted m ≡ halted n) act i s (halted_alike s n (sym log) (sym apps))

-- within the act
pub halts_at : {T E : Type 0} (r : Result T E) (act : Act) (i : ℕ) (s n : State) → n.log ≡ s.log
    → WithinPlaces (λ places. map told places ≡ map told n.places) act i s.places
    → OnErr r (WithinAt (λ m. halted m ≡ halted n) act i s)
halts_at (Ok x) act i s n log within = tt
halts_at (Err e) act i s n log within =
    of_then (λ places. map told places ≡ map told n.places) (λ places. halted (record s { places = places }) ≡ halted n) act i
    (slice_get s.places i) s.places (λ qs same. halted_alike (record s { places = qs }) n (sym log) same) within

-- never where the line of an end has room
pub no_error : {T E : Type 0} (r : Result T E) (P : Type 0) → IsOk r → OnErr r P
no_error (Ok x) P well = tt
no_error (Err e) P well = absurd (let no : false ≡ true = well in cc)

pub room_named : (o : Option Place) (name : List ℕ) (len cap n : ℕ) → IfSome o (λ p. len + length p.name + n ≤ cap)
    → option_map (λ (p : Place). p.name) o ≡ Some name → len + length name + n ≤ cap
room_named None name len cap n room is = cc
room_named (Some p) name len cap n room is =
    let same : p.name ≡ name = cc in subst (λ (x : List ℕ). len + length x + n ≤ cap) same room

-- The desk after an act, by what it changes.

abbrev end_left : Act → Option Place → List ℕ
end_left act None = []
end_left act (Some p) = end_told p.name (coming act p).left

by_parts : (act : Act) (i : ℕ) (o : Option Place) (s : State) (m : ℕ) (ws : List Window) (ps : List Place) (log : List ℕ)
    → m ≡ s.memory → ws ≡ windows_after (left_by act o) s.windows → ps ≡ places_acted act i o s.places
    → log ≡ s.log ++ end_left act o
    → (let t : State = record { memory = m; windows = ws; places = ps; log = log } in t) ≡ acted_in act i o s
by_parts act i None s m ws ps log memory windows places told = λ j. record {
  memory = memory j;
  windows = windows j;
  places = places j;
  log = (told ∙ append-nil s.log) j;
}
by_parts act i (Some p) s m ws ps log memory windows places told = λ j. record {
  memory = memory j;
  windows = windows j;
  places = places j;
  log = told j;
}

no-end : (act : Act) (o : Option Place) → left_by act o ≡ None → end_left act o ≡ []
no-end act None is = refl
no-end act (Some p) is = ap (end_told p.name) is

an-end : (act : Act) (o : Option Place) (l : Left) (name : List ℕ) → left_by act o ≡ Some l
    → option_map (λ (p : Place). p.name) o ≡ Some name → end_left act o ≡ end_of name l.code.0
an-end act None l name is named = cc
an-end act (Some p) l name is named =
    let same : p.name ≡ name = cc in
    ap (end_told p.name) is ∙ ap (λ (x : List ℕ). end_of x l.code.0) same

-- nobody ended
pub acted_on : (act : Act) (i : ℕ) (s : State) (m : ℕ) (ws : List Window) (ps : List Place) (log : List ℕ)
    → left_by act (slice_get s.places i) ≡ None → m ≡ s.memory
    → ws ≡ windows_after (left_by act (slice_get s.places i)) s.windows
    → ps ≡ places_acted act i (slice_get s.places i) s.places → log ≡ s.log
    → (let t : State = record { memory = m; windows = ws; places = ps; log = log } in t) ≡ acted_at act i s
acted_on act i s m ws ps log none memory windows places same =
    by_parts act i (slice_get s.places i) s m ws ps log memory windows places
    (same ∙ sym (append-nil s.log) ∙ ap (λ (x : List ℕ). s.log ++ x) (sym (no-end act (slice_get s.places i) none)))

-- somebody ended, and has a line
pub acted_out : (act : Act) (i : ℕ) (s : State) (l : Left) (name : List ℕ) (m : ℕ) (ws : List Window) (ps : List Place)
    (between log : List ℕ) → left_by act (slice_get s.places i) ≡ Some l
    → option_map (λ (p : Place). p.name) (slice_get s.places i) ≡ Some name → m ≡ s.memory
    → ws ≡ windows_after (left_by act (slice_get s.places i)) s.windows
    → ps ≡ places_acted act i (slice_get s.places i) s.places → between ≡ s.log → log ≡ between ++ end_of name l.code.0
    → (let t : State = record { memory = m; windows = ws; places = ps; log = log } in t) ≡ acted_at act i s
acted_out act i s l name m ws ps between log left named memory windows places same told =
    by_parts act i (slice_get s.places i) s m ws ps log memory windows places
    (told ∙ ap (λ (x : List ℕ). x ++ end_of name l.code.0) same
    ∙ ap (λ (x : List ℕ). s.log ++ x) (sym (an-end act (slice_get s.places i) l name left named)))

-- A launch that the host stops.

-- what is so where a line was not written
pub failed_so : {A B E : Type 0} (r : Result A E) (w : Result B E) (P : Type 0) → OnErr r (is_ok w ≡ false) → OnErr w P
    → OnErr r P
failed_so (Ok a) w P failed so = tt
failed_so (Err e) (Ok b) P failed so = absurd (let no : true ≡ false = failed in cc)
failed_so (Err e) (Err f) P failed so = so

-- the desk with the same memory, windows and log
pub stays_so : (s : State) (m : ℕ) (ws : List Window) (log : List ℕ) → m ≡ s.memory → ws ≡ s.windows → log ≡ s.log
    → (let t : State = record { memory = m; windows = ws; places = s.places; log = log } in t) ≡ s
stays_so s m ws log memory windows same = λ i. record {
  memory = memory i;
  windows = windows i;
  places = s.places;
  log = same i;
}
