use Rattle.desk.proofs.Cited.{◌≡◌, ◌∙◌, ◌+◌, ◌<◌, ◌≤◌, ◌⊎◌, inl, inr, ℕ, Bool, true, false, cond, Option, Some, None, List, [], ◌∷◌, Result}
use Rattle.desk.proofs.Cited.{◌++◌, length, map, drop, slice_get, slice_set, refl, sym, ap, subst, arith, zero, suc, append-nil}
use Rattle.desk.proofs.Cited.{slice_get_within, OsErr, Content, ScriptParts, Line, Event, Resources, Course, step, is_wait, ended_by, Act}
use Rattle.desk.proofs.Cited.{Step, Turn, Quit, App, Outcome, steps_of, steps_shown, Phase, Waiting, Running, Ended, Live, Next, GoesOn}
use Rattle.desk.proofs.Cited.{Ends, stepped, step_of, called, ends, after_course, and_then, turn_through, turned, come_by, acted_by}
use Rattle.desk.proofs.Cited.{told_of, Place, State, coming, place_come, acted_in, acted_at, each_turned, round, told, end_told, longest}
use Rattle.desk.proofs.Cited.{after_event, Halt, Goes, WithinTurn, WithinPhase, WithinOf, WithinAt, WithinTurns, WithinRounds, WithinEvent}
use Rattle.desk.proofs.Cited.{HaltsAfter, IsLeft, halted, IsAsAlone, IsPlaceOf, opening, start_of}
use Rattle.script_text.specs.declared.job.Event.TheVariants as event
use Rattle.desk.proofs.Halting.{same_place, at_begun}
use Rattle.desk.proofs.Events.{Pairs}
use Rattle.desk.proofs.Alone.{act_alone, event_alone, given-alone}

-- Where a run stops within an event is known by the number of steps that the applications have taken.

-- what follows a step, or a turn, has taken more steps
abbrev Later : ℕ → Next → Type 0
Later n (GoesOn live) = n < live.steps
Later n (Ends launched left) = n < launched.steps

abbrev Fits : ScriptParts → Live → Type 0
Fits script live = live.steps ≤ length script.steps

-- an application that runs is within its script
abbrev pub FitsIn : ScriptParts → Phase → Type 0
FitsIn script (Waiting start) = Unit {0}
FitsIn script (Running live) = Fits script live
FitsIn script (Ended launched) = Unit {0}

abbrev GoesFitting : ScriptParts → Next → Type 0
GoesFitting script (GoesOn live) = Fits script live
GoesFitting script (Ends launched left) = Unit {0}

module _ (script : ScriptParts) where
  called-fits : (live : Live) (l : Line) (c : Course) → slice_get script.steps live.steps ≡ Some l
      → GoesFitting script (called c live)
  called-fits live l c is = by_over c.over
    where
      by_over : (t : Bool) → GoesFitting script (cond t (ends false (ended_by c) (after_course c live)) (GoesOn (after_course c live)))
      by_over true = tt
      by_over false = let more = slice_get_within script.steps live.steps l is in omega (arith, more)

  step-fits : (live : Live) → GoesFitting script (stepped script live)
  step-fits live = by_line (slice_get script.steps live.steps) refl
    where
      by_line : (o : Option Line) → slice_get script.steps live.steps ≡ o → GoesFitting script (step_of o script live)
      by_line None is = tt
      by_line (Some l) is = called-fits live l (step script.blocks l live.state) is

  called-later : (live : Live) (c : Course) → Later live.steps (called c live)
  called-later live c = by_over c.over
    where
      by_over : (t : Bool) → Later live.steps (cond t (ends false (ended_by c) (after_course c live)) (GoesOn (after_course c live)))
      by_over true = omega arith
      by_over false = omega arith

  step-later : (live : Live) → Fits script live → Later live.steps (stepped script live)
  step-later live fits = by_line (slice_get script.steps live.steps)
    where
      by_line : (o : Option Line) → Later live.steps (step_of o script live)
      by_line None = omega (arith, fits)
      by_line (Some l) = called-later live (step script.blocks l live.state)

  more-later : (m n : ℕ) (next : Next) → m < n → Later n next → Later m next
  more-later m n (GoesOn live) less so = omega (arith, less, so)
  more-later m n (Ends launched left) less so = omega (arith, less, so)

  then-later : (n : ℕ) (next : Next) (more : Live → Next)
      → ((live : Live) → Fits script live → Later live.steps (more live))
      → GoesFitting script next → Later n next → Later n (and_then next more)
  then-later n (GoesOn live) more on fits so = more-later n live.steps (more live) so (on live fits)
  then-later n (Ends launched left) more on fits so = so

  turn-later : (lines : List Line) (live : Live) → Fits script live → Later live.steps (turn_through lines script live)
  turn-later [] live fits = step-later live fits
  turn-later (l ∷ lines) live fits =
      by_wait (step-later live fits)
      (then-later live.steps (stepped script live) (turn_through lines script) (turn-later lines) (step-fits live)
      (step-later live fits)) (is_wait l.call)
    where
      by_wait : Later live.steps (stepped script live)
          → Later live.steps (and_then (stepped script live) (turn_through lines script)) → (t : Bool)
          → Later live.steps
          (cond t (stepped script live) (and_then (stepped script live) (turn_through lines script)))
      by_wait first rest true = first
      by_wait first rest false = rest

  -- a turn that does not wait, and goes on
  turn-on : (l : Line) (lines : List Line) (live m : Live) → is_wait l.call ≡ false → stepped script live ≡ GoesOn m
      → turn_through (l ∷ lines) script live ≡ turn_through lines script m
  turn-on l lines live m waits goes =
      ap (λ (t : Bool). cond t (stepped script live) (and_then (stepped script live) (turn_through lines script))) waits
      ∙ ap (λ (n : Next). and_then n (turn_through lines script)) goes

  abbrev Reached : (Live → Type 0) → Live → Next → Type 0
  Reached P live next = (m : Live) × P m × ((live ≡ m) ⊎ (live.steps < m.steps)) × Later m.steps next

  goes-further : (live m : Live) → Fits script live → stepped script live ≡ GoesOn m → live.steps < m.steps
  goes-further live m fits is = subst (Later live.steps) is (step-later live fits)

  -- an application within a turn: after its begin, before its end
  turn-reached : (P : Live → Type 0) (lines : List Line) (live : Live) → Fits script live
      → WithinTurn P lines script live → Reached P live (turn_through lines script live)
  turn-reached P [] live fits so = (live, so, inl refl, turn-later [] live fits)
  turn-reached P (l ∷ lines) live fits (inl so) = (live, so, inl refl, turn-later (l ∷ lines) live fits)
  turn-reached P (l ∷ lines) live fits (inr so) =
      by_next (λ m fitting within. turn-reached P lines m fitting within) (stepped script live) refl so.1
    where
      by_start : (m k : Live) → live.steps < m.steps → (m ≡ k) ⊎ (m.steps < k.steps) → live.steps < k.steps
      by_start m k first (inl same) = subst (λ (x : Live). live.steps < x.steps) same first
      by_start m k first (inr less) = omega (arith, first, less)

      by_next : ((m : Live) → Fits script m → WithinTurn P lines script m → Reached P m (turn_through lines script m))
          → (next : Next) → stepped script live ≡ next → Goes (WithinTurn P lines script) next
          → Reached P live (turn_through (l ∷ lines) script live)
      by_next more (GoesOn m) is within =
          let k = more m (subst (GoesFitting script) is (step-fits live)) within in (
            k.0,
            k.1,
            inr (by_start m k.0 (goes-further live m fits is) k.2),
            subst (Later k.0.steps) (sym (turn-on l lines live m so.0 is)) k.3,
          )
      by_next more (Ends launched left) is within = absurd within

  abbrev Apart : (Live → Type 0) → (Live → Type 0) → Type 0
  Apart P R = (m k : Live) × P m × R k × ((m ≡ k) ⊎ (m.steps < k.steps) ⊎ (k.steps < m.steps))

  -- two of them are the same, or one has taken more steps
  turn-pair : (P R : Live → Type 0) (lines : List Line) (live : Live) → Fits script live
      → WithinTurn P lines script live → WithinTurn R lines script live → Apart P R
  turn-pair P R [] live fits p r = (live, live, p, r, inl refl)
  turn-pair P R (l ∷ lines) live fits (inl p) (inl r) = (live, live, p, r, inl refl)
  turn-pair P R (l ∷ lines) live fits (inl p) (inr r) =
      let k = turn-reached R (l ∷ lines) live fits (inr r) in (live, k.0, p, k.1, by_start k.0 k.2)
    where
      by_start : (k : Live) → (live ≡ k) ⊎ (live.steps < k.steps)
          → (live ≡ k) ⊎ (live.steps < k.steps) ⊎ (k.steps < live.steps)
      by_start k (inl same) = inl same
      by_start k (inr less) = inr (inl less)
  turn-pair P R (l ∷ lines) live fits (inr p) (inl r) =
      let m = turn-reached P (l ∷ lines) live fits (inr p) in (m.0, live, m.1, r, by_start m.0 m.2)
    where
      by_start : (m : Live) → (live ≡ m) ⊎ (live.steps < m.steps)
          → (m ≡ live) ⊎ (m.steps < live.steps) ⊎ (live.steps < m.steps)
      by_start m (inl same) = inl (sym same)
      by_start m (inr less) = inr (inr less)
  turn-pair P R (l ∷ lines) live fits (inr p) (inr r) =
      by_next (λ m fitting p r. turn-pair P R lines m fitting p r) (stepped script live) refl p.1 r.1
    where
      by_next : ((m : Live) → Fits script m → WithinTurn P lines script m → WithinTurn R lines script m → Apart P R)
          → (next : Next) → stepped script live ≡ next → Goes (WithinTurn P lines script) next
          → Goes (WithinTurn R lines script) next → Apart P R
      by_next more (GoesOn m) is p r = more m (subst (GoesFitting script) is (step-fits live)) p r
      by_next more (Ends launched left) is p r = absurd p

-- The number of steps that all have taken.
abbrev taken : State → ℕ
taken s = steps_shown (map told s.places)

-- one state leaves the same as another, or was before it
abbrev Before : State → State → Type 0
Before s t = (halted s ≡ halted t) ⊎ (taken s < taken t)

as-many : (s t : State) → halted s ≡ halted t → taken s ≡ taken t
as-many s t same = ap (λ (h : Halt). steps_shown h.1) same

before-on : (s t u : State) → Before s t → Before t u → Before s u
before-on s t u (inl a) (inl b) = inl (a ∙ b)
before-on s t u (inl a) (inr b) = let same = as-many s t a in inr (omega (arith, same, b))
before-on s t u (inr a) (inl b) = let same = as-many t u b in inr (omega (arith, same, a))
before-on s t u (inr a) (inr b) = inr (omega (arith, a, b))

abbrev pub counted : Phase → ℕ
counted phase = steps_of (told_of phase)

set-less : (places : List Place) (i : ℕ) (o p q : Place) → slice_get places i ≡ Some o
    → counted p.phase < counted q.phase
    → steps_shown (map told (slice_set places i p)) < steps_shown (map told (slice_set places i q))
set-less [] i o p q is less = cc
set-less (r ∷ places) zero o p q is less = omega (arith, less)
set-less (r ∷ places) (suc i) o p q is less =
    let rest = set-less places i o p q is less in omega (arith, rest)

-- A place of the desk, in a phase.
module _ (i : ℕ) (p : Place) (s : State) (here : slice_get s.places i ≡ Some p) where
  abbrev with_phase : Phase → State
  with_phase f = record s { places = slice_set s.places i (record p { phase = f }) }

  with-own : halted (with_phase p.phase) ≡ halted s
  with-own = λ j. (s.log, map told (same_place s.places i p here j))

  phase-before : (f g : Phase) → (f ≡ g) ⊎ (counted f < counted g) → Before (with_phase f) (with_phase g)
  phase-before f g (inl same) = inl (ap (λ (x : Phase). halted (with_phase x)) same)
  phase-before f g (inr less) =
      inr (set-less s.places i p (record p { phase = f }) (record p { phase = g }) here less)

  own-before : (f : Phase) → (p.phase ≡ f) ⊎ (counted p.phase < counted f) → Before s (with_phase f)
  own-before f so = before-on s (with_phase p.phase) (with_phase f) (inl (sym with-own)) (phase-before p.phase f so)

  -- the desk after the turn
  abbrev after_turn : State
  after_turn = acted_in Turn i (Some p) s

  end-before : (f : Phase) → counted f < counted (coming Turn p).phase → Before (with_phase f) after_turn
  end-before f less =
      inr (set-less s.places i p (record p { phase = f }) (place_come p (coming Turn p)) here less)

  idle : coming Turn p ≡ record { phase = p.phase; left = None } → halted after_turn ≡ halted s
  idle stays =
      (λ j. (s.log ++ end_told p.name (stays j).left, map told (slice_set s.places i (place_come p (stays j)))))
      ∙ (λ j. (append-nil s.log j, map told (same_place s.places i p here j)))

  own-so : (f g : Phase) → p.phase ≡ f → (f ≡ g) ⊎ (counted f < counted g) → Before s (with_phase g)
  own-so f g is so = own-before g (subst (λ (x : Phase). (x ≡ g) ⊎ (counted x < counted g)) (sym is) so)

  -- nobody takes a turn
  stays-before : (f : Phase) → p.phase ≡ f → acted_by Turn p.script f ≡ record { phase = f; left = None }
      → Before (with_phase f) after_turn
  stays-before f is stays = inl (
      ap (λ (x : Phase). halted (with_phase x)) (sym is) ∙ with-own
      ∙ sym (idle (subst (λ (x : Phase). acted_by Turn p.script x ≡ record { phase = x; left = None }) (sym is) stays)))

  abbrev Found : (State → Type 0) → State → State → Type 0
  Found P first last = (q : State) × P q × Before first q × Before q last

  abbrev Pair : (State → Type 0) → (State → Type 0) → Type 0
  Pair P R = (q r : State) × P q × R r × (Before q r ⊎ Before r q)

  later-counted : (n : ℕ) (next : Next) → Later n next → n < counted (come_by next).phase
  later-counted n (GoesOn live) less = less
  later-counted n (Ends launched left) less = less

  -- the desk within a turn
  phase-reached : (P : State → Type 0) (f : Phase) → p.phase ≡ f → FitsIn p.script f
      → WithinPhase (λ g. P (with_phase g)) Turn p.script f → Found P s after_turn
  phase-reached P (Waiting start) is fits so =
      (with_phase (Waiting start), so, own-so (Waiting start) (Waiting start) is (inl refl), stays-before (Waiting start) is refl)
  phase-reached P (Running live) is fits so =
      let m = turn-reached p.script (λ m. P (with_phase (Running m))) (drop live.steps p.script.steps) live fits so in (
        with_phase (Running m.0),
        m.1,
        own-so (Running live) (Running m.0) is (by_start m.0 m.2),
        end-before (Running m.0) (subst (λ (x : Phase). m.0.steps < counted (acted_by Turn p.script x).phase) (sym is)
            (later-counted m.0.steps (turned p.script live) m.3)),
      )
    where
      by_start : (m : Live) → (live ≡ m) ⊎ (live.steps < m.steps)
          → (Running live ≡ Running m) ⊎ (counted (Running live) < counted (Running m))
      by_start m (inl same) = inl (ap Running same)
      by_start m (inr less) = inr less
  phase-reached P (Ended launched) is fits so =
      (with_phase (Ended launched), so, own-so (Ended launched) (Ended launched) is (inl refl), stays-before (Ended launched) is refl)

  -- two within one act
  phase-pair : (P R : State → Type 0) (act : Act) (f : Phase) → FitsIn p.script f
      → WithinPhase (λ g. P (with_phase g)) act p.script f → WithinPhase (λ g. R (with_phase g)) act p.script f → Pair P R
  phase-pair P R act (Waiting start) fits a b = (with_phase (Waiting start), with_phase (Waiting start), a, b, inl (inl refl))
  phase-pair P R Step (Running live) fits a b = (with_phase (Running live), with_phase (Running live), a, b, inl (inl refl))
  phase-pair P R Turn (Running live) fits a b =
      let m = turn-pair p.script (λ m. P (with_phase (Running m))) (λ m. R (with_phase (Running m)))
      (drop live.steps p.script.steps) live fits a b in
      (with_phase (Running m.0), with_phase (Running m.1), m.2, m.3, by_order m.0 m.1 m.4)
    where
      by_order : (m k : Live) → (m ≡ k) ⊎ (m.steps < k.steps) ⊎ (k.steps < m.steps)
          → Before (with_phase (Running m)) (with_phase (Running k)) ⊎ Before (with_phase (Running k)) (with_phase (Running m))
      by_order m k (inl same) = inl (phase-before (Running m) (Running k) (inl (ap Running same)))
      by_order m k (inr (inl less)) = inl (phase-before (Running m) (Running k) (inr less))
      by_order m k (inr (inr less)) = inr (phase-before (Running k) (Running m) (inr less))
  phase-pair P R Quit (Running live) fits a b = (with_phase (Running live), with_phase (Running live), a, b, inl (inl refl))
  phase-pair P R act (Ended launched) fits a b = (with_phase (Ended launched), with_phase (Ended launched), a, b, inl (inl refl))

-- States of which each application is within its script, and that stay so.
module _ (Good : State → Type 0)
    (fits : (s : State) (i : ℕ) (p : Place) → Good s → slice_get s.places i ≡ Some p → FitsIn p.script p.phase)
    (kept : (i : ℕ) (s : State) → Good s → Good (acted_at Turn i s)) where
  of-reached : (P : State → Type 0) (i : ℕ) (o : Option Place) (s : State) → slice_get s.places i ≡ o → Good s
      → WithinOf (λ places. P (record s { places = places })) Turn i o s.places
      → (q : State) × P q × Before s q × Before q (acted_in Turn i o s)
  of-reached P i None s is good so = (s, so, inl refl, inl refl)
  of-reached P i (Some p) s is good so = phase-reached i p s is P p.phase refl (fits s i p good is) so

  at-reached : (P : State → Type 0) (i : ℕ) (s : State) → Good s → WithinAt P Turn i s
      → (q : State) × P q × Before s q × Before q (acted_at Turn i s)
  at-reached P i s good so = of-reached P i (slice_get s.places i) s refl good so

  at-before : (i : ℕ) (s : State) → Good s → Before s (acted_at Turn i s)
  at-before i s good =
      let q = at-reached (λ m. Unit {0}) i s good (at_begun (λ m. Unit {0}) Turn i s tt) in
      before-on s q.0 (acted_at Turn i s) q.2 q.3

  of-pair : (P R : State → Type 0) (act : Act) (i : ℕ) (o : Option Place) (s : State) → slice_get s.places i ≡ o
      → Good s → WithinOf (λ places. P (record s { places = places })) act i o s.places
      → WithinOf (λ places. R (record s { places = places })) act i o s.places
      → (q r : State) × P q × R r × (Before q r ⊎ Before r q)
  of-pair P R act i None s is good a b = (s, s, a, b, inl (inl refl))
  of-pair P R act i (Some p) s is good a b = phase-pair i p s is P R act p.phase (fits s i p good is) a b

  at-pair : (P R : State → Type 0) (act : Act) (i : ℕ) (s : State) → Good s → WithinAt P act i s → WithinAt R act i s
      → (q r : State) × P q × R r × (Before q r ⊎ Before r q)
  at-pair P R act i s good a b = of-pair P R act i (slice_get s.places i) s refl good a b

  turned-good : (k i : ℕ) (s : State) → Good s → Good (each_turned k i s)
  turned-good zero i s good = good
  turned-good (suc k) i s good = turned-good k (i + 1) (acted_at Turn i s) (kept i s good)

  turns-before : (k i : ℕ) (s : State) → Good s → Before s (each_turned k i s)
  turns-before zero i s good = inl refl
  turns-before (suc k) i s good =
      let t : State = acted_at Turn i s in
      before-on s t (each_turned k (i + 1) t) (at-before i s good) (turns-before k (i + 1) t (kept i s good))

  turns-reached : (P : State → Type 0) (k i : ℕ) (s : State) → Good s → WithinTurns P k i s
      → (q : State) × P q × Before s q × Before q (each_turned k i s)
  turns-reached P zero i s good so = absurd so
  turns-reached P (suc k) i s good (inl so) =
      let t : State = acted_at Turn i s in
      let q = at-reached P i s good so in
      (q.0, q.1, q.2, before-on q.0 t (each_turned k (i + 1) t) q.3 (turns-before k (i + 1) t (kept i s good)))
  turns-reached P (suc k) i s good (inr so) =
      let t : State = acted_at Turn i s in
      let q = turns-reached P k (i + 1) t (kept i s good) so in
      (q.0, q.1, before-on s t q.0 (at-before i s good) q.2, q.3)

  turns-pair : (P R : State → Type 0) (k i : ℕ) (s : State) → Good s → WithinTurns P k i s → WithinTurns R k i s
      → (q r : State) × P q × R r × (Before q r ⊎ Before r q)
  turns-pair P R zero i s good a b = absurd a
  turns-pair P R (suc k) i s good (inl a) (inl b) = at-pair P R Turn i s good a b
  turns-pair P R (suc k) i s good (inl a) (inr b) =
      let t : State = acted_at Turn i s in
      let q = at-reached P i s good a in
      let r = turns-reached R k (i + 1) t (kept i s good) b in
      (q.0, r.0, q.1, r.1, inl (before-on q.0 t r.0 q.3 r.2))
  turns-pair P R (suc k) i s good (inr a) (inl b) =
      let t : State = acted_at Turn i s in
      let r = at-reached R i s good b in
      let q = turns-reached P k (i + 1) t (kept i s good) a in
      (q.0, r.0, q.1, r.1, inr (before-on r.0 t q.0 r.3 q.2))
  turns-pair P R (suc k) i s good (inr a) (inr b) = turns-pair P R k (i + 1) (acted_at Turn i s) (kept i s good) a b

  rounds-reached : (P : State → Type 0) (k : ℕ) (s : State) → Good s → WithinRounds P k s
      → (q : State) × P q × Before s q
  rounds-reached P zero s good so = absurd so
  rounds-reached P (suc k) s good (inl so) =
      let q = turns-reached P (length s.places) 0 s good so in (q.0, q.1, q.2)
  rounds-reached P (suc k) s good (inr so) =
      let n : ℕ = length s.places in
      let q = rounds-reached P k (round s) (turned-good n 0 s good) so in
      (q.0, q.1, before-on s (round s) q.0 (turns-before n 0 s good) q.2)

  rounds-pair : (P R : State → Type 0) (k : ℕ) (s : State) → Good s → WithinRounds P k s → WithinRounds R k s
      → (q r : State) × P q × R r × (Before q r ⊎ Before r q)
  rounds-pair P R zero s good a b = absurd a
  rounds-pair P R (suc k) s good (inl a) (inl b) = turns-pair P R (length s.places) 0 s good a b
  rounds-pair P R (suc k) s good (inl a) (inr b) =
      let n : ℕ = length s.places in
      let q = turns-reached P n 0 s good a in
      let r = rounds-reached R k (round s) (turned-good n 0 s good) b in
      (q.0, r.0, q.1, r.1, inl (before-on q.0 (round s) r.0 q.3 r.2))
  rounds-pair P R (suc k) s good (inr a) (inl b) =
      let n : ℕ = length s.places in
      let r = turns-reached R n 0 s good b in
      let q = rounds-reached P k (round s) (turned-good n 0 s good) a in
      (q.0, r.0, q.1, r.1, inr (before-on r.0 (round s) q.0 r.3 q.2))
  rounds-pair P R (suc k) s good (inr a) (inr b) =
      rounds-pair P R k (round s) (turned-good (length s.places) 0 s good) a b

  event-pair : (P R : State → Type 0) (e : Event) (s : State) → Good s → WithinEvent P e s → WithinEvent R e s
      → (q r : State) × P q × R r × (Before q r ⊎ Before r q)
  event-pair P R (event.Launch i) s good a b = (s, s, a, b, inl (inl refl))
  event-pair P R (event.Act i act) s good a b = at-pair P R act i s good a b
  event-pair P R event.Rest s good a b = rounds-pair P R (suc (longest s.places)) s good a b

  halts-pair : ((e : Event) (s : State) → Good s → Good (after_event e s)) → (P R : State → Type 0) (done : ℕ)
      (events : List Event) (s : State) → Good s → HaltsAfter P done events s → HaltsAfter R done events s
      → (q r : State) × P q × R r × (Before q r ⊎ Before r q)
  halts-pair on P R zero [] s good a b = (s, s, a.0, b.0, inl (inl refl))
  halts-pair on P R zero (e ∷ events) s good a b = event-pair P R e s good a b
  halts-pair on P R (suc done) [] s good a b = absurd a
  halts-pair on P R (suc done) (e ∷ events) s good a b =
      halts-pair on P R done events (after_event e s) (on e s good) a b

-- so two that have taken as many steps are the same
known-by : (x y : Halt) (q r : State) → halted q ≡ x → halted r ≡ y → Before q r ⊎ Before r q
    → steps_shown x.1 ≡ steps_shown y.1 → x ≡ y
known-by x y q r a b (inl (inl same)) many = sym a ∙ same ∙ b
known-by x y q r a b (inl (inr less)) many =
    let m : taken q ≡ steps_shown x.1 = ap (λ (h : Halt). steps_shown h.1) a in
    let n : taken r ≡ steps_shown y.1 = ap (λ (h : Halt). steps_shown h.1) b in
    absurd (omega (arith, m, n, less, many))
known-by x y q r a b (inr (inl same)) many = sym a ∙ sym same ∙ b
known-by x y q r a b (inr (inr less)) many =
    let m : taken q ≡ steps_shown x.1 = ap (λ (h : Halt). steps_shown h.1) a in
    let n : taken r ≡ steps_shown y.1 = ap (λ (h : Halt). steps_shown h.1) b in
    absurd (omega (arith, m, n, less, many))

-- The applications of a job are within their scripts.
phase-fits : (start : Result Resources OsErr) (script : ScriptParts) (phase : Phase) → IsAsAlone start script phase
    → FitsIn script phase
phase-fits start script (Waiting given) so = tt
phase-fits start script (Running live) so = so.2.within
phase-fits start script (Ended launched) so = tt

place-fits : (system : Content) (app : App) (p : Place) → IsPlaceOf system app p → FitsIn p.script p.phase
place-fits system app p so =
    subst (λ (x : ScriptParts). FitsIn x p.phase) (sym so.script) (phase-fits (start_of system app) app.script p.phase so.phase)

places-fit : (system : Content) (apps : List App) (places : List Place) (i : ℕ) (p : Place)
    → Pairs (IsPlaceOf system) apps places → slice_get places i ≡ Some p → FitsIn p.script p.phase
places-fit system [] [] i p so here = cc
places-fit system (app ∷ apps) (q ∷ places) zero p so here =
    let same : q ≡ p = cc in subst (λ (x : Place). FitsIn x.script x.phase) same (place-fits system app q so.0)
places-fit system (app ∷ apps) (q ∷ places) (suc i) p so here = places-fit system apps places i p so.1 here
places-fit system [] (q ∷ places) i p so here = absurd so
places-fit system (app ∷ apps) [] i p so here = absurd so

-- two that stopped
halts-known : (memory : ℕ) (system : Content) (apps : List App) (events : List Event) (o q : Outcome)
    → HaltsAfter (λ m. halted m ≡ (o.log, o.apps)) o.done events (opening memory system apps)
    → HaltsAfter (λ m. halted m ≡ (q.log, q.apps)) q.done events (opening memory system apps)
    → o.done ≡ q.done → steps_shown o.apps ≡ steps_shown q.apps
    → (let h : Halt = (o.log, o.apps) in h) ≡ (q.log, q.apps)
halts-known memory system apps events o q one other done many =
    let Q : State → Type 0 = λ m. halted m ≡ (q.log, q.apps) in
    let found = halts-pair (λ s. Pairs (IsPlaceOf system) apps s.places)
    (λ s i p good here. places-fit system apps s.places i p good here) (λ i s good. act_alone system apps i s good)
    (λ e s good. event_alone system apps e s good) (λ m. halted m ≡ (o.log, o.apps)) Q o.done events
    (opening memory system apps) (given-alone system apps) one
    (subst (λ (n : ℕ). HaltsAfter Q n events (opening memory system apps)) (sym done) other) in
    known-by (o.log, o.apps) (q.log, q.apps) found.0 found.1 found.2 found.3 found.4 many

pub stopped_known : (memory : ℕ) (system : Content) (apps : List App) (events : List Event) (o q : Outcome)
    → IsLeft o events (opening memory system apps) → IsLeft q events (opening memory system apps)
    → o.stopped ≡ true → q.stopped ≡ true → o.done ≡ q.done → steps_shown o.apps ≡ steps_shown q.apps → o ≡ q
stopped_known memory system apps events o q (inl is) other one two done many =
    absurd (let no : true ≡ false = sym one ∙ ap (λ (x : Outcome). x.stopped) is in cc)
stopped_known memory system apps events o q (inr halts) (inl is) one two done many =
    absurd (let no : true ≡ false = sym two ∙ ap (λ (x : Outcome). x.stopped) is in cc)
stopped_known memory system apps events o q (inr halts) (inr other) one two done many =
    let same = halts-known memory system apps events o q halts.1 other.1 done many in
    λ i. record { done = done i; log = (same i).0; apps = (same i).1; stopped = (one ∙ sym two) i }
