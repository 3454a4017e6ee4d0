use Rattle.desk.proofs.Cited.{◌≡◌, ℕ, ◌+◌, ◌<◌, ◌≤◌, Bool, true, false, Option, Some, None, List, [], ◌∷◌, ◌++◌, map, length, drop}
use Rattle.desk.proofs.Cited.{slice_get, slice_set, refl, sym, ◌∙◌, ap, subst, cond, arith, append_assoc, zero, suc, max, list_any}
use Rattle.desk.proofs.Cited.{le-max_left, le-max_right, slice_get_within, ScriptParts, Line, Course, step, is_wait, ended_by, Turn, Live}
use Rattle.desk.proofs.Cited.{Phase, Waiting, Running, Ended, Next, GoesOn, Ends, ends, after_course, step_of, stepped, called, and_then}
use Rattle.desk.proofs.Cited.{turn_through, turned, come_by, acted_by, runs, Place, State, coming, place_come, acted_in, acted_at}
use Rattle.desk.proofs.Cited.{each_turned, round, any_runs, rounds, longest_or, longest, rested}

-- Rounds come to an end: each takes a step of each application that runs, and none has more steps than its script has
-- lines, and the one behind the last.

-- an application that goes on took a step more, within its script
abbrev GoesFurther : ScriptParts → ℕ → Next → Type 0
GoesFurther script n (GoesOn live) = (n < live.steps) × (live.steps ≤ length script.steps)
GoesFurther script n (Ends launched left) = Unit {0}

module _ (script : ScriptParts) where
  called-further : (live : Live) (l : Line) (c : Course) → slice_get script.steps live.steps ≡ Some l
      → GoesFurther script live.steps (called c live)
  called-further live l c is = by_over c.over
    where
      by_over : (t : Bool) → GoesFurther script live.steps
          (cond t (ends false (ended_by c) (after_course c live)) (GoesOn (after_course c live)))
      by_over true = tt
      by_over false = let more = slice_get_within script.steps live.steps l is in (omega arith, omega (arith, more))

  step-further : (live : Live) → GoesFurther script live.steps (stepped script live)
  step-further live = by_line (slice_get script.steps live.steps) refl
    where
      by_line : (o : Option Line) → slice_get script.steps live.steps ≡ o
          → GoesFurther script live.steps (step_of o script live)
      by_line None is = tt
      by_line (Some l) is = called-further live l (step script.blocks l live.state) is

  more-further : (m n : ℕ) (next : Next) → m < n → GoesFurther script n next → GoesFurther script m next
  more-further m n (GoesOn live) less so = (let first : n < live.steps = so.0 in omega (arith, less, first), so.1)
  more-further m n (Ends launched left) less so = tt

  then-further : (n : ℕ) (next : Next) (more : Live → Next)
      → ((live : Live) → GoesFurther script live.steps (more live))
      → GoesFurther script n next → GoesFurther script n (and_then next more)
  then-further n (GoesOn live) more on so = more-further n live.steps (more live) so.0 (on live)
  then-further n (Ends launched left) more on so = tt

  turn-further : (lines : List Line) (live : Live) → GoesFurther script live.steps (turn_through lines script live)
  turn-further [] live = step-further live
  turn-further (l ∷ lines) live =
      by_wait (step-further live)
      (then-further live.steps (stepped script live) (turn_through lines script) (turn-further lines)
      (step-further live)) (is_wait l.call)
    where
      by_wait : GoesFurther script live.steps (stepped script live)
          → GoesFurther script live.steps (and_then (stepped script live) (turn_through lines script)) → (t : Bool)
          → GoesFurther script live.steps
          (cond t (stepped script live) (and_then (stepped script live) (turn_through lines script)))
      by_wait first rest true = first
      by_wait first rest false = rest

-- an application that runs has fewer than so many steps to take; and is within its script as well
abbrev Soon : (most : ℕ) → ScriptParts → Phase → Type 0
Soon k script (Waiting start) = Unit {0}
Soon k script (Running live) = length script.steps < live.steps + k
Soon k script (Ended launched) = Unit {0}

abbrev Within : ℕ → ScriptParts → Phase → Type 0
Within k script (Waiting start) = Unit {0}
Within k script (Running live) = (live.steps ≤ length script.steps) × (length script.steps < live.steps + k)
Within k script (Ended launched) = Unit {0}

abbrev Each : (ScriptParts → Phase → Type 0) → List Place → Type 0
Each P [] = Unit {0}
Each P (p ∷ places) = P p.script p.phase × Each P places

-- A round is a turn of each.
abbrev turned_place : Place → Place
turned_place p = place_come p (coming Turn p)

get-behind : (front : List Place) (p : Place) (rest : List Place) → slice_get (front ++ p ∷ rest) (length front) ≡ Some p
get-behind [] p rest = refl
get-behind (q ∷ front) p rest = get-behind front p rest

set-behind : (front : List Place) (p q : Place) (rest : List Place)
    → slice_set (front ++ p ∷ rest) (length front) q ≡ front ++ q ∷ rest
set-behind [] p q rest = refl
set-behind (r ∷ front) p q rest = ap (λ (places : List Place). r ∷ places) (set-behind front p q rest)

length-more : (front : List Place) (q : Place) → length (front ++ q ∷ []) ≡ length front + 1
length-more [] q = refl
length-more (r ∷ front) q = ap suc (length-more front q) ∙ omega arith

acted-behind : (front rest : List Place) (p : Place) (s : State) → s.places ≡ front ++ p ∷ rest
    → (acted_at Turn (length front) s).places ≡ (front ++ turned_place p ∷ []) ++ rest
acted-behind front rest p s is =
    let i : ℕ = length front in
    let here : slice_get s.places i ≡ Some p =
    ap (λ (places : List Place). slice_get places i) is ∙ get-behind front p rest in
    ap (λ (o : Option Place). (acted_in Turn i o s).places) here
    ∙ ap (λ (places : List Place). slice_set places i (turned_place p)) is
    ∙ set-behind front p (turned_place p) rest ∙ sym (append_assoc front (turned_place p ∷ []) rest)

each-turned : (rest front : List Place) (s : State) → s.places ≡ front ++ rest
    → (each_turned (length rest) (length front) s).places ≡ front ++ map turned_place rest
each-turned [] front s is = is
each-turned (p ∷ rest) front s is =
    let on : List Place = front ++ turned_place p ∷ [] in
    let next : State = acted_at Turn (length front) s in
    ap (λ (i : ℕ). (each_turned (length rest) i next).places) (sym (length-more front (turned_place p)))
    ∙ each-turned rest on next (acted-behind front rest p s is)
    ∙ append_assoc front (turned_place p ∷ []) (map turned_place rest)

round-turns : (s : State) → (round s).places ≡ map turned_place s.places
round-turns s = each-turned s.places [] s refl

-- Each round leaves a step less.
come-within : (k n : ℕ) (script : ScriptParts) (next : Next) → length script.steps < n + suc k → GoesFurther script n
    next
    → Within k script (come_by next).phase
come-within k n script (GoesOn live) soon so =
    (so.1, let further : n < live.steps = so.0 in omega (arith, soon, further))
come-within k n script (Ends launched left) soon so = tt

turn-within : (k : ℕ) (script : ScriptParts) (phase : Phase) → Soon (suc k) script phase
    → Within k script (acted_by Turn script phase).phase
turn-within k script (Waiting start) soon = tt
turn-within k script (Running live) soon =
    come-within k live.steps script (turned script live) soon
    (turn-further script (drop live.steps script.steps) live)
turn-within k script (Ended launched) soon = tt

turns-within : (k : ℕ) (places : List Place) → Each (Soon (suc k)) places → Each (Within k) (map turned_place places)
turns-within k [] so = tt
turns-within k (p ∷ places) so = (turn-within k p.script p.phase so.0, turns-within k places so.1)

within-soon : (k : ℕ) (script : ScriptParts) (phase : Phase) → Within k script phase → Soon k script phase
within-soon k script (Waiting start) so = tt
within-soon k script (Running live) so = so.1
within-soon k script (Ended launched) so = tt

each-soon : (k : ℕ) (places : List Place) → Each (Within k) places → Each (Soon k) places
each-soon k [] so = tt
each-soon k (p ∷ places) so = (within-soon k p.script p.phase so.0, each-soon k places so.1)

stopped : (script : ScriptParts) (phase : Phase) → Within 0 script phase → runs phase ≡ false
stopped script (Waiting start) so = refl
stopped script (Running live) so = absurd (
    let low : live.steps ≤ length script.steps = so.0 in
    let high : length script.steps < live.steps + 0 = so.1 in omega (arith, low, high))
stopped script (Ended launched) so = refl

none-runs : (places : List Place) → Each (Within 0) places → list_any (λ (p : Place). runs p.phase) places ≡ false
none-runs [] so = refl
none-runs (p ∷ places) so = rw (stopped p.script p.phase so.0) (none-runs places so.1)

-- a round, where any runs
stops-if : (k : ℕ) (s : State) → any_runs (rounds k (round s)) ≡ false → any_runs (rounds (suc k) s) ≡ false
stops-if k s stops = by_runs (any_runs s) refl
  where
    by_runs : (t : Bool) → any_runs s ≡ t → any_runs (cond t (rounds k (round s)) s) ≡ false
    by_runs true is = stops
    by_runs false is = is

rounds-stop : (k : ℕ) (s : State) → Each (Within k) s.places → any_runs (rounds k s) ≡ false
rounds-stop zero s so = none-runs s.places so
rounds-stop (suc k) s so =
    stops-if k s (rounds-stop k (round s) (subst (Each (Within k)) (sym (round-turns s))
    (turns-within k s.places (each-soon (suc k) s.places so))))

-- No script is longer than the longest.
longest-least : (most : ℕ) (places : List Place) → most ≤ longest_or most places
longest-least most [] = omega arith
longest-least most (p ∷ places) =
    let n : ℕ = length p.script.steps in
    let on : max most n ≤ longest_or (max most n) places = longest-least (max most n) places in
    let first : most ≤ max most n = le-max_left most n in
    omega (arith, on, first)

soon-most : (most k : ℕ) (script : ScriptParts) (phase : Phase) → length script.steps ≤ most → most < k → Soon k script
    phase
soon-most most k script (Waiting start) short less = tt
soon-most most k script (Running live) short less = omega (arith, short, less)
soon-most most k script (Ended launched) short less = tt

each-most : (most k : ℕ) (places : List Place) → longest_or most places < k → Each (Soon k) places
each-most most k [] less = tt
each-most most k (p ∷ places) less =
    let n : ℕ = length p.script.steps in
    let on : max most n ≤ longest_or (max most n) places = longest-least (max most n) places in
    let second : n ≤ max most n = le-max_right most n in (
      soon-most (longest_or (max most n) places) k p.script p.phase (omega (arith, on, second)) less,
      each-most (max most n) k places less,
    )

-- after a rest none runs
pub rest_ends : (s : State) → any_runs (rested s) ≡ false
rest_ends s =
    let soon : Each (Soon (suc (longest s.places))) s.places =
    each-most 0 (suc (longest s.places)) s.places (omega arith) in
    stops-if (longest s.places) s (rounds-stop (longest s.places) (round s)
    (subst (Each (Within (longest s.places))) (sym (round-turns s)) (turns-within (longest s.places) s.places soon)))
