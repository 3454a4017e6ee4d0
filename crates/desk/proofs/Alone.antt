use Rattle.desk.proofs.Cited.{◌≡◌, ◌∙◌, ◌≤◌, ◌<◌, ◌+◌, ◌++◌, ◌||◌, ◌⊎◌, inl, inr, arith, ℕ, Bool, true, false, refl, sym, ap, cond, subst}
use Rattle.desk.proofs.Cited.{append_assoc, append-nil, length, drop, List, [], ◌∷◌, map, Option, Some, None, Result, Ok, Err, get_or}
use Rattle.desk.proofs.Cited.{le-ltb, slice_get_within, slice_get_cases, flat_map-append, Window, OsErr, Content, ScriptParts, launch_line}
use Rattle.desk.proofs.Cited.{Line, Event, Resources, Course, Shown, joined, step, unless_over, is_wait, line_told, lines_told, Ending}
use Rattle.desk.proofs.Cited.{first_steps, ending, ending_of, quits, ended_by, files_after, over-goes_on, steps-next, steps-past}
use Rattle.desk.proofs.Cited.{ending-next, ending-past, Act, Step, Turn, Quit, App, Launched, Live, Phase, Waiting, Running, Ended, Next}
use Rattle.desk.proofs.Cited.{GoesOn, Ends, begun, leaves, ends, after_course, called, run_out, step_of, stepped, quitted, and_then}
use Rattle.desk.proofs.Cited.{turn_through, acted, acted_by, come_by, told_of, grant, sizes_asked, Place, State, coming, place_come, ready}
use Rattle.desk.proofs.Cited.{begun_in, begun_if, launch_answer, acted_at, after_event, after_events, told, place_given, opening, start_of}
use Rattle.desk.proofs.Cited.{launched_alone, RunsAsAlone, LeftAsAlone, IsAsAlone, IsPlaceOf, HaltsAfter}
use Rattle.std.specs.Prelude.{slice_get}
use Rattle.applications.specs.Trying as application
use Rattle.applications.specs.Alone.{end_told}
use Rattle.desk.proofs.Events.{Pairs, acted-pairs, event-pairs, pairs_kept, pairs_within, pair_at}

-- The desk seen from one application is that application alone.

-- What follows an act of an application that runs as it does alone: it runs so, or it left what it leaves alone.
abbrev pub FollowsAlone : Resources → ScriptParts → Next → Type 0
FollowsAlone resources script (GoesOn live) = RunsAsAlone resources script live
FollowsAlone resources script (Ends l left) = LeftAsAlone resources script l

module _ (resources : Resources) (script : ScriptParts) where
  -- before its first step
  begun-alone : (w : Window) → RunsAsAlone resources script (begun resources w)
  begun-alone w = record {
    within = omega arith;
    goes = refl;
    state = refl;
    text = sym (append-nil (launch_line w.len));
  }

  -- where it stands after some steps
  stands-alone : (live : Live) → RunsAsAlone resources script live
      → LeftAsAlone resources script (leaves false live)
  stands-alone live so =
      let c : Course = first_steps resources live.window.len script live.steps in
      let none : Option Ending = None in
      let on : ending resources live.window.len script live.steps false ≡ none =
      ap (λ (t : Bool). ending_of (t || false) c) (le-ltb (length script.steps) live.steps so.within)
      ∙ ap (λ (t : Bool). cond t (Some (ended_by c)) none) so.goes in
      let text : live.transcript ≡ launch_line live.window.len ++ lines_told c.lines ++ [] =
      so.text ∙ sym (append-nil (launch_line live.window.len ++ lines_told c.lines)) in
      let state : live.state ≡ c.after = so.state in
      (λ i. record {
        size = live.window.len;
        steps = live.steps;
        asked = false;
        transcript = text i;
        files = (state i).resources.files;
      })
      ∙ ap (λ (o : Option Ending). let l : Launched = record {
        size = live.window.len;
        steps = live.steps;
        asked = false;
        transcript = launch_line live.window.len ++ lines_told c.lines ++ end_told o;
        files = files_after o c.after;
      } in l) (sym on)

  -- where it ends after some steps
  ends-alone : (size n : ℕ) (asked : Bool) (text : List ℕ) (e : Ending)
      → text ≡ launch_line size ++ lines_told (first_steps resources size script n).lines
      → ending resources size script n asked ≡ Some e
      → (let l : Launched = record {
        size = size;
        steps = n;
        asked = asked;
        transcript = text ++ end_told (Some e);
        files = e.files;
      } in l) ≡ launched_alone resources script size n asked
  ends-alone size n asked text e told is =
      ap (λ (t : List ℕ). let l : Launched = record {
        size = size;
        steps = n;
        asked = asked;
        transcript = t ++ end_told (Some e);
        files = e.files;
      } in l) told
      ∙ ap (λ (o : Option Ending). let l : Launched = record {
        size = size;
        steps = n;
        asked = asked;
        transcript = launch_line size ++ lines_told (first_steps resources size script n).lines ++ end_told o;
        files = files_after o (first_steps resources size script n).after;
      } in l) (sym is)

  -- a step with a call
  call-alone : (live : Live) (l : Line) → slice_get script.steps live.steps ≡ Some l → RunsAsAlone resources script live
      → FollowsAlone resources script (called (step script.blocks l live.state) live)
  call-alone live l is so = by_over s.over refl
    where
      size : ℕ
      size = live.window.len

      n : ℕ
      n = live.steps

      c : Course
      c = first_steps resources size script n

      d : Course
      d = first_steps resources size script (n + 1)

      s : Course
      s = step script.blocks l live.state

      same : s ≡ step script.blocks l c.after
      same = ap (step script.blocks l) so.state

      on : unless_over c (step script.blocks l) ≡ joined c s
      on = over-goes_on c (step script.blocks l) so.goes ∙ ap (joined c) (sym same)

      lines : d.lines ≡ c.lines ++ s.lines
      lines = (steps-next resources size script n l is).lines ∙ ap (λ (x : Course). x.lines) on

      text : live.transcript ++ lines_told s.lines ≡ launch_line size ++ lines_told d.lines
      text = ap (λ (x : List ℕ). x ++ lines_told s.lines) so.text
          ∙ append_assoc (launch_line size) (lines_told c.lines) (lines_told s.lines)
          ∙ ap (λ (x : List ℕ). launch_line size ++ x) (sym (flat_map-append line_told c.lines s.lines))
          ∙ ap (λ (x : List Shown). launch_line size ++ lines_told x) (sym lines)

      by_over : (t : Bool) → s.over ≡ t
          → FollowsAlone resources script
          (cond t (ends false (ended_by s) (after_course s live)) (GoesOn (after_course s live)))
      by_over false goes =
          let more = slice_get_within script.steps n l is in
          record {
            within = omega (arith, more);
            goes = (steps-next resources size script n l is).over ∙ ap (λ (x : Course). x.over) on ∙ goes;
            state = sym ((steps-next resources size script n l is).after ∙ ap (λ (x : Course). x.after) on);
            text = text;
          }
      by_over true over =
          ends-alone size (n + 1) false (live.transcript ++ lines_told s.lines) (ended_by s) text
          (ending-next resources size script n false l is
          ∙ ap (ending_of false) on
          ∙ ap (λ (t : Bool). cond t (Some (ended_by s)) (let none : Option Ending = None in none)) over)

  -- one that goes on quits where a quit is asked for
  quits-then : (live : Live) → RunsAsAlone resources script live
      → ending_of true (first_steps resources live.window.len script live.steps) ≡ Some (quits live.state)
  quits-then live so =
      let c : Course = first_steps resources live.window.len script live.steps in
      ap (λ (t : Bool). cond t (Some (ended_by c)) (Some (quits c.after))) so.goes
      ∙ ap (λ (r : application.Running). Some (quits r)) (sym so.state)

  -- and where it has no call left
  out-alone : (live : Live) → length script.steps ≤ live.steps → RunsAsAlone resources script live
      → FollowsAlone resources script (run_out script live)
  out-alone live past so =
      let size : ℕ = live.window.len in
      let n : ℕ = live.steps in
      let within : n ≤ length script.steps = so.within in
      let next : length script.steps + 1 ≡ n + 1 = omega (arith, past, within) in
      ends-alone size (length script.steps + 1) false live.transcript (quits live.state)
      (so.text
      ∙ ap (λ (x : Course). launch_line size ++ lines_told x.lines) (sym (steps-past resources size script n past))
      ∙ ap (λ (k : ℕ). launch_line size ++ lines_told (first_steps resources size script k).lines) (sym next))
      (ap (λ (k : ℕ). ending resources size script k false) next ∙ ending-past resources size script n false past
      ∙ quits-then live so)

  step-alone : (live : Live) → RunsAsAlone resources script live → FollowsAlone resources script (stepped script live)
  step-alone live so = by_line (slice_get script.steps live.steps) refl (slice_get_cases script.steps live.steps).1
    where
      by_line : (o : Option Line) → slice_get script.steps live.steps ≡ o
          → ((l : Line) × (live.steps < length script.steps) × (slice_get script.steps live.steps ≡ Some l)
          × (get_or script.steps live.steps l ≡ l))
          ⊎ ((length script.steps ≤ live.steps) × (slice_get script.steps live.steps ≡ None))
          → FollowsAlone resources script (step_of o script live)
      by_line (Some l) is cases = call-alone live l is so
      by_line None is (inl next) = absurd (let no : (let n : Option Line = None in n) ≡ Some next.0 = sym is ∙ next.2 in cc)
      by_line None is (inr past) = out-alone live past.0 so

  then-alone : (next : Next) (more : Live → Next)
      → ((live : Live) → RunsAsAlone resources script live → FollowsAlone resources script (more live))
      → FollowsAlone resources script next → FollowsAlone resources script (and_then next more)
  then-alone (GoesOn live) more on so = on live so
  then-alone (Ends l left) more on so = so

  turn-alone : (lines : List Line) (live : Live) → RunsAsAlone resources script live
      → FollowsAlone resources script (turn_through lines script live)
  turn-alone [] live so = step-alone live so
  turn-alone (l ∷ lines) live so =
      by_wait (step-alone live so)
      (then-alone (stepped script live) (turn_through lines script) (turn-alone lines) (step-alone live so))
      (is_wait l.call)
    where
      by_wait : FollowsAlone resources script (stepped script live)
          → FollowsAlone resources script (and_then (stepped script live) (turn_through lines script)) → (t : Bool)
          → FollowsAlone resources script
          (cond t (stepped script live) (and_then (stepped script live) (turn_through lines script)))
      by_wait first rest true = first
      by_wait first rest false = rest

  quit-alone : (live : Live) → RunsAsAlone resources script live → FollowsAlone resources script (quitted live)
  quit-alone live so =
      ends-alone live.window.len live.steps true live.transcript (quits live.state) so.text
      (ap (λ (t : Bool). ending_of (t || true) (first_steps resources live.window.len script live.steps))
      (le-ltb (length script.steps) live.steps so.within)
      ∙ quits-then live so)

  act-alone : (act : Act) (live : Live) → RunsAsAlone resources script live
      → FollowsAlone resources script (acted act script live)
  act-alone Step live so = step-alone live so
  act-alone Turn live so = turn-alone (drop live.steps script.steps) live so
  act-alone Quit live so = quit-alone live so

-- An application at its place.

came-alone : (start : Result Resources OsErr) (script : ScriptParts) (resources : Resources) (next : Next)
    → start ≡ Ok resources → FollowsAlone resources script next → IsAsAlone start script (come_by next).phase
came-alone start script resources (GoesOn live) is so = (resources, is, so)
came-alone start script resources (Ends l left) is so = (resources, is, so)

acted-alone : (act : Act) (start : Result Resources OsErr) (script : ScriptParts) (phase : Phase)
    → IsAsAlone start script phase → IsAsAlone start script (acted_by act script phase).phase
acted-alone act start script (Waiting given) so = so
acted-alone act start script (Running live) so =
    came-alone start script so.0 (acted act script live) so.1 (act-alone so.0 script act live so.2)
acted-alone act start script (Ended l) so = so

acted-place : (system : Content) (act : Act) (app : App) (p : Place) → IsPlaceOf system app p
    → IsPlaceOf system app (place_come p (coming act p))
acted-place system act app p so = record {
  name = so.name;
  script = so.script;
  phase = subst (λ (script : ScriptParts). IsAsAlone (start_of system app) app.script
      (acted_by act script p.phase).phase)
      (sym so.script)
      (acted-alone act (start_of system app) app.script p.phase so.phase);
}

-- one that is launched waited
launched-alone : (start : Result Resources OsErr) (script : ScriptParts) (size : Option ℕ) (phase : Phase) (s : State)
    (live : Live) → begun_if size (ready phase) s ≡ Ok live → IsAsAlone start script phase
    → IsAsAlone start script (Running live)
launched-alone start script size (Waiting (Err code)) s live is so = cc
launched-alone start script size (Waiting (Ok resources)) s live is so =
    by_window
    (grant s.memory s.windows (sizes_asked size resources).preferred (sizes_asked size resources).minimum) is
  where
    by_window : (o : Option Window) → begun_in resources o ≡ Ok live → IsAsAlone start script (Running live)
    by_window None none = cc
    by_window (Some w) some =
        let same : begun resources w ≡ live = cc in
        (resources, sym so, subst (RunsAsAlone resources script) same (begun-alone resources script w))
launched-alone start script size (Running other) s live is so = cc
launched-alone start script size (Ended l) s live is so = cc

launched-place : (system : Content) (app : App) (p : Place) (s : State) (live : Live) → launch_answer p s ≡ Ok live
    → IsPlaceOf system app p → IsPlaceOf system app (record p { phase = Running live })
launched-place system app p s live is so = record {
  name = so.name;
  script = so.script;
  phase = launched-alone (start_of system app) app.script p.size p.phase s live is so.phase;
}

pub given-alone : (system : Content) (apps : List App) → Pairs (IsPlaceOf system) apps (map (place_given system) apps)
given-alone system [] = tt
given-alone system (app ∷ apps) = (record { name = refl; script = refl; phase = refl }, given-alone system apps)

-- each place of a job's desk, whatever happened there
pub all_alone : (memory : ℕ) (system : Content) (apps : List App) (events : List Event)
    → Pairs (IsPlaceOf system) apps (after_events events (opening memory system apps)).places
all_alone memory system apps events =
    pairs_kept (IsPlaceOf system) (λ act app p so. acted-place system act app p so)
    (λ app p s live is so. launched-place system app p s live is so) apps events (opening memory system apps)
    (given-alone system apps)

-- so it is after a turn, and after any event
pub act_alone : (system : Content) (apps : List App) (i : ℕ) (s : State) → Pairs (IsPlaceOf system) apps s.places
    → Pairs (IsPlaceOf system) apps (acted_at Turn i s).places
act_alone system apps i s so =
    acted-pairs (IsPlaceOf system) (λ act app p so. acted-place system act app p so)
    (λ app p s live is so. launched-place system app p s live is so) apps Turn i (slice_get s.places i) s refl so

pub event_alone : (system : Content) (apps : List App) (e : Event) (s : State) → Pairs (IsPlaceOf system) apps s.places
    → Pairs (IsPlaceOf system) apps (after_event e s).places
event_alone system apps e s so =
    event-pairs (IsPlaceOf system) (λ act app p so. acted-place system act app p so)
    (λ app p s live is so. launched-place system app p s live is so) apps e s so

-- and each place where a run stops
pub after_alone : (memory : ℕ) (system : Content) (apps : List App) (done : ℕ) (events : List Event) (Q : State → Type 0)
    → HaltsAfter Q done events (opening memory system apps) → (m : State) × Pairs (IsPlaceOf system) apps m.places × Q m
after_alone memory system apps done events Q within =
    pairs_within (IsPlaceOf system) (λ act app p so. acted-place system act app p so)
    (λ app p s live is so. launched-place system app p s live is so) apps Q done events (opening memory system apps)
    (given-alone system apps) within

pub seen_alone : (memory : ℕ) (system : Content) (apps : List App) (events : List Event) (i : ℕ) (app : App) (p : Place)
    → slice_get apps i ≡ Some app → slice_get (after_events events (opening memory system apps)).places i ≡ Some p
    → IsPlaceOf system app p
seen_alone memory system apps events i app p given here =
    pair_at (IsPlaceOf system) apps (after_events events (opening memory system apps)).places i app p given here
    (all_alone memory system apps events)

-- what is told of an application that was launched is what it leaves alone
pub told-alone : (start : Result Resources OsErr) (script : ScriptParts) (phase : Phase) (l : Launched)
    → IsAsAlone start script phase → told_of phase ≡ Some l
    → (resources : Resources) × (start ≡ Ok resources) × LeftAsAlone resources script l
told-alone start script (Waiting given) l so is = cc
told-alone start script (Running live) l so is =
    let same : leaves false live ≡ l = cc in
    (so.0, so.1, subst (LeftAsAlone so.0 script) same (stands-alone so.0 script live so.2))
told-alone start script (Ended launched) l so is =
    let same : launched ≡ l = cc in
    (so.0, so.1, subst (LeftAsAlone so.0 script) same so.2)

same-start : (a b : Resources) (x : Result Resources OsErr) (y : Result Resources OsErr) → x ≡ y → x ≡ Ok a → y ≡ Ok b → a ≡ b
same-start a b x y same one other = cc

-- two that agree in that leave the same
pub left_same : (first second : Content) (a b : App) (p q : Place) (l m : Launched) → IsPlaceOf first a p
    → IsPlaceOf second b q → start_of first a ≡ start_of second b → a.script ≡ b.script
    → (told p).launched ≡ Some l → (told q).launched ≡ Some m
    → l.size ≡ m.size → l.steps ≡ m.steps → l.asked ≡ m.asked → l ≡ m
left_same first second a b p q l m here there starts scripts one other size steps asked =
    let x = told-alone (start_of first a) a.script p.phase l here.phase one in
    let y = told-alone (start_of second b) b.script q.phase m there.phase other in
    let own : x.0 ≡ y.0 = same-start x.0 y.0 (start_of first a) (start_of second b) starts x.1 y.1 in
    let all : launched_alone x.0 a.script l.size l.steps l.asked ≡ launched_alone y.0 b.script m.size m.steps m.asked =
    ap (λ (r : Resources). launched_alone r a.script l.size l.steps l.asked) own
    ∙ ap (λ (s : ScriptParts). launched_alone y.0 s l.size l.steps l.asked) scripts
    ∙ ap (λ (n : ℕ). launched_alone y.0 b.script n l.steps l.asked) size
    ∙ ap (λ (n : ℕ). launched_alone y.0 b.script m.size n l.asked) steps
    ∙ ap (λ (t : Bool). launched_alone y.0 b.script m.size m.steps t) asked in
    x.2 ∙ all ∙ sym y.2
