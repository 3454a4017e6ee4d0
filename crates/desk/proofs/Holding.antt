-- Who holds which window, as applications are launched and end.
use Rattle.desk.proofs.Cited.{◌≡◌, ℕ, ◌+◌, ◌<◌, ◌≤◌, zero, suc, Bool, true, false, cond, List, [], ◌∷◌, length, map, drop, Option, Some}
use Rattle.desk.proofs.Cited.{None, option_map, slice_get, slice_set, IfSome, refl, sym, ◌∙◌, ap, subst, arith, Contains, Window, put_in}
use Rattle.desk.proofs.Cited.{taken_out, contains-counted, times-put_in, times-taken_out, length-taken_out, one-itself, none-counted}
use Rattle.desk.proofs.Cited.{length-with_window, given_back, ScriptParts, Line, Course, step, is_wait, ended_by, Content, Act, Step, Turn}
use Rattle.desk.proofs.Cited.{Quit, App, Live, Phase, Waiting, Running, Ended, Left, Next, GoesOn, Ends, come_by, called, step_of, stepped}
use Rattle.desk.proofs.Cited.{turn_through, and_then, acted, acted_by, window_of, waits, ends, after_course, Place, windows_after}
use Rattle.desk.proofs.Cited.{places_acted, left_by, place_given, holders, one_of, sum, some_of, IsHeld, left_window, opened, closed}

after-closed : (o : Option Left) (ws : List Window) → windows_after o ws ≡ closed (left_window o) ws
after-closed None ws = refl
after-closed (Some l) ws = refl

acted-cons : (act : Act) (i : ℕ) (o : Option Place) (p : Place) (ps : List Place)
    → places_acted act (suc i) o (p ∷ ps) ≡ p ∷ places_acted act i o ps
acted-cons act i None p ps = refl
acted-cons act i (Some q) p ps = refl

-- an application that goes on does so in its window, and one that ends gives its window back
abbrev InWindow : Window → Next → Type 0
InWindow w (GoesOn live) = live.window ≡ w
InWindow w (Ends launched left) = left.window ≡ w

call-window : (c : Course) (live : Live) → InWindow live.window (called c live)
call-window c live = by_over c.over
  where
    by_over : (t : Bool) → InWindow live.window
        (cond t (ends false (ended_by c) (after_course c live)) (GoesOn (after_course c live)))
    by_over true = refl
    by_over false = refl

step-window : (script : ScriptParts) (live : Live) → InWindow live.window (stepped script live)
step-window script live = by_line (slice_get script.steps live.steps)
  where
    by_line : (o : Option Line) → InWindow live.window (step_of o script live)
    by_line None = refl
    by_line (Some l) = call-window (step script.blocks l live.state) live

then-window : (w : Window) (next : Next) (more : Live → Next) → ((live : Live) → InWindow live.window (more live))
    → InWindow w next → InWindow w (and_then next more)
then-window w (GoesOn live) more on so = subst (λ (v : Window). InWindow v (more live)) so (on live)
then-window w (Ends launched left) more on so = so

turn-window : (script : ScriptParts) (lines : List Line) (live : Live) → InWindow live.window
    (turn_through lines script live)
turn-window script [] live = step-window script live
turn-window script (l ∷ lines) live =
    by_wait (step-window script live)
    (then-window live.window (stepped script live) (turn_through lines script) (turn-window script lines)
    (step-window script live)) (is_wait l.call)
  where
    by_wait : InWindow live.window (stepped script live)
        → InWindow live.window (and_then (stepped script live) (turn_through lines script)) → (t : Bool)
        → InWindow live.window
        (cond t (stepped script live) (and_then (stepped script live) (turn_through lines script)))
    by_wait first rest true = first
    by_wait first rest false = rest

act-window : (act : Act) (script : ScriptParts) (live : Live) → InWindow live.window (acted act script live)
act-window Step script live = step-window script live
act-window Turn script live = turn-window script (drop live.steps script.steps) live
act-window Quit script live = refl

-- sums over the holders
module _ (f : Option Window → ℕ) (z : f None ≡ 0) where
  come_sum : (w : Window) (next : Next) → InWindow w next
      → f (left_window (come_by next).left) + f (window_of (come_by next).phase) ≡ f (Some w)
  come_sum w (GoesOn live) is = let same = ap (λ (v : Window). f (Some v)) is in omega (arith, z, same)
  come_sum w (Ends launched left) is = let same = ap (λ (v : Window). f (Some v)) is in omega (arith, z, same)

  act_sum : (act : Act) (script : ScriptParts) (phase : Phase)
      → f (left_window (acted_by act script phase).left) + f (window_of (acted_by act script phase).phase)
      ≡ f (window_of phase)
  act_sum act script (Waiting start) = omega (arith, z)
  act_sum act script (Running live) = come_sum live.window (acted act script live) (act-window act script live)
  act_sum act script (Ended launched) = omega (arith, z)

  acted_sum : (act : Act) (ps : List Place) (i : ℕ)
      → f (left_window (left_by act (slice_get ps i))) + sum f (holders (places_acted act i (slice_get ps i) ps))
      ≡ sum f (holders ps)
  acted_sum act [] i = omega (arith, z)
  acted_sum act (p ∷ ps) zero = let e = act_sum act p.script p.phase in omega (arith, e)
  acted_sum act (p ∷ ps) (suc i) =
      let e = acted_sum act ps i in
      let c = ap (λ (qs : List Place). sum f (holders qs)) (acted-cons act i (slice_get ps i) p ps) in
      omega (arith, e, c)

  waits_sum : (phase : Phase) → waits phase ≡ true → f (window_of phase) ≡ 0
  waits_sum (Waiting start) e = z
  waits_sum (Running live) e = cc
  waits_sum (Ended launched) e = cc

  started_sum : (live : Live) (ps : List Place) (i : ℕ) (p : Place) → slice_get ps i ≡ Some p → waits p.phase ≡ true
      → sum f (holders (slice_set ps i (record p { phase = Running live })))
      ≡ f (Some live.window) + sum f (holders ps)
  started_sum live [] i p here e = absurd (let none : (let n : Option Place = None in n) ≡ Some p = here in cc)
  started_sum live (q ∷ ps) zero p here e =
      let s : q ≡ p = cc in
      let t = waits_sum q.phase (ap (λ (r : Place). waits r.phase) s ∙ e) in omega (arith, t)
  started_sum live (q ∷ ps) (suc i) p here e = let k = started_sum live ps i p here e in omega (arith, k)

some_below : (o : Option Window) → some_of o ≤ 1
some_below None = omega arith
some_below (Some w) = omega arith

all_below : (ps : List Place) → sum some_of (holders ps) ≤ length ps
all_below [] = omega arith
all_below (p ∷ ps) = let e = all_below ps in let o = some_below (window_of p.phase) in omega (arith, e, o)

-- where someone waits not all hold a window
waits_few : (ps : List Place) (i : ℕ) (p : Place) → slice_get ps i ≡ Some p → waits p.phase ≡ true
    → sum some_of (holders ps) < length ps
waits_few [] i p here e = absurd (let none : (let n : Option Place = None in n) ≡ Some p = here in cc)
waits_few (q ∷ ps) zero p here e =
    let s : q ≡ p = cc in
    let t = waits_sum some_of refl q.phase (ap (λ (r : Place). waits r.phase) s ∙ e) in
    let k = all_below ps in omega (arith, k, t)
waits_few (q ∷ ps) (suc i) p here e =
    let k = waits_few ps i p here e in let o = some_below (window_of q.phase) in omega (arith, k, o)

-- windows that come and go
module _ (os qs : List (Option Window)) (ws : List Window) (h : IsHeld os ws) where
  in_for : (w : Window) → ((f : Option Window → ℕ) → f None ≡ 0 → f (Some w) + sum f qs ≡ sum f os) → Contains ws w
  in_for w k =
      contains-counted w ws
      (let e = k (one_of w.at w.len) refl in
      let o = one-itself w in let c = h.counts w.at w.len in omega (arith, e, o, c))

  in_held : (o : Option Window) → ((f : Option Window → ℕ) → f None ≡ 0 → f o + sum f qs ≡ sum f os)
      → IfSome o (λ w. Contains ws w)
  in_held None k = tt
  in_held (Some w) k = in_for w k

  less_held : (o : Option Window) → ((f : Option Window → ℕ) → f None ≡ 0 → f o + sum f qs ≡ sum f os)
      → IsHeld qs (closed o ws)
  less_held None k = record {
    counts = λ at len. (let e = k (one_of at len) refl in let c = h.counts at len in omega (arith, e, c));
    number = (let e = k some_of refl in let c = h.number in omega (arith, e, c));
  }
  less_held (Some w) k =
      let c = in_for w k in
      record {
        counts = λ at len. (
            let e = k (one_of at len) refl in
            let d = h.counts at len in let l = times-taken_out at len w ws c in omega (arith, e, d, l));
        number = (
            let e = k some_of refl in let d = h.number in let l = length-taken_out w ws c in omega (arith, e, d, l));
      }

  more_held : (w : Window) → ((f : Option Window → ℕ) → f None ≡ 0 → sum f qs ≡ f (Some w) + sum f os)
      → IsHeld qs (put_in w ws)
  more_held w k = record {
    counts = λ at len. (
        let e = k (one_of at len) refl in
        let d = h.counts at len in let l = times-put_in at len w ws in omega (arith, e, d, l));
    number = (
        let e = k some_of refl in
        let d = h.number in let l = length-with_window w.at w.len ws in omega (arith, e, d, l));
  }

pub acted_held : (act : Act) (ps : List Place) (i : ℕ) (ws : List Window) → IsHeld (holders ps) ws
    → IsHeld (holders (places_acted act i (slice_get ps i) ps)) (windows_after (left_by act (slice_get ps i)) ws)
acted_held act ps i ws h =
    subst (λ vs. IsHeld (holders (places_acted act i (slice_get ps i) ps)) vs)
    (sym (after-closed (left_by act (slice_get ps i)) ws))
    (less_held (holders ps) (holders (places_acted act i (slice_get ps i) ps)) ws h
    (left_window (left_by act (slice_get ps i))) (λ f z. acted_sum f z act ps i))

-- the window of who ends is out
pub acted_in : (act : Act) (ps : List Place) (i : ℕ) (ws : List Window) (l : Left) → IsHeld (holders ps) ws
    → left_by act (slice_get ps i) ≡ Some l → Contains ws l.window
acted_in act ps i ws l h e =
    subst (λ (o : Option Left). IfSome (left_window o) (λ w. Contains ws w)) e
    (in_held (holders ps) (holders (places_acted act i (slice_get ps i) ps)) ws h
    (left_window (left_by act (slice_get ps i))) (λ f z. acted_sum f z act ps i))

pub started_held : (live : Live) (ps : List Place) (i : ℕ) (p : Place) (ws : List Window)
    → slice_get ps i ≡ Some p → waits p.phase ≡ true → IsHeld (holders ps) ws
    → IsHeld (holders (slice_set ps i (record p { phase = Running live }))) (put_in live.window ws)
started_held live ps i p ws here e h =
    more_held (holders ps) (holders (slice_set ps i (record p { phase = Running live }))) ws h live.window
    (λ f z. started_sum f z live ps i p here e)

-- the first of those who are left
pub first_held : (o : Option Window) (os : List (Option Window)) (ws : List Window) → IsHeld (o ∷ os) ws
    → IsHeld os (closed o ws)
first_held o os ws h = less_held (o ∷ os) os ws h o (λ f z. refl)

pub first_in : (o : Option Window) (os : List (Option Window)) (ws : List Window) → IsHeld (o ∷ os) ws
    → IfSome o (λ w. Contains ws w)
first_in o os ws h = in_held (o ∷ os) os ws h o (λ f z. refl)

pub none_held : (ws : List Window) → IsHeld [] ws → ws ≡ []
none_held ws h = none-counted ws h.counts

none_given : (f : Option Window → ℕ) → f None ≡ 0 → (system : Content) (apps : List App)
    → sum f (holders (map (place_given system) apps)) ≡ 0
none_given f z system [] = refl
none_given f z system (app ∷ apps) = let e = none_given f z system apps in omega (arith, e, z)

pub given_held : (system : Content) (apps : List App) → IsHeld (holders (map (place_given system) apps)) []
given_held system apps = record {
  counts = λ at len. sym (none_given (one_of at len) refl system apps);
  number = sym (none_given some_of refl system apps);
}

-- fewer windows are out than there are applications
pub few_out : (ps : List Place) (i : ℕ) (p : Place) (m : ℕ) (ws : List Window) → IsHeld (holders ps) ws
    → slice_get ps i ≡ Some p → waits p.phase ≡ true → length ps ≡ m → m ≤ 64 → length ws < 64
few_out ps i p m ws h here e len le =
    let f = waits_few ps i p here e in let k = h.number in omega (arith, f, k, len, le)

-- a window that is granted is out
pub contains-put_in : (w : Window) (ws : List Window) → Contains (put_in w ws) w
contains-put_in w ws =
    contains-counted w (put_in w ws)
    (let e = times-put_in w.at w.len w ws in let o = one-itself w in omega (arith, e, o))

pub contains-opened : (o : Option Window) (w : Window) (ws vs : List Window) → o ≡ Some w → vs ≡ opened o ws → Contains vs w
contains-opened o w ws vs e h =
    subst (λ us. Contains us w) (sym (h ∙ ap (λ q. opened q ws) e)) (contains-put_in w ws)

-- a window that is given back at once
pub closed-opened : (o : Option Window) (w : Window) (ws vs us : List Window) → o ≡ Some w → 512 ≤ w.len → vs ≡ opened o ws
    → us ≡ taken_out w vs → us ≡ ws
closed-opened o w ws vs us e large h k =
    k ∙ ap (taken_out w) (h ∙ ap (λ q. opened q ws) e) ∙ given_back w ws (omega (arith, large))

-- what one leaves who ends, as the code has it
module _ {D : Type 0} (v : D → Left) (o : Option D) (d : D) (p : Option Left) (is : o ≡ Some d) (same : option_map v o ≡ p) where
  pub left-ended : p ≡ Some (v d)
  left-ended = sym same ∙ ap (option_map v) is

  pub windows-ended : (ws vs : List Window) → vs ≡ taken_out (v d).window ws → vs ≡ windows_after p ws
  windows-ended ws vs h = h ∙ ap (λ q. windows_after q ws) (sym left-ended)

pub windows-stay : {D : Type 0} (v : D → Left) (o : Option D) (p : Option Left) (ws : List Window) → o ≡ None
    → option_map v o ≡ p → ws ≡ windows_after p ws
windows-stay v o p ws is same = ap (λ q. windows_after q ws) (sym (ap (option_map v) is) ∙ same)

-- what a launch leaves, as the code has it
pub not-opened : {D : Type 0} (v : D → Window) (o : Option D) (ws vs : List Window) → o ≡ None
    → vs ≡ opened (option_map v o) ws → vs ≡ ws
not-opened v o ws vs is h = h ∙ ap (λ q. opened (option_map v q) ws) is

pub is-opened : {D : Type 0} (v : D → Window) (o : Option D) (d : D) (ws vs : List Window) → o ≡ Some d
    → vs ≡ opened (option_map v o) ws → vs ≡ put_in (v d) ws
is-opened v o d ws vs is h = h ∙ ap (λ q. opened (option_map v q) ws) is
