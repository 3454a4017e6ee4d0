use Rattle.applications.proofs.Cited.{◌≡◌, ◌+◌, ◌≤◌, ◌<◌, ◌++◌, ◌||◌, ◌⊎◌, inl, inr, ℕ, Bool, true, false, List, [], ◌∷◌, Some, length}
use Rattle.applications.proofs.Cited.{take, get_or, refl, sym, ap, ◌∙◌, subst, cond, arith, append-nil, append_assoc, slice_get}
use Rattle.applications.proofs.Cited.{if◌then◌else◌, le-ltb, lt-ltb, take_more, take_all, slice_get_within, get_or_from_slice_get}
use Rattle.applications.proofs.Cited.{slice_get_cases, Told, ScriptParts, Line, Resources, Running, Blocks, launched_with, nowhere}
use Rattle.applications.proofs.Cited.{last_code, is_fatal, Event, Shown, LineEnd, Course, AlikeCourses, nothing_yet, joined, step}
use Rattle.applications.proofs.Cited.{unless_over, course_of, Ending, first_steps, ending, ending_of, quits, stops}
use Rattle.std.specs.Prelude.{Option, None}

-- A run counted step by step: what the next line adds to the first steps, and to how the application ended.

-- courses in a row
joined-three : (a b c : Course) → joined a (joined b c) ≡ joined (joined a b) c
joined-three a b c =
    ap (λ (events : List Event). let all : Course = record {
      events = events;
      lines = a.lines ++ (b.lines ++ c.lines);
      line_ends = a.line_ends ++ (b.line_ends ++ c.line_ends);
      told = c.told;
      over = c.over;
      after = c.after;
    } in all) (sym (append_assoc a.events b.events c.events))
    ∙ ap (λ (lines : List Shown). let all : Course = record {
      events = (a.events ++ b.events) ++ c.events;
      lines = lines;
      line_ends = a.line_ends ++ (b.line_ends ++ c.line_ends);
      told = c.told;
      over = c.over;
      after = c.after;
    } in all) (sym (append_assoc a.lines b.lines c.lines))
    ∙ ap (λ (ends : List LineEnd). let all : Course = record {
      events = (a.events ++ b.events) ++ c.events;
      lines = (a.lines ++ b.lines) ++ c.lines;
      line_ends = ends;
      told = c.told;
      over = c.over;
      after = c.after;
    } in all) (sym (append_assoc a.line_ends b.line_ends c.line_ends))

-- what follows a course that is over, and one that isn't
pub over-stays : (c : Course) (next : Running → Course) → c.over ≡ true → unless_over c next ≡ c
over-stays c next is = ap (λ (t : Bool). cond t c (joined c (next c.after))) is

pub over-goes_on : (c : Course) (next : Running → Course) → c.over ≡ false
    → unless_over c next ≡ joined c (next c.after)
over-goes_on c next is = ap (λ (t : Bool). cond t c (joined c (next c.after))) is

-- what follows in two parts follows in a row
over-then : (c : Course) (f g h : Running → Course) → ((r : Running) → h r ≡ unless_over (f r) g)
    → unless_over c h ≡ unless_over (unless_over c f) g
over-then c f g h parts = by_first c.over refl
  where
    d : Course
    d = f c.after

    by_second : (t : Bool) → d.over ≡ t → joined c (unless_over d g) ≡ unless_over (joined c d) g
    by_second true is = ap (joined c) (over-stays d g is) ∙ sym (over-stays (joined c d) g is)
    by_second false is = ap (joined c) (over-goes_on d g is) ∙ joined-three c d (g d.after)
        ∙ sym (over-goes_on (joined c d) g is)

    by_first : (t : Bool) → c.over ≡ t → unless_over c h ≡ unless_over (unless_over c f) g
    by_first true is = over-stays c h is ∙ sym (over-stays c g is)
        ∙ ap (λ (x : Course). unless_over x g) (sym (over-stays c f is))
    by_first false is = over-goes_on c h is ∙ ap (joined c) (parts c.after) ∙ by_second d.over refl
        ∙ ap (λ (x : Course). unless_over x g) (sym (over-goes_on c f is))

-- a run of lines is a run of the first of them, and of those behind unless it is over
pub run-then : (blocks : Blocks) (first later : List Line) (r : Running)
    → course_of blocks (first ++ later) r ≡ unless_over (course_of blocks first r) (course_of blocks later)
run-then blocks [] later r = refl
run-then blocks (l ∷ first) later r =
    over-then (step blocks l r) (course_of blocks first) (course_of blocks later) (course_of blocks (first ++ later))
    (λ q. run-then blocks first later q)

-- one line more
take-next : (lines : List Line) (n : ℕ) (l : Line) → slice_get lines n ≡ Some l
    → take (n + 1) lines ≡ take n lines ++ l ∷ []
take-next lines n l is =
    take_more lines n l (slice_get_within lines n l is)
    ∙ ap (λ (x : Line). take n lines ++ x ∷ []) (get_or_from_slice_get lines n l l is)

pub run-next : (blocks : Blocks) (lines : List Line) (r : Running) (n : ℕ) (l : Line) → slice_get lines n ≡ Some l
    → course_of blocks (take (n + 1) lines) r ≡ unless_over (course_of blocks (take n lines) r)
    (course_of blocks (l ∷ []))
run-next blocks lines r n l is =
    ap (λ (ys : List Line). course_of blocks ys r) (take-next lines n l is) ∙ run-then blocks (take n lines) (l ∷ []) r

alike-same : (c : Course) → AlikeCourses c c
alike-same c =
    record { events = refl; lines = refl; line_ends = refl; over = refl; told = λ over. refl; after = refl }

alike-joined : (a c d : Course) → AlikeCourses c d → AlikeCourses (joined a c) (joined a d)
alike-joined a c d like = record {
  events = ap (λ (x : List Event). a.events ++ x) like.events;
  lines = ap (λ (x : List Shown). a.lines ++ x) like.lines;
  line_ends = ap (λ (x : List LineEnd). a.line_ends ++ x) like.line_ends;
  over = like.over;
  told = like.told;
  after = like.after;
}

alike-over : (a : Course) (f g : Running → Course) → ((r : Running) → AlikeCourses (f r) (g r))
    → AlikeCourses (unless_over a f) (unless_over a g)
alike-over a f g like = by_over a.over
  where
    by_over : (t : Bool) → AlikeCourses (cond t a (joined a (f a.after))) (cond t a (joined a (g a.after)))
    by_over true = alike-same a
    by_over false = alike-joined a (f a.after) (g a.after) (like a.after)

-- a run of one line is its step
pub one-line : (blocks : Blocks) (l : Line) (r : Running) → AlikeCourses (course_of blocks (l ∷ []) r) (step blocks l r)
one-line blocks l r = by_over s.over refl
  where
    s : Course
    s = step blocks l r

    behind : Course
    behind = joined s (nothing_yet s.after)

    by_over : (t : Bool) → s.over ≡ t → AlikeCourses (cond s.over s behind) s
    by_over true is = subst (λ (t : Bool). AlikeCourses (cond t s behind) s) (sym is) (alike-same s)
    by_over false is = subst (λ (t : Bool). AlikeCourses (cond t s behind) s) (sym is) (record {
      events = append-nil s.events;
      lines = append-nil s.lines;
      line_ends = append-nil s.line_ends;
      over = sym is;
      told = λ over. let no : true ≡ false = sym over ∙ is in cc;
      after = refl;
    })

-- one step more than the first n of a script: the next line's step, unless the application ended before it
pub steps-next : (resources : Resources) (size : ℕ) (script : ScriptParts) (n : ℕ) (l : Line)
    → slice_get script.steps n ≡ Some l
    → AlikeCourses (first_steps resources size script (n + 1))
    (unless_over (first_steps resources size script n) (step script.blocks l))
steps-next resources size script n l is =
    let begun : Running = launched_with resources size nowhere in
    let c : Course = first_steps resources size script n in
    subst (λ (x : Course). AlikeCourses x (unless_over c (step script.blocks l)))
    (sym (run-next script.blocks script.steps begun n l is))
    (alike-over c (course_of script.blocks (l ∷ [])) (step script.blocks l) (one-line script.blocks l))

-- where there is no next line there is no step more
pub steps-past : (resources : Resources) (size : ℕ) (script : ScriptParts) (n : ℕ) → length script.steps ≤ n
    → first_steps resources size script (n + 1) ≡ first_steps resources size script n
steps-past resources size script n past =
    ap (λ (ys : List Line). course_of script.blocks ys (launched_with resources size nowhere))
    (take_all (n + 1) script.steps (omega arith) ∙ sym (take_all n script.steps past))

-- nor is there behind the end of the application
pub steps-over : (resources : Resources) (size : ℕ) (script : ScriptParts) (n : ℕ)
    → (first_steps resources size script n).over ≡ true
    → first_steps resources size script (n + 1) ≡ first_steps resources size script n
steps-over resources size script n over = by_line (slice_get_cases script.steps n).1
  where
    begun : Running
    begun = launched_with resources size nowhere

    by_line : ((l : Line) × (n < length script.steps) × (slice_get script.steps n ≡ Some l)
        × (get_or script.steps n l ≡ l)) ⊎ ((length script.steps ≤ n) × (slice_get script.steps n ≡ None))
        → first_steps resources size script (n + 1) ≡ first_steps resources size script n
    by_line (inl next) = run-next script.blocks script.steps begun n next.0 next.2
        ∙ over-stays (first_steps resources size script n) (course_of script.blocks (next.0 ∷ [])) over
    by_line (inr past) = steps-past resources size script n past.0

-- alike courses end alike
pub ending-alike : (asked : Bool) (c d : Course) → AlikeCourses c d → ending_of asked c ≡ ending_of asked d
ending-alike asked c d like =
    ap (λ (t : Bool). ends t c.told c.after) like.over ∙ ap (ends d.over c.told) like.after ∙ by_over d.over like.told
  where
    ends : Bool → Option Told → Running → Option Ending
    ends over told after = if over then Some (if is_fatal (last_code told) then stops after else quits after)
        else if asked then Some (quits after) else None

    by_over : (t : Bool) → (t ≡ true → c.told ≡ d.told) → ends t c.told d.after ≡ ends t d.told d.after
    by_over true same = ap (λ (told : Option Told). ends true told d.after) (same refl)
    by_over false same = refl

-- how an application ended after one step more
pub ending-next : (resources : Resources) (size : ℕ) (script : ScriptParts) (n : ℕ) (quit : Bool) (l : Line)
    → slice_get script.steps n ≡ Some l
    → ending resources size script (n + 1) quit
    ≡ ending_of quit (unless_over (first_steps resources size script n) (step script.blocks l))
ending-next resources size script n quit l is =
    let within = slice_get_within script.steps n l is in
    let more : n + 1 ≤ length script.steps = omega arith in
    ap (λ (t : Bool). ending_of (t || quit) (first_steps resources size script (n + 1)))
    (le-ltb (length script.steps) (n + 1) more)
    ∙ ending-alike quit (first_steps resources size script (n + 1))
    (unless_over (first_steps resources size script n) (step script.blocks l))
    (steps-next resources size script n l is)

-- and behind the last line: it quits, unless it ended before
pub ending-past : (resources : Resources) (size : ℕ) (script : ScriptParts) (n : ℕ) (quit : Bool)
    → length script.steps ≤ n
    → ending resources size script (n + 1) quit ≡ ending_of true (first_steps resources size script n)
ending-past resources size script n quit past =
    ap (λ (t : Bool). ending_of (t || quit) (first_steps resources size script (n + 1)))
    (lt-ltb (length script.steps) (n + 1) (omega arith))
    ∙ ap (ending_of true) (steps-past resources size script n past)
