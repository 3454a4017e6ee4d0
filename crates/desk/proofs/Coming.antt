use Rattle.desk.proofs.Cited.{◌≡◌, ◌∙◌, ◌≤◌, ◌+◌, ◌++◌, arith, ℕ, Bool, true, false, refl, sym, ap, cond, List, Option, Some, None, Window}
use Rattle.desk.proofs.Cited.{OsErr, Block, sizes, fresh, Site, Line, launch_line, end_line, Resources, Blocks, launched_with, nowhere}
use Rattle.desk.proofs.Cited.{last_code, is_fatal, Course, step, lines_told, Ending, ended_by, ending_of, stops, quits, moved}
use Rattle.desk.proofs.Cited.{course_elsewhere, Came, exit_as, exit_of, end_by, end_if, has_ended, Exit, Quits, Stops, step-elsewhere}
use Rattle.desk.proofs.Cited.{launched-elsewhere, sizes-fresh, end-elsewhere, ending-told, Live, GoesOn, Ends, begun, leaves, ends, called}
use Rattle.desk.proofs.Cited.{after_course}
use Rattle.applications.specs.Trying as application

-- What the code's application comes to, which lies in its partition, by the one of the definitions, which lies nowhere.

-- a launched application
pub launched_there : (resources : Resources) (w : Window) (zone : List Block) (site : Site) (text : List ℕ)
    (r : application.Running) → r ≡ launched_with resources (sizes zone) site → zone ≡ fresh w.len → 512 ≤ w.len
    → text ≡ launch_line w.len
    → (let live : Live = record { window = w; steps = 0; transcript = text; state = moved nowhere r } in live) ≡ begun resources w
launched_there resources w zone site text r is whole large first =
    let same : moved nowhere r ≡ launched_with resources w.len nowhere =
    ap (moved nowhere) (is
    ∙ ap (λ (z : List Block). launched_with resources (sizes z) site) whole
    ∙ ap (λ (k : ℕ). launched_with resources k site) (sizes-fresh w.len (omega (arith, large)))
    ∙ launched-elsewhere resources w.len site)
    ∙ sym (launched-elsewhere resources w.len nowhere) in
    λ i. record { window = w; steps = 0; transcript = first i; state = same i }

-- lies where its store lay
pub lies_there : (resources : Resources) (zone : List Block) (site : Site) (r : application.Running)
    → r ≡ launched_with resources (sizes zone) site → r.memory.window ≡ site
lies_there resources zone site r is =
    ap (λ (x : application.Running). x.memory.window) (is ∙ launched-elsewhere resources (sizes zone) site)

-- the files that an end leaves are those of the application after it
files-after : (exit : Option Exit) (r : application.Running) → (has_ended exit r).resources.files ≡ (end_by exit r).files
files-after None r = refl
files-after (Some Quits) r = refl
files-after (Some Stops) r = refl

-- an end
pub has_ended_so : (w : Window) (n : ℕ) (text new : List ℕ) (r after : application.Running) (exit : Option Exit)
    (asked : Bool) (code : OsErr) → code ≡ (end_by exit r).code → new ≡ text ++ end_line code.0
    → after ≡ has_ended exit r
    → ends asked (end_by exit (moved nowhere r))
    (record { window = w; steps = n; transcript = text; state = moved nowhere r })
    ≡ Ends (leaves asked (record { window = w; steps = n; transcript = new; state = moved nowhere after }))
    (record { window = w; code = code })
has_ended_so w n text new r after exit asked code is said left =
    let live : Live = record { window = w; steps = n; transcript = text; state = moved nowhere r } in
    let end : Ending = end_by exit r in
    let text_left : text ++ end_line end.code.0 ≡ new = sym (said ∙ ap (λ (k : OsErr). text ++ end_line k.0) is) in
    let files_left : end.files ≡ after.resources.files =
    sym (ap (λ (x : application.Running). x.resources.files) left ∙ files-after exit r) in
    let code_left : end.code ≡ code = sym is in
    ap (λ (e : Ending). ends asked e live) (end-elsewhere nowhere exit r)
    ∙ (λ i. Ends
    (record { size = w.len; steps = n; asked = asked; transcript = text_left i; files = files_left i })
    (record { window = w; code = code_left i }))

-- a course that tells no end isn't over, and one that tells an end is
no-end : (c : Course) → exit_of c ≡ None → c.over ≡ false
no-end c none = by_over c.over refl
  where
    by_over : (t : Bool) → c.over ≡ t → c.over ≡ false
    by_over false is = is
    by_over true is =
        let some = sym (ap (λ (t : Bool). exit_as t (last_code c.told)) is) ∙ none in cc

an-end : (c : Course) (e : Exit) → exit_of c ≡ Some e → c.over ≡ true
an-end c e some = by_over c.over refl
  where
    by_over : (t : Bool) → c.over ≡ t → c.over ≡ true
    by_over true is = is
    by_over false is =
        let none = sym (ap (λ (t : Bool). exit_as t (last_code c.told)) is) ∙ some in cc

ended-by : (c : Course) (e : Exit) → exit_of c ≡ Some e → end_by (Some e) c.after ≡ ended_by c
ended-by c e some =
    let one : Some (end_by (Some e) c.after) ≡ ending_of false c =
    sym (ap (λ (x : Option Exit). end_if x false c.after) some) ∙ ending-told false c in
    let other : ending_of false c ≡ Some (ended_by c) =
    ap (λ (t : Bool). cond t (Some (ended_by c)) None) (an-end c e some) in
    cc

-- a course ends alike wherever it was
ended-moved : (site : Site) (c : Course) → ended_by (course_elsewhere site c) ≡ ended_by c
ended-moved site c = by_fatal (is_fatal (last_code c.told))
  where
    by_fatal : (t : Bool) → cond t (stops (moved site c.after)) (quits (moved site c.after))
        ≡ cond t (stops c.after) (quits c.after)
    by_fatal true = refl
    by_fatal false = end-elsewhere site None c.after

abbrev live_there : Window → ℕ → List ℕ → application.Running → Live
live_there w n text r = record { window = w; steps = n; transcript = text; state = moved nowhere r }

-- a call, after which the application goes on or ends
module _ (w : Window) (n : ℕ) (text new : List ℕ) (r after : application.Running) (s : Course) (exit : Option Exit)
    (told : exit ≡ exit_of s) (came : Came s text new after) where
  comes : (over : Bool) → s.over ≡ over
      → called (course_elsewhere nowhere s) (live_there w n text r)
      ≡ cond over (ends false (ended_by s) (live_there w (n + 1) new after)) (GoesOn (live_there w (n + 1) new after))
  comes over is =
      let told : text ++ lines_told s.lines ≡ new = sym came.0 in
      let left : s.after ≡ after = sym came.1 in
      ap (λ (e : Ending). cond s.over (ends false e (after_course (course_elsewhere nowhere s) (live_there w n text r)))
      (GoesOn (after_course (course_elsewhere nowhere s) (live_there w n text r)))) (ended-moved nowhere s)
      ∙ (λ i. cond (is i) (ends false (ended_by s) (live_there w (n + 1) (told i) (left i)))
      (GoesOn (live_there w (n + 1) (told i) (left i))))

  goes-on : exit ≡ None → called (course_elsewhere nowhere s) (live_there w n text r) ≡ GoesOn (live_there w (n + 1) new after)
  goes-on none = comes false (no-end s (sym told ∙ none))

  ends-so : (e : Exit) → exit ≡ Some e
      → called (course_elsewhere nowhere s) (live_there w n text r)
      ≡ ends false (end_by (Some e) (moved nowhere after)) (live_there w (n + 1) new after)
  ends-so e some =
      let is : exit_of s ≡ Some e = sym told ∙ some in
      comes true (an-end s e is)
      ∙ ap (λ (x : Ending). ends false x (live_there w (n + 1) new after))
      (sym (ended-by s e is)
      ∙ ap (λ (x : application.Running). end_by (Some e) x) (sym came.1)
      ∙ sym (end-elsewhere nowhere (Some e) after))

module _ (w : Window) (n : ℕ) (text new : List ℕ) (r after : application.Running) (blocks : Blocks) (l : Line)
    (exit : Option Exit) (told : exit ≡ exit_of (step blocks l r)) (came : Came (step blocks l r) text new after) where
  pub call_goes_on : exit ≡ None
      → called (step blocks l (moved nowhere r))
      (record { window = w; steps = n; transcript = text; state = moved nowhere r })
      ≡ GoesOn (record { window = w; steps = n + 1; transcript = new; state = moved nowhere after })
  call_goes_on none =
      ap (λ (c : Course). called c (live_there w n text r)) (step-elsewhere nowhere blocks l r)
      ∙ goes-on w n text new r after (step blocks l r) exit told came none

  pub call_ends : (e : Exit) → exit ≡ Some e
      → called (step blocks l (moved nowhere r))
      (record { window = w; steps = n; transcript = text; state = moved nowhere r })
      ≡ ends false (end_by (Some e) (moved nowhere after))
      (record { window = w; steps = n + 1; transcript = new; state = moved nowhere after })
  call_ends e some =
      ap (λ (c : Course). called c (live_there w n text r)) (step-elsewhere nowhere blocks l r)
      ∙ ends-so w n text new r after (step blocks l r) exit told came e some
