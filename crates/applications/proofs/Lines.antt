use Rattle.applications.proofs.Cited.{◌≡◌, ℕ, Bool, true, false, zero, suc, Option, Some, None, List, [], ◌∷◌, ◌++◌, refl, sym, ◌∙◌, ap}
use Rattle.applications.proofs.Cited.{subst, cond, same_Some, none-some, Call, OsErr, Told, Refused, Block, State, Line, served-wants}
use Rattle.applications.proofs.Cited.{Running, Blocks, Tried, once, program_of, code_told, Event, Shown, LineEnd, Course, joined, event_of}
use Rattle.applications.proofs.Cited.{marked_for, grown, grown_for, asked_for, ended, stands, Round, Ends, Again, made_room, after_asking}
use Rattle.applications.proofs.Cited.{round, continued, step_in, step, most_rounds, course_of, put_event, put_events, is_answered, StayPut}
use Rattle.applications.proofs.Cited.{taken_in, LinesStayPut}
use Rattle.mac_words.specs.declared.call.Call.TheVariants as call
use Rattle.mac_words.specs.declared.call.ControlCall.TheVariants as control
use Rattle.applications.proofs.TryLaws.{Sound, once-sound}
use Rattle.applications.proofs.Carrying.{marked_for-heap, marked_for-sound, kept-heap, asked-goes, step-goes}
use Rattle.applications.proofs.Ending.{full-refused, Any, any}

-- What stays put from one line of a transcript to the next.

-- a try that wants room is refused
refused-told : (told : Told) → ((code : OsErr) × (told ≡ Refused code)) → is_answered told ≡ false
refused-told told refusal = ap is_answered refusal.1

pub wants-refused : (blocks : Blocks) (c : Call) (r : Running) → (once blocks c r).wants ≡ true
    → is_answered (once blocks c r).told ≡ false
wants-refused blocks (call.Heap c) r wants =
    refused-told (once blocks (call.Heap c) r).told (full-refused (once blocks (call.Heap c) r).told wants)
wants-refused blocks (call.Resource c) r wants =
    refused-told (once blocks (call.Resource c) r).told (full-refused (once blocks (call.Resource c) r).told wants)
wants-refused blocks (call.Segment c) r wants =
    refused-told (once blocks (call.Segment c) r).told (served-wants c (program_of r) wants)
wants-refused blocks (call.Control (control.SetGrowZone name)) r wants = cc
wants-refused blocks (call.Control control.WaitNextEvent) r wants = cc
wants-refused blocks (call.Control control.ExitToShell) r wants = cc

-- nothing was taken away
abbrev none_taken : ℕ → Bool
none_taken n = false

-- the heap after the last of some lines
abbrev last_heap : State → List LineEnd → State
last_heap s [] = s
last_heap s (e ∷ ends) = last_heap e.heap ends

last-append : (s : State) (es fs : List LineEnd) → last_heap s (es ++ fs) ≡ last_heap (last_heap s es) fs
last-append s [] fs = refl
last-append s (e ∷ es) fs = last-append e.heap es fs

module _ (place_of : ℕ → List Block → Option ℕ) (taken : ℕ → Event → Bool)
    (keeps : (blocks : Blocks) (l : Line) (r : Running) (bytes : ℕ → List ℕ) → Sound r.memory bytes
    → StayPut place_of (λ n. taken n (event_of l r (once blocks l.call r))) r.memory.heap
    (once blocks l.call r).after.memory.heap)
    (answered : (n : ℕ) (e : Event) → is_answered e.told ≡ false → taken n e ≡ false)
  where
    -- what a heap leaves of itself, and what two changes after one another leave
    same-put : (by : ℕ → Bool) (s : State) → StayPut place_of by s s
    same-put by s = record {
      stays = λ n here there was is. same_Some there here (sym is ∙ was);
      goes = λ n here was is. absurd (none-some here (sym is ∙ was));
    }

    then-put : (by : ℕ → Bool) (a b c : State) → StayPut place_of none_taken a b → StayPut place_of by b c
        → StayPut place_of by a c
    then-put by a b c first second = record { stays = stays; goes = goes }
      where
        stays : (n here there : ℕ) → place_of n a.zone ≡ Some here → place_of n c.zone ≡ Some there → there ≡ here
        stays n here there was is = by_place (place_of n b.zone) refl
          where
            by_place : (o : Option ℕ) → place_of n b.zone ≡ o → there ≡ here
            by_place None e = let f : false ≡ true = first.goes n here was e in cc
            by_place (Some mid) e = second.stays n mid there e is ∙ first.stays n here mid was e

        goes : (n here : ℕ) → place_of n a.zone ≡ Some here → place_of n c.zone ≡ None → by n ≡ true
        goes n here was is = by_place (place_of n b.zone) refl
          where
            by_place : (o : Option ℕ) → place_of n b.zone ≡ o → by n ≡ true
            by_place None e = let f : false ≡ true = first.goes n here was e in cc
            by_place (Some mid) e = second.goes n mid e is

    -- the lines of a course, from the heap before it to the heap after it
    record Lasts (s : State) (lines : List Shown) (ends : List LineEnd) (t : State) : Type 0 where
      each : LinesStayPut place_of taken s lines ends
      rest : StayPut place_of none_taken (last_heap s ends) t

    abbrev CourseLasts : State → Course → Type 0
    CourseLasts s c = Lasts s c.lines c.line_ends c.after.memory.heap

    no-lines : (s t : State) → StayPut place_of none_taken s t → Lasts s [] [] t
    no-lines s t put = record { each = tt; rest = put }

    -- lines that begin at a later heap
    from-before : (a b : State) (lines : List Shown) (ends : List LineEnd) (t : State)
        → StayPut place_of none_taken a b → Lasts b lines ends t → Lasts a lines ends t
    from-before a b [] [] t put lasts = no-lines a t (then-put none_taken a b t put lasts.rest)
    from-before a b (x ∷ lines) (e ∷ ends) t put lasts = record {
      each = (lasts.each.0, then-put (taken_in taken e.try) a b e.heap put lasts.each.1, lasts.each.2);
      rest = lasts.rest;
    }
    from-before a b [] (e ∷ ends) t put lasts = absurd lasts.each
    from-before a b (x ∷ lines) [] t put lasts = absurd lasts.each

    -- lines in a row
    lines-append : (s : State) (xs ys : List Shown) (es fs : List LineEnd) → LinesStayPut place_of taken s xs es
        → LinesStayPut place_of taken (last_heap s es) ys fs
        → LinesStayPut place_of taken s (xs ++ ys) (es ++ fs)
    lines-append s [] ys [] fs first later = later
    lines-append s (x ∷ xs) ys (e ∷ es) fs first later =
        (first.0, first.1, lines-append e.heap xs ys es fs first.2 later)
    lines-append s [] ys (e ∷ es) fs first later = absurd first
    lines-append s (x ∷ xs) ys [] fs first later = absurd first

    joined-lasts : (s t u : State) (xs ys : List Shown) (es fs : List LineEnd) → Lasts s xs es t → Lasts t ys fs u
        → Lasts s (xs ++ ys) (es ++ fs) u
    joined-lasts s t u xs ys es fs first later =
        let from = from-before (last_heap s es) t ys fs u first.rest later in record {
          each = lines-append s xs ys es fs first.each from.each;
          rest = subst (λ (v : State). StayPut place_of none_taken v u) (sym (last-append s es fs)) from.rest;
        }

    -- a try with its line
    line-lasts : (grown : Bool) (blocks : Blocks) (l : Line) (r : Running) (bytes : ℕ → List ℕ) → Sound r.memory bytes
        → Lasts r.memory.heap (record { grown = grown; line = l; told = (once blocks l.call r).told } ∷ [])
        (record {
          try = Some (event_of l r (once blocks l.call r));
          heap = (once blocks l.call r).after.memory.heap;
        } ∷ []) (once blocks l.call r).after.memory.heap
    line-lasts grown blocks l r bytes sound = record {
      each = ((refl, refl), keeps blocks l r bytes sound, tt);
      rest = same-put none_taken (once blocks l.call r).after.memory.heap;
    }

    -- a try that was refused takes nothing away
    refused-put : (blocks : Blocks) (l : Line) (r : Running) (bytes : ℕ → List ℕ) → Sound r.memory bytes
        → is_answered (once blocks l.call r).told ≡ false
        → StayPut place_of none_taken r.memory.heap (once blocks l.call r).after.memory.heap
    refused-put blocks l r bytes sound refused =
        let put = keeps blocks l r bytes sound in record {
          stays = put.stays;
          goes = λ n here was is. sym (answered n (event_of l r (once blocks l.call r)) refused) ∙ put.goes n here was is;
        }

    -- the lines of a grow-zone script
    grown-lasts : (blocks : Blocks) (script : List Line) (r : Running) (bytes : ℕ → List ℕ) → Sound r.memory bytes
        → CourseLasts r.memory.heap (grown blocks script r)
    grown-lasts blocks [] r bytes sound = no-lines r.memory.heap r.memory.heap (same-put none_taken r.memory.heap)
    grown-lasts blocks (l ∷ script) r bytes sound =
        let t : Tried = once blocks l.call r in
        let later : Course = grown blocks script t.after in
        joined-lasts r.memory.heap t.after.memory.heap later.after.memory.heap _ later.lines _ later.line_ends
        (line-lasts true blocks l r bytes sound)
        (grown-lasts blocks script t.after (put_event (event_of l r t) bytes)
        (once-sound blocks l.call r bytes sound))

    for-lasts : (blocks : Blocks) (l : Line) (reading : Option ℕ) (r : Running) (bytes : ℕ → List ℕ)
        → Sound r.memory bytes → CourseLasts r.memory.heap (grown_for blocks l reading r)
    for-lasts blocks l reading r bytes sound =
        subst (λ (t : State). Lasts r.memory.heap came.lines came.line_ends t)
        (sym (marked_for-heap false l.call reading came.after))
        (subst (λ (s : State). Lasts s came.lines came.line_ends came.after.memory.heap)
        (marked_for-heap true l.call reading r)
        (grown-lasts blocks r.grow busy bytes (marked_for-sound true l.call reading r bytes sound)))
      where
        busy : Running
        busy = marked_for true l.call reading r

        came : Course
        came = grown blocks r.grow busy

    -- a try that found no room, and the script that is run for it
    asked-lasts : (blocks : Blocks) (l : Line) (r : Running) (bytes : ℕ → List ℕ) → Sound r.memory bytes
        → is_answered (once blocks l.call r).told ≡ false
        → CourseLasts r.memory.heap (asked_for blocks l r (once blocks l.call r))
    asked-lasts blocks l r bytes sound refused =
        let t : Tried = once blocks l.call r in
        let came : Course = grown_for blocks l t.reading t.after in
        from-before r.memory.heap t.after.memory.heap came.lines came.line_ends came.after.memory.heap
        (refused-put blocks l r bytes sound refused)
        (for-lasts blocks l t.reading t.after (put_event (event_of l r t) bytes)
        (once-sound blocks l.call r bytes sound))

    -- a call whose answer stands
    stands-lasts : (l : Line) (t : Tried) (r : Running) → is_answered t.told ≡ false
        → CourseLasts r.memory.heap (stands l t r)
    stands-lasts l t r refused = record {
      each = (refused, same-put none_taken r.memory.heap, tt);
      rest = subst (λ (s : State). StayPut place_of none_taken r.memory.heap s)
          (sym (kept-heap l.call (code_told t.told) r)) (same-put none_taken r.memory.heap);
    }

    -- a round, a step and a run
    abbrev RoundLasts : State → Round → Type 0
    RoundLasts s (Ends c) = CourseLasts s c
    RoundLasts s (Again c) = CourseLasts s c

    round-lasts : (blocks : Blocks) (l : Line) (r : Running) (bytes : ℕ → List ℕ) → Sound r.memory bytes
        → RoundLasts r.memory.heap (round blocks l r)
    round-lasts blocks l r bytes sound = by_want t.wants refl
      where
        t : Tried
        t = once blocks l.call r

        came : Course
        came = asked_for blocks l r t

        by_room : is_answered t.told ≡ false → (rose : Bool)
            → RoundLasts r.memory.heap (cond rose (Again came) (Ends (joined came (stands l t came.after))))
        by_room refused true = asked-lasts blocks l r bytes sound refused
        by_room refused false =
            let last : Course = stands l t came.after in
            joined-lasts r.memory.heap came.after.memory.heap last.after.memory.heap came.lines last.lines
            came.line_ends last.line_ends (asked-lasts blocks l r bytes sound refused)
            (stands-lasts l t came.after refused)

        by_want : (wants : Bool) → t.wants ≡ wants
            → RoundLasts r.memory.heap (cond wants (after_asking l t came) (Ends (ended l r t)))
        by_want true wants = by_room (wants-refused blocks l.call r wants) (made_room t came)
        by_want false wants = line-lasts false blocks l r bytes sound

    continued-lasts : (s : State) (x : Round) (next : Running → Course) → RoundLasts s x
        → ((c : Course) → x ≡ Again c → CourseLasts c.after.memory.heap (next c.after))
        → CourseLasts s (continued x next)
    continued-lasts s (Ends c) next lasts more = lasts
    continued-lasts s (Again c) next lasts more =
        let later : Course = next c.after in
        joined-lasts s c.after.memory.heap later.after.memory.heap c.lines later.lines c.line_ends later.line_ends
        lasts (more c refl)

    again-sound : (blocks : Blocks) (l : Line) (r : Running) (bytes : ℕ → List ℕ) → Sound r.memory bytes
        → (c : Course) → round blocks l r ≡ Again c → Sound c.after.memory (put_events c.events bytes)
    again-sound blocks l r bytes sound c is =
        subst (λ (x : Course). Sound x.after.memory (put_events x.events bytes)) (same (once blocks l.call r).wants is)
        (asked-goes Any any blocks l r bytes sound).sound
      where
        t : Tried
        t = once blocks l.call r

        came : Course
        came = asked_for blocks l r t

        by_room : (rose : Bool) → cond rose (Again came) (Ends (joined came (stands l t came.after))) ≡ Again c
            → came ≡ c
        by_room true e = let f : Again came ≡ Again c = e in cc
        by_room false e = cc

        same : (wants : Bool) → cond wants (after_asking l t came) (Ends (ended l r t)) ≡ Again c → came ≡ c
        same true e = by_room (made_room t came) e
        same false e = cc

    step_in-lasts : (most : ℕ) (blocks : Blocks) (l : Line) (r : Running) (bytes : ℕ → List ℕ) → Sound r.memory bytes
        → CourseLasts r.memory.heap (step_in most blocks l r)
    step_in-lasts zero blocks l r bytes sound =
        no-lines r.memory.heap r.memory.heap (same-put none_taken r.memory.heap)
    step_in-lasts (suc more) blocks l r bytes sound =
        continued-lasts r.memory.heap (round blocks l r) (step_in more blocks l) (round-lasts blocks l r bytes sound)
        (λ c is. step_in-lasts more blocks l c.after (put_events c.events bytes)
        (again-sound blocks l r bytes sound c is))

    run-lasts : (blocks : Blocks) (lines : List Line) (r : Running) (bytes : ℕ → List ℕ) → Sound r.memory bytes
        → CourseLasts r.memory.heap (course_of blocks lines r)
    run-lasts blocks [] r bytes sound =
        no-lines r.memory.heap r.memory.heap (same-put none_taken r.memory.heap)
    run-lasts blocks (l ∷ lines) r bytes sound =
        by_over c.over (run-lasts blocks lines c.after (put_events c.events bytes)
        (step-goes Any any blocks l r bytes sound).sound)
      where
        c : Course
        c = step blocks l r

        by_over : (over : Bool) → CourseLasts c.after.memory.heap (course_of blocks lines c.after)
            → CourseLasts r.memory.heap (cond over c (joined c (course_of blocks lines c.after)))
        by_over true later = step_in-lasts (most_rounds r) blocks l r bytes sound
        by_over false later =
            let rest : Course = course_of blocks lines c.after in
            joined-lasts r.memory.heap c.after.memory.heap rest.after.memory.heap c.lines rest.lines c.line_ends
            rest.line_ends (step_in-lasts (most_rounds r) blocks l r bytes sound) later

    pub run-lines : (blocks : Blocks) (lines : List Line) (r : Running) (bytes : ℕ → List ℕ) → Sound r.memory bytes
        → LinesStayPut place_of taken r.memory.heap (course_of blocks lines r).lines
        (course_of blocks lines r).line_ends
    run-lines blocks lines r bytes sound = (run-lasts blocks lines r bytes sound).each
