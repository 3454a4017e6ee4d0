use Rattle.applications.proofs.Cited.{◌≡◌, ℕ, Bool, true, false, zero, suc, List, [], ◌∷◌, ◌++◌, refl, sym, ap, ◌∙◌, subst, cond, Option}
use Rattle.applications.proofs.Cited.{Some, None, OsErr, Call, State, Memory, first_named, second_named, Line, named, Running, Blocks}
use Rattle.applications.proofs.Cited.{Tried, once, asked, resource_asked, code_told, Event, Course, nothing_yet, joined, event_of, marked}
use Rattle.applications.proofs.Cited.{marked_for, grown_line, grown, grown_for, asked_for, kept_anew, ended, stands, Round, Ends, Again}
use Rattle.applications.proofs.Cited.{made_room, after_asking, round, continued, step_in, step, most_rounds, course_of, put_event}
use Rattle.applications.proofs.Cited.{put_events, EachTry, Linked}
use Rattle.mac_words.specs.declared.call.Call.TheVariants as call
use Rattle.applications.proofs.TryLaws.{Sound, once-sound}

-- What holds of one try holds of each try of a run.

-- the heap after some tries
abbrev pub heap_after : State → List Event → State
heap_after s [] = s
heap_after s (e ∷ events) = heap_after e.after.memory.heap events

heap_after-append : (s : State) (es fs : List Event) → heap_after s (es ++ fs) ≡ heap_after (heap_after s es) fs
heap_after-append s [] fs = refl
heap_after-append s (e ∷ es) fs = heap_after-append e.after.memory.heap es fs

linked-append : (s : State) (es fs : List Event) → Linked s es → Linked (heap_after s es) fs → Linked s (es ++ fs)
linked-append s [] fs first rest = rest
linked-append s (e ∷ es) fs first rest = (first.0, linked-append e.after.memory.heap es fs first.1 rest)

put_events-append : (es fs : List Event) (bytes : ℕ → List ℕ)
    → put_events (es ++ fs) bytes ≡ put_events fs (put_events es bytes)
put_events-append [] fs bytes = refl
put_events-append (e ∷ es) fs bytes = put_events-append es fs (put_event e bytes)

-- which numbers are busy is no matter of the heap
pub marked-heap : (busy : Bool) (n : Option ℕ) (m : Memory) → (marked busy n m).heap ≡ m.heap
marked-heap busy None m = refl
marked-heap true (Some n) m = refl
marked-heap false (Some n) m = refl

pub marked_for-heap : (busy : Bool) (c : Call) (reading : Option ℕ) (r : Running)
    → (marked_for busy c reading r).memory.heap ≡ r.memory.heap
marked_for-heap busy (call.Control c) reading r = refl
marked_for-heap busy (call.Segment c) reading r = marked-heap busy reading r.memory
marked_for-heap busy (call.Resource c) reading r =
    let first : Memory = marked busy (named (resource_asked c r.names)) r.memory in
    marked-heap busy reading first ∙ marked-heap busy (named (resource_asked c r.names)) r.memory
marked_for-heap busy (call.Heap c) reading r =
    let first : Memory = marked busy (first_named (asked c r.names)) r.memory in
    let second : Memory = marked busy (second_named (asked c r.names)) first in
    marked-heap busy reading second ∙ marked-heap busy (second_named (asked c r.names)) first
    ∙ marked-heap busy (first_named (asked c r.names)) r.memory

marked-sound : (busy : Bool) (n : Option ℕ) (m : Memory) (bytes : ℕ → List ℕ) → Sound m bytes
    → Sound (marked busy n m) bytes
marked-sound busy None m bytes sound = sound
marked-sound true (Some n) m bytes sound =
    record { known = sound.known; masters = sound.masters; fits = sound.fits }
marked-sound false (Some n) m bytes sound =
    record { known = sound.known; masters = sound.masters; fits = sound.fits }

pub marked_for-sound : (busy : Bool) (c : Call) (reading : Option ℕ) (r : Running) (bytes : ℕ → List ℕ)
    → Sound r.memory bytes → Sound (marked_for busy c reading r).memory bytes
marked_for-sound busy (call.Control c) reading r bytes sound = sound
marked_for-sound busy (call.Segment c) reading r bytes sound = marked-sound busy reading r.memory bytes sound
marked_for-sound busy (call.Resource c) reading r bytes sound =
    let first : Memory = marked busy (named (resource_asked c r.names)) r.memory in
    marked-sound busy reading first bytes
    (marked-sound busy (named (resource_asked c r.names)) r.memory bytes sound)
marked_for-sound busy (call.Heap c) reading r bytes sound =
    let first : Memory = marked busy (first_named (asked c r.names)) r.memory in
    let second : Memory = marked busy (second_named (asked c r.names)) first in
    marked-sound busy reading second bytes
    (marked-sound busy (second_named (asked c r.names)) first bytes
    (marked-sound busy (first_named (asked c r.names)) r.memory bytes sound))

-- nor is a code that is kept anew
pub kept-heap : (c : Call) (code : OsErr) (r : Running) → (kept_anew c code r).memory.heap ≡ r.memory.heap
kept-heap (call.Heap c) code r = refl
kept-heap (call.Resource c) code r = refl
kept-heap (call.Segment c) code r = refl
kept-heap (call.Control c) code r = refl

kept-sound : (c : Call) (code : OsErr) (r : Running) (bytes : ℕ → List ℕ) → Sound r.memory bytes
    → Sound (kept_anew c code r).memory bytes
kept-sound (call.Heap c) code r bytes sound =
    record { known = sound.known; masters = sound.masters; fits = sound.fits }
kept-sound (call.Resource c) code r bytes sound = sound
kept-sound (call.Segment c) code r bytes sound = sound
kept-sound (call.Control c) code r bytes sound = sound

module _ (P : (ℕ → List ℕ) → Event → Type 0)
    (holds : (blocks : Blocks) (l : Line) (r : Running) (bytes : ℕ → List ℕ) → Sound r.memory bytes
    → P bytes (event_of l r (once blocks l.call r)))
  where
    each-append : (bytes : ℕ → List ℕ) (es fs : List Event) → EachTry P bytes es
        → EachTry P (put_events es bytes) fs → EachTry P bytes (es ++ fs)
    each-append bytes [] fs first rest = rest
    each-append bytes (e ∷ es) fs first rest = (first.0, each-append (put_event e bytes) es fs first.1 rest)

    -- a course from a heap in which these bytes were last put
    pub record Goes (s : State) (bytes : ℕ → List ℕ) (c : Course) : Type 0 where
      pub each : EachTry P bytes c.events
      pub linked : Linked s c.events
      pub ends : heap_after s c.events ≡ c.after.memory.heap
      pub sound : Sound c.after.memory (put_events c.events bytes)

    nothing-goes : (r : Running) (bytes : ℕ → List ℕ) → Sound r.memory bytes
        → Goes r.memory.heap bytes (nothing_yet r)
    nothing-goes r bytes sound = record { each = tt; linked = tt; ends = refl; sound = sound }

    joined-goes : (s : State) (bytes : ℕ → List ℕ) (c d : Course) → Goes s bytes c
        → Goes c.after.memory.heap (put_events c.events bytes) d → Goes s bytes (joined c d)
    joined-goes s bytes c d first rest = record {
      each = each-append bytes c.events d.events first.each rest.each;
      linked = linked-append s c.events d.events first.linked
          (subst (λ (t : State). Linked t d.events) (sym first.ends) rest.linked);
      ends = heap_after-append s c.events d.events ∙ ap (λ (t : State). heap_after t d.events) first.ends
          ∙ rest.ends;
      sound = subst (λ (b : ℕ → List ℕ). Sound d.after.memory b) (sym (put_events-append c.events d.events bytes))
          rest.sound;
    }

    -- a try, with whatever lines and names come with it
    try-goes : (blocks : Blocks) (l : Line) (r : Running) (bytes : ℕ → List ℕ) → Sound r.memory bytes
        → Goes r.memory.heap bytes (grown_line l r (once blocks l.call r))
    try-goes blocks l r bytes sound = record {
      each = (holds blocks l r bytes sound, tt);
      linked = (refl, tt);
      ends = refl;
      sound = once-sound blocks l.call r bytes sound;
    }

    -- the lines of a grow-zone script
    grown-goes : (blocks : Blocks) (script : List Line) (r : Running) (bytes : ℕ → List ℕ) → Sound r.memory bytes
        → Goes r.memory.heap bytes (grown blocks script r)
    grown-goes blocks [] r bytes sound = nothing-goes r bytes sound
    grown-goes blocks (l ∷ script) r bytes sound =
        let t : Tried = once blocks l.call r in
        joined-goes r.memory.heap bytes (grown_line l r t) (grown blocks script t.after)
        (try-goes blocks l r bytes sound)
        (grown-goes blocks script t.after (put_event (event_of l r t) bytes)
        (once-sound blocks l.call r bytes sound))

    -- the lines of a script while something is busy
    for-goes : (blocks : Blocks) (l : Line) (reading : Option ℕ) (r : Running) (bytes : ℕ → List ℕ)
        → Sound r.memory bytes → Goes r.memory.heap bytes (grown_for blocks l reading r)
    for-goes blocks l reading r bytes sound = record {
      each = goes.each;
      linked = subst (λ (s : State). Linked s came.events) same goes.linked;
      ends = ap (λ (s : State). heap_after s came.events) (sym same) ∙ goes.ends
          ∙ sym (marked_for-heap false l.call reading came.after);
      sound = marked_for-sound false l.call reading came.after (put_events came.events bytes) goes.sound;
    }
      where
        busy : Running
        busy = marked_for true l.call reading r

        same : busy.memory.heap ≡ r.memory.heap
        same = marked_for-heap true l.call reading r

        came : Course
        came = grown blocks r.grow busy

        goes : Goes busy.memory.heap bytes came
        goes = grown-goes blocks r.grow busy bytes (marked_for-sound true l.call reading r bytes sound)

    -- a try that found no room, and the script that is run for it
    pub asked-goes : (blocks : Blocks) (l : Line) (r : Running) (bytes : ℕ → List ℕ) → Sound r.memory bytes
        → Goes r.memory.heap bytes (asked_for blocks l r (once blocks l.call r))
    asked-goes blocks l r bytes sound =
        let t : Tried = once blocks l.call r in
        let goes = try-goes blocks l r bytes sound in
        joined-goes r.memory.heap bytes
        (record {
          events = event_of l r t ∷ [];
          lines = [];
          line_ends = [];
          told = Some t.told;
          over = t.over;
          after = t.after;
        })
        (grown_for blocks l t.reading t.after)
        (record { each = goes.each; linked = goes.linked; ends = goes.ends; sound = goes.sound })
        (for-goes blocks l t.reading t.after (put_event (event_of l r t) bytes) goes.sound)

    ended-goes : (blocks : Blocks) (l : Line) (r : Running) (bytes : ℕ → List ℕ) → Sound r.memory bytes
        → Goes r.memory.heap bytes (ended l r (once blocks l.call r))
    ended-goes blocks l r bytes sound =
        let goes = try-goes blocks l r bytes sound in
        record { each = goes.each; linked = goes.linked; ends = goes.ends; sound = goes.sound }

    stands-goes : (l : Line) (t : Tried) (r : Running) (bytes : ℕ → List ℕ) → Sound r.memory bytes
        → Goes r.memory.heap bytes (stands l t r)
    stands-goes l t r bytes sound = record {
      each = tt;
      linked = tt;
      ends = sym (kept-heap l.call (code_told t.told) r);
      sound = kept-sound l.call (code_told t.told) r bytes sound;
    }

    -- a round goes so, whether the call ends with it or not
    abbrev pub RoundGoes : State → (ℕ → List ℕ) → Round → Type 0
    RoundGoes s bytes (Ends c) = Goes s bytes c
    RoundGoes s bytes (Again c) = Goes s bytes c

    round-goes : (blocks : Blocks) (l : Line) (r : Running) (bytes : ℕ → List ℕ) → Sound r.memory bytes
        → RoundGoes r.memory.heap bytes (round blocks l r)
    round-goes blocks l r bytes sound = by_want t.wants
      where
        t : Tried
        t = once blocks l.call r

        came : Course
        came = asked_for blocks l r t

        goes : Goes r.memory.heap bytes came
        goes = asked-goes blocks l r bytes sound

        by_room : (rose : Bool)
            → RoundGoes r.memory.heap bytes (cond rose (Again came) (Ends (joined came (stands l t came.after))))
        by_room true = goes
        by_room false = joined-goes r.memory.heap bytes came (stands l t came.after) goes
            (stands-goes l t came.after (put_events came.events bytes) goes.sound)

        by_want : (wants : Bool)
            → RoundGoes r.memory.heap bytes (cond wants (after_asking l t came) (Ends (ended l r t)))
        by_want true = by_room (made_room t came)
        by_want false = ended-goes blocks l r bytes sound

    continued-goes : (s : State) (bytes : ℕ → List ℕ) (x : Round) (next : Running → Course) → RoundGoes s bytes x
        → ((r : Running) (bytes : ℕ → List ℕ) → Sound r.memory bytes → Goes r.memory.heap bytes (next r))
        → Goes s bytes (continued x next)
    continued-goes s bytes (Ends c) next goes more = goes
    continued-goes s bytes (Again c) next goes more =
        joined-goes s bytes c (next c.after) goes (more c.after (put_events c.events bytes) goes.sound)

    step_in-goes : (most : ℕ) (blocks : Blocks) (l : Line) (r : Running) (bytes : ℕ → List ℕ) → Sound r.memory bytes
        → Goes r.memory.heap bytes (step_in most blocks l r)
    step_in-goes zero blocks l r bytes sound = nothing-goes r bytes sound
    step_in-goes (suc more) blocks l r bytes sound =
        continued-goes r.memory.heap bytes (round blocks l r) (step_in more blocks l)
        (round-goes blocks l r bytes sound) (λ x b s. step_in-goes more blocks l x b s)

    -- a step, and a run
    pub step-goes : (blocks : Blocks) (l : Line) (r : Running) (bytes : ℕ → List ℕ) → Sound r.memory bytes
        → Goes r.memory.heap bytes (step blocks l r)
    step-goes blocks l r bytes sound = step_in-goes (most_rounds r) blocks l r bytes sound

    pub run-goes : (blocks : Blocks) (lines : List Line) (r : Running) (bytes : ℕ → List ℕ) → Sound r.memory bytes
        → Goes r.memory.heap bytes (course_of blocks lines r)
    run-goes blocks [] r bytes sound = nothing-goes r bytes sound
    run-goes blocks (l ∷ lines) r bytes sound =
        by_over c.over (run-goes blocks lines c.after (put_events c.events bytes) goes.sound)
      where
        c : Course
        c = step blocks l r

        goes : Goes r.memory.heap bytes c
        goes = step-goes blocks l r bytes sound

        by_over : (over : Bool)
            → Goes c.after.memory.heap (put_events c.events bytes) (course_of blocks lines c.after)
            → Goes r.memory.heap bytes (cond over c (joined c (course_of blocks lines c.after)))
        by_over true rest = goes
        by_over false rest = joined-goes r.memory.heap bytes c (course_of blocks lines c.after) goes rest
