use Rattle.applications.proofs.Cited.{◌≡◌, ◌==◌, ℕ, Bool, true, false, zero, suc, List, [], ◌∷◌, refl, ap, ◌∙◌, cond, Option, Some, None}
use Rattle.applications.proofs.Cited.{◌⊎◌, inl, inr, Decides-eqb, OsErr, Call, HeapCall, ResourceCall, SegmentCall, named, Memory, Asked}
use Rattle.applications.proofs.Cited.{Places, idle, holds, busied, eased, first_named, second_named, Line, Bindings, Running, Blocks, Tried}
use Rattle.applications.proofs.Cited.{once, asked, resource_asked, code_told, Course, marked, marked_for, grown, asked_for, kept_anew}
use Rattle.applications.proofs.Cited.{ended, stands, Round, Ends, Again, made_room, after_asking, round, continued, step_in, step, joined}
use Rattle.applications.proofs.Cited.{most_rounds, NothingBusy}
use Rattle.mac_words.specs.declared.call.Call.TheVariants as call
use Rattle.applications.proofs.TryLaws.{once-busy}
use Rattle.applications.proofs.StepLaws.{each-step, grown-names}

-- Which numbers are busy: while a grow-zone script runs those that the waiting call names, and after a step none.

-- a place where a number is busy no more
abbrev cleared : Option ℕ → Option ℕ → Option ℕ
cleared None place = place
cleared (Some n) place = cond (holds n place) None place

-- a place that a number was put into holds it or nothing
abbrev AtMost : ℕ → Option ℕ → Type 0
AtMost n place = (place ≡ Some n) ⊎ (place ≡ None)

cleared-own : (n : ℕ) (place : Option ℕ) → AtMost n place → cleared (Some n) place ≡ None
cleared-own n place (inl is) =
    ap (cleared (Some n)) is ∙ ap (λ (t : Bool). cond t None (Some n)) ((Decides-eqb n n).1 refl)
cleared-own n place (inr is) = ap (cleared (Some n)) is

cleared-at_most : (o : Option ℕ) (n : ℕ) (place : Option ℕ) → AtMost n place → AtMost n (cleared o place)
cleared-at_most None n place at_most = at_most
cleared-at_most (Some k) n place (inl is) = by_test (n == k) (ap (cleared (Some k)) is)
  where
    by_test : (t : Bool) → cleared (Some k) place ≡ cond t None (Some n) → AtMost n (cleared (Some k) place)
    by_test true e = inr e
    by_test false e = inl e
cleared-at_most (Some k) n place (inr is) = inr (ap (cleared (Some k)) is)

-- a number is busy from now on, or no more
abbrev marks : Bool → Option ℕ → Places → Places
marks busy None places = places
marks true (Some n) places = busied n places
marks false (Some n) places = eased n places

marked-marks : (busy : Bool) (n : Option ℕ) (m : Memory) → (marked busy n m).log.busy ≡ marks busy n m.log.busy
marked-marks busy None m = refl
marked-marks true (Some n) m = refl
marked-marks false (Some n) m = refl

-- the same of three
abbrev all_marks : Bool → Option ℕ → Option ℕ → Option ℕ → Places → Places
all_marks busy a b c places = marks busy c (marks busy b (marks busy a places))

empty-places : (p q r : Option ℕ) → p ≡ None → q ≡ None → r ≡ None → (p ∷ q ∷ r ∷ []) ≡ idle
empty-places p q r none_p none_q none_r i = none_p i ∷ none_q i ∷ none_r i ∷ []

-- what was made busy from nothing is busy no more
own : (n : ℕ) → cleared (Some n) (Some n) ≡ None
own n = cleared-own n (Some n) (inl refl)

later : (n k : ℕ) → AtMost k (cleared (Some n) (Some k))
later n k = cleared-at_most (Some n) k (Some k) (inl refl)

two-cleared : (a b : ℕ) → all_marks false (Some a) (Some b) None (all_marks true (Some a) (Some b) None idle) ≡ idle
two-cleared a b = empty-places _ _ _ (ap (cleared (Some b)) (own a))
    (cleared-own b (cleared (Some a) (Some b)) (later a b)) refl

marked-and-cleared : (a b c : Option ℕ) → all_marks false a b c (all_marks true a b c idle) ≡ idle
marked-and-cleared None None None = refl
marked-and-cleared None None (Some c) = empty-places _ _ _ (own c) refl refl
marked-and-cleared None (Some b) None = empty-places _ _ _ (own b) refl refl
marked-and-cleared None (Some b) (Some c) = two-cleared b c
marked-and-cleared (Some a) None None = empty-places _ _ _ (own a) refl refl
marked-and-cleared (Some a) None (Some c) = two-cleared a c
marked-and-cleared (Some a) (Some b) None = two-cleared a b
marked-and-cleared (Some a) (Some b) (Some c) = empty-places _ _ _
    (ap (λ (place : Option ℕ). cleared (Some c) (cleared (Some b) place)) (own a))
    (ap (cleared (Some c)) (cleared-own b (cleared (Some a) (Some b)) (later a b)))
    (cleared-own c (cleared (Some b) (cleared (Some a) (Some c)))
    (cleared-at_most (Some b) c (cleared (Some a) (Some c)) (later a c)))

marked_for-marks : (busy : Bool) (c : HeapCall) (reading : Option ℕ) (r : Running)
    → (marked_for busy (call.Heap c) reading r).memory.log.busy
    ≡ all_marks busy (first_named (asked c r.names)) (second_named (asked c r.names)) reading r.memory.log.busy
marked_for-marks busy c reading r =
    let a : Asked = asked c r.names in
    let first : Memory = marked busy (first_named a) r.memory in
    let second : Memory = marked busy (second_named a) first in
    marked-marks busy reading second
    ∙ ap (marks busy reading) (marked-marks busy (second_named a) first
    ∙ ap (marks busy (second_named a)) (marked-marks busy (first_named a) r.memory))

marked_for-resource : (busy : Bool) (c : ResourceCall) (reading : Option ℕ) (r : Running)
    → (marked_for busy (call.Resource c) reading r).memory.log.busy
    ≡ all_marks busy (named (resource_asked c r.names)) None reading r.memory.log.busy
marked_for-resource busy c reading r =
    let first : Memory = marked busy (named (resource_asked c r.names)) r.memory in
    marked-marks busy reading first
    ∙ ap (marks busy reading) (marked-marks busy (named (resource_asked c r.names)) r.memory)

marked_for-segment : (busy : Bool) (c : SegmentCall) (reading : Option ℕ) (r : Running)
    → (marked_for busy (call.Segment c) reading r).memory.log.busy
    ≡ all_marks busy None None reading r.memory.log.busy
marked_for-segment busy c reading r = marked-marks busy reading r.memory

-- lines of a grow-zone script leave which numbers are busy
grown-busy : (blocks : Blocks) (script : List Line) (r : Running)
    → (grown blocks script r).after.memory.log.busy ≡ r.memory.log.busy
grown-busy blocks [] r = refl
grown-busy blocks (l ∷ script) r =
    grown-busy blocks script (once blocks l.call r).after ∙ once-busy blocks l.call r

-- where nothing was busy nothing is after them, whatever was while they ran
cleared-behind : (blocks : Blocks) (c : Call) (script : List Line) (reading : Option ℕ) (r : Running)
    → r.memory.log.busy ≡ idle
    → (marked_for false c reading (grown blocks script (marked_for true c reading r)).after).memory.log.busy ≡ idle
cleared-behind blocks (call.Control c) script reading r none = grown-busy blocks script r ∙ none
cleared-behind blocks (call.Segment c) script reading r none =
    marked_for-segment false c reading (grown blocks script busy).after
    ∙ ap (all_marks false None None reading)
    (grown-busy blocks script busy ∙ marked_for-segment true c reading r
    ∙ ap (all_marks true None None reading) none)
    ∙ marked-and-cleared None None reading
  where
    busy : Running
    busy = marked_for true (call.Segment c) reading r
cleared-behind blocks (call.Resource c) script reading r none =
    marked_for-resource false c reading after
    ∙ ap (λ (names : Bindings). all_marks false (named (resource_asked c names)) None reading after.memory.log.busy)
    (grown-names blocks script busy)
    ∙ ap (all_marks false first None reading)
    (grown-busy blocks script busy ∙ marked_for-resource true c reading r
    ∙ ap (all_marks true first None reading) none)
    ∙ marked-and-cleared first None reading
  where
    first : Option ℕ
    first = named (resource_asked c r.names)

    busy : Running
    busy = marked_for true (call.Resource c) reading r

    after : Running
    after = (grown blocks script busy).after
cleared-behind blocks (call.Heap c) script reading r none =
    marked_for-marks false c reading after
    ∙ ap (λ (names : Bindings). all_marks false (first_named (asked c names)) (second_named (asked c names)) reading
    after.memory.log.busy) (grown-names blocks script busy)
    ∙ ap (all_marks false first second reading)
    (grown-busy blocks script busy ∙ marked_for-marks true c reading r
    ∙ ap (all_marks true first second reading) none)
    ∙ marked-and-cleared first second reading
  where
    first : Option ℕ
    first = first_named (asked c r.names)

    second : Option ℕ
    second = second_named (asked c r.names)

    busy : Running
    busy = marked_for true (call.Heap c) reading r

    after : Running
    after = (grown blocks script busy).after

asked-idle : (blocks : Blocks) (l : Line) (r : Running) → r.memory.log.busy ≡ idle
    → (asked_for blocks l r (once blocks l.call r)).after.memory.log.busy ≡ idle
asked-idle blocks l r none =
    let t : Tried = once blocks l.call r in
    cleared-behind blocks l.call t.after.grow t.reading t.after (once-busy blocks l.call r ∙ none)

kept-busy : (c : Call) (code : OsErr) (r : Running) → (kept_anew c code r).memory.log.busy ≡ r.memory.log.busy
kept-busy (call.Heap c) code r = refl
kept-busy (call.Resource c) code r = refl
kept-busy (call.Segment c) code r = refl
kept-busy (call.Control c) code r = refl

-- nothing is busy after a course
abbrev Idle : Course → Type 0
Idle c = c.after.memory.log.busy ≡ idle

abbrev RoundIdle : Round → Type 0
RoundIdle (Ends c) = Idle c
RoundIdle (Again c) = Idle c

round-idle : (blocks : Blocks) (l : Line) (r : Running) → r.memory.log.busy ≡ idle → RoundIdle (round blocks l r)
round-idle blocks l r none = by_want t.wants
  where
    t : Tried
    t = once blocks l.call r

    came : Course
    came = asked_for blocks l r t

    by_room : (rose : Bool) → RoundIdle (cond rose (Again came) (Ends (joined came (stands l t came.after))))
    by_room true = asked-idle blocks l r none
    by_room false = kept-busy l.call (code_told t.told) came.after ∙ asked-idle blocks l r none

    by_want : (wants : Bool) → RoundIdle (cond wants (after_asking l t came) (Ends (ended l r t)))
    by_want true = by_room (made_room t came)
    by_want false = once-busy blocks l.call r ∙ none

continued-idle : (x : Round) (next : Running → Course) → RoundIdle x
    → ((r : Running) → r.memory.log.busy ≡ idle → Idle (next r)) → Idle (continued x next)
continued-idle (Ends c) next none more = none
continued-idle (Again c) next none more = more c.after none

step_in-idle : (most : ℕ) (blocks : Blocks) (l : Line) (r : Running) → r.memory.log.busy ≡ idle
    → Idle (step_in most blocks l r)
step_in-idle zero blocks l r none = none
step_in-idle (suc more) blocks l r none =
    continued-idle (round blocks l r) (step_in more blocks l) (round-idle blocks l r none)
    (λ x is. step_in-idle more blocks l x is)

-- and so after each step of a run
pub nothing-busy : (blocks : Blocks) (lines : List Line) (r : Running) → r.memory.log.busy ≡ idle
    → NothingBusy blocks lines r
nothing-busy blocks lines r none = each-step (λ l r. (step blocks l r).after.memory.log.busy ≡ idle)
    (λ r. r.memory.log.busy ≡ idle) blocks
    (λ l r is. let after = step_in-idle (most_rounds r) blocks l r is in (after, after)) lines r none
