use Rattle.applications.proofs.Cited.{◌≡◌, ◌≤◌, ◌<◌, ℕ, Bool, true, false, zero, suc, List, [], ◌∷◌, refl, sym, ap, ◌∙◌, cond, arith, subst}
use Rattle.applications.proofs.Cited.{Option, ltb-true, OsErr, Call, Block, sizes, count, is_masters, State, Memory, Told, Done, Given}
use Rattle.applications.proofs.Cited.{Fetched, Number, Numbers, Offset, Code, Bytes, Kind, Info, Entry, Refused, ease, staying, parted}
use Rattle.applications.proofs.Cited.{less_stays, served_bytes, served_masters_no_fewer, served_no_more, Line, Running, Blocks, Tried, once}
use Rattle.applications.proofs.Cited.{asked, resource_asked, managers_of, program_of, code_told, is_full, Course, event_of, marked_for}
use Rattle.applications.proofs.Cited.{grown, grown_for, asked_for, Round, Ends, Again, made_room, after_asking, joined, ended, stands}
use Rattle.applications.proofs.Cited.{round, continued, step_in, step, step_by_rule, most_rounds, Event, put_event, put_events, GoesByRule}
use Rattle.applications.proofs.Cited.{served-bytes, served-masters, served-no_more}
use Rattle.mac_words.specs.declared.call.Call.TheVariants as call
use Rattle.mac_words.specs.declared.call.ControlCall.TheVariants as control
use Rattle.segments.proofs.Laws as jumping
use Rattle.applications.proofs.TryLaws.{Sound, of-try, once-sound}
use Rattle.applications.proofs.Carrying.{asked-goes, step-goes, marked_for-heap, marked_for-sound}
use Rattle.applications.proofs.StepLaws.{each-step}

-- A step ends by its rule: each further try leaves fewer bytes that stay.

-- the bytes of an application's zone that can't be had
abbrev stays : Running → ℕ
stays r = staying r.memory.heap.zone

-- an answer that tells of no room is a refusal
pub full-refused : (t : Told) → is_full (code_told t) ≡ true → (code : OsErr) × (t ≡ Refused code)
full-refused (Refused code) e = (code, refl)
full-refused Done e = cc
full-refused (Given n) e = cc
full-refused (Fetched handle read) e = cc
full-refused (Kind kind) e = cc
full-refused (Info id kind name) e = cc
full-refused (Entry segment flag) e = cc
full-refused (Number n) e = cc
full-refused (Numbers n m) e = cc
full-refused (Offset offset) e = cc
full-refused (Code code) e = cc
full-refused (Bytes x) e = cc

-- a try that found no room leaves no more that stays
once-stays : (blocks : Blocks) (c : Call) (r : Running) → (once blocks c r).wants ≡ true
    → stays (once blocks c r).after ≤ stays r
once-stays blocks (call.Heap c) r wants =
    let full = full-refused (once blocks (call.Heap c) r).told wants in
    served_no_more (asked c r.names) r.memory full.0 full.1
once-stays blocks (call.Resource c) r wants =
    let full = full-refused (once blocks (call.Resource c) r).told wants in
    served-no_more (resource_asked c r.names) (managers_of r) full.0 full.1
once-stays blocks (call.Segment c) r wants = jumping.served-no_more c (program_of r) wants
once-stays blocks (call.Control (control.SetGrowZone name)) r wants = cc
once-stays blocks (call.Control control.WaitNextEvent) r wants = cc
once-stays blocks (call.Control control.ExitToShell) r wants = cc

-- no try changes how many bytes a zone has, or lets a block of master pointers go
abbrev Frame : (before after : List Block) → Type 0
Frame before after = (sizes after ≡ sizes before) × (count is_masters before ≤ count is_masters after)

frame-same : (zone : List Block) → Frame zone zone
frame-same zone = (refl, (let z : count is_masters zone ≤ count is_masters zone = omega arith in z))

frame-then : (a b c : List Block) → Frame a b → Frame b c → Frame a c
frame-then a b c first second =
    let p = first.1 in
    let q = second.1 in
    (second.0 ∙ first.0, (let z : count is_masters a ≤ count is_masters c = omega arith in z))

once-frame : (blocks : Blocks) (c : Call) (r : Running) (bytes : ℕ → List ℕ) → Sound r.memory bytes
    → Frame r.memory.heap.zone (once blocks c r).after.memory.heap.zone
once-frame blocks c r bytes sound = of-try
    (λ d told reads after. Frame r.memory.heap.zone after.memory.heap.zone) blocks c r
    (λ a. (served_bytes a r.memory sound.known.once, served_masters_no_fewer a r.memory sound.known.once))
    (λ a. (
      served-bytes a (managers_of r) bytes sound.known,
      served-masters a (managers_of r) bytes sound.known,
    ))
    (λ c. (
      jumping.served-bytes c (program_of r),
      jumping.served-masters c (program_of r),
    )) (λ k grow. frame-same r.memory.heap.zone)

grown-frame : (blocks : Blocks) (script : List Line) (r : Running) (bytes : ℕ → List ℕ) → Sound r.memory bytes
    → Frame r.memory.heap.zone (grown blocks script r).after.memory.heap.zone
grown-frame blocks [] r bytes sound = frame-same r.memory.heap.zone
grown-frame blocks (l ∷ script) r bytes sound =
    let t : Tried = once blocks l.call r in
    frame-then r.memory.heap.zone t.after.memory.heap.zone (grown blocks script t.after).after.memory.heap.zone
    (once-frame blocks l.call r bytes sound)
    (grown-frame blocks script t.after (put_event (event_of l r t) bytes) (once-sound blocks l.call r bytes sound))

-- nor do the lines that are run for a try
for-frame : (blocks : Blocks) (l : Line) (reading : Option ℕ) (r : Running) (bytes : ℕ → List ℕ) → Sound r.memory bytes
    → Frame r.memory.heap.zone (grown_for blocks l reading r).after.memory.heap.zone
for-frame blocks l reading r bytes sound =
    let busy : Running = marked_for true l.call reading r in
    let came : Course = grown blocks r.grow busy in
    let before = ap (λ (s : State). s.zone) (marked_for-heap true l.call reading r) in
    let after = ap (λ (s : State). s.zone) (sym (marked_for-heap false l.call reading came.after)) in
    subst (λ (z : List Block). Frame z (grown_for blocks l reading r).after.memory.heap.zone) before
    (subst (λ (z : List Block). Frame busy.memory.heap.zone z) after
    (grown-frame blocks r.grow busy bytes (marked_for-sound true l.call reading r bytes sound)))

-- where they made room after a try that found none, less stays than before the try
falls : (blocks : Blocks) (l : Line) (r : Running) (bytes : ℕ → List ℕ) → Sound r.memory bytes
    → (once blocks l.call r).wants ≡ true
    → made_room (once blocks l.call r) (asked_for blocks l r (once blocks l.call r)) ≡ true
    → stays (asked_for blocks l r (once blocks l.call r)).after < stays r
falls blocks l r bytes sound wants rose =
    let t : Tried = once blocks l.call r in
    let came : Course = asked_for blocks l r t in
    let no_more = once-stays blocks l.call r wants in
    let known = once-sound blocks l.call r bytes sound in
    let frame = for-frame blocks l t.reading t.after (put_event (event_of l r t) bytes) known in
    let eased = ltb-true (ease t.after.memory.heap.zone) (ease came.after.memory.heap.zone) rose in
    let less = less_stays t.after.memory.heap.zone came.after.memory.heap.zone frame.0 frame.1 eased in
    omega arith

-- what is known of some bytes last put
abbrev SomeSound : Memory → Type 0
SomeSound m = (bytes : ℕ → List ℕ) × Sound m bytes

-- of each try nothing is said
abbrev pub Any : (ℕ → List ℕ) → Event → Type 0
Any bytes e = Unit {0}

pub any : (blocks : Blocks) (l : Line) (r : Running) (bytes : ℕ → List ℕ) → Sound r.memory bytes
    → Any bytes (event_of l r (once blocks l.call r))
any blocks l r bytes sound = tt

-- a round after which the call is tried again leaves less that stays
abbrev Falls : Running → Round → Type 0
Falls r (Ends c) = Unit {0}
Falls r (Again c) = (stays c.after < stays r) × SomeSound c.after.memory

round-falls : (blocks : Blocks) (l : Line) (r : Running) (bytes : ℕ → List ℕ) → Sound r.memory bytes
    → Falls r (round blocks l r)
round-falls blocks l r bytes sound = by_want t.wants refl
  where
    t : Tried
    t = once blocks l.call r

    came : Course
    came = asked_for blocks l r t

    by_room : t.wants ≡ true → (rose : Bool) → made_room t came ≡ rose
        → Falls r (cond rose (Again came) (Ends (joined came (stands l t came.after))))
    by_room wants true rose = (
      falls blocks l r bytes sound wants rose,
      (put_events came.events bytes, (asked-goes Any any blocks l r bytes sound).sound),
    )
    by_room wants false rose = tt

    by_want : (wants : Bool) → t.wants ≡ wants
        → Falls r (cond wants (after_asking l t came) (Ends (ended l r t)))
    by_want true wants = by_room wants (made_room t came) refl
    by_want false wants = tt

continued-same : (r : Running) (x : Round) (f g : Running → Course) → Falls r x
    → ((q : Running) (bytes : ℕ → List ℕ) → Sound q.memory bytes → stays q < stays r → f q ≡ g q)
    → continued x f ≡ continued x g
continued-same r (Ends c) f g fell same = refl
continued-same r (Again c) f g fell same = ap (joined c) (same c.after fell.1.0 fell.1.1 fell.0)

-- a step of more rounds than there are bytes that stay doesn't hang on how many
enough : (n k : ℕ) (blocks : Blocks) (l : Line) (r : Running) (bytes : ℕ → List ℕ) → Sound r.memory bytes
    → stays r < n → stays r < k → step_in n blocks l r ≡ step_in k blocks l r
enough zero k blocks l r bytes sound less less_too = absurd (omega arith)
enough (suc n) zero blocks l r bytes sound less less_too = absurd (omega arith)
enough (suc n) (suc k) blocks l r bytes sound less less_too =
    continued-same r (round blocks l r) (step_in n blocks l) (step_in k blocks l)
    (round-falls blocks l r bytes sound)
    (λ q b known fell. enough n k blocks l q b known (omega arith) (omega arith))

-- fewer bytes stay than a step may have rounds
most : (r : Running) → stays r < most_rounds r
most r = let parts = parted r.memory.heap.zone in omega arith

-- a step is the rule itself
pub step-by-rule : (blocks : Blocks) (l : Line) (r : Running) (bytes : ℕ → List ℕ) → Sound r.memory bytes
    → step blocks l r ≡ step_by_rule blocks l r
step-by-rule blocks l r bytes sound =
    enough (most_rounds r) (suc (most_rounds r)) blocks l r bytes sound (most r) (let m = most r in omega arith)
    ∙ continued-same r (round blocks l r) (step_in (most_rounds r) blocks l) (step blocks l)
    (round-falls blocks l r bytes sound)
    (λ q b known fell. let m = most r in
    enough (most_rounds r) (most_rounds q) blocks l q b known (omega arith) (most q))

-- and so is each step of a run
pub goes-by-rule : (blocks : Blocks) (lines : List Line) (r : Running) (bytes : ℕ → List ℕ) → Sound r.memory bytes
    → GoesByRule blocks lines r
goes-by-rule blocks lines r bytes sound = each-step (λ l r. step blocks l r ≡ step_by_rule blocks l r)
    (λ r. SomeSound r.memory) blocks
    (λ l r some. (
      step-by-rule blocks l r some.0 some.1,
      (put_events (step blocks l r).events some.0, (step-goes Any any blocks l r some.0 some.1).sound),
    )) lines r (bytes, sound)
