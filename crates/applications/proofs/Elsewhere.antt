use Rattle.applications.proofs.Cited.{◌≡◌, ◌∙◌, ◌≤◌, ◌-◌, ◌++◌, arith, ℕ, Bool, true, false, zero, suc, List, [], ◌∷◌, refl, sym, ap, cond}
use Rattle.applications.proofs.Cited.{Option, Some, None, pos, map, map-append, OsErr, Call, Site, sizes, fresh, sizes-free, Memory}
use Rattle.applications.proofs.Cited.{fresh_memory, Told, Asked, served, gone_in, first_named, second_named, elsewhere, served-elsewhere}
use Rattle.applications.proofs.Cited.{Line, Resources, Managers, Reads, own_datum, Served, named, gone-elsewhere, table_in, code_type}
use Rattle.applications.proofs.Cited.{Running, Blocks, Tried, once, asked, resource_asked, managers_of, program_of, launched_with, nowhere}
use Rattle.applications.proofs.Cited.{heap_tried, resource_tried, segment_tried, with_stored, code_told, served_moved, preloaded-elsewhere}
use Rattle.applications.proofs.Cited.{Event, LineEnd, Course, joined, event_of, marked, marked_for, grown_line, grown, grown_for, asked_for}
use Rattle.applications.proofs.Cited.{kept_anew, ended, stands, Round, Ends, Again, made_room, after_asking, after_try, round, continued}
use Rattle.applications.proofs.Cited.{step_in, step, most_rounds, unless_over, course_of, Glance, glance_of, glances, glances_after}
use Rattle.applications.proofs.Cited.{glances_for, glances_grown, glances_in, glances_try, moved, event_elsewhere, line_end_elsewhere}
use Rattle.applications.proofs.Cited.{course_elsewhere}
use Rattle.mac_words.specs.declared.call.Call.TheVariants as call
use Rattle.mac_words.specs.declared.call.ControlCall.TheVariants as control
use Rattle.heap_calls.proofs.Tries.Elsewhere.{gone-elsewhere as heap-gone-elsewhere}
use Rattle.res_calls.specs.Asked as finds
use Rattle.res_calls.specs.Gone as purges
use Rattle.segments.specs.Asked.{Served as Jumped}
use Rattle.segments.specs.Asked as jumps
use Rattle.segments.specs.Gone as jump_purges
use Rattle.segments.proofs.Purging.{gone-elsewhere as jump-gone-elsewhere}
use Rattle.res_calls.proofs.Walks.Place.{served-elsewhere as found-elsewhere}
use Rattle.segments.proofs.Laws.{served-elsewhere as jumped-elsewhere, served_moved as jumped_moved}

-- What a run comes to doesn't hang on where its partition lies.

-- a try elsewhere
abbrev tried_elsewhere : Site → Tried → Tried
tried_elsewhere site t = record t { after = moved site t.after }

-- tells the same
once-elsewhere : (site : Site) (blocks : Blocks) (c : Call) (r : Running)
    → once blocks c (moved site r) ≡ tried_elsewhere site (once blocks c r)
once-elsewhere site blocks (call.Heap c) r =
    ap (λ (x : Told × Memory). with_stored r (gone_in (asked c r.names) (elsewhere site r.memory))
    (heap_tried x (moved site r))) (served-elsewhere site (asked c r.names) r.memory)
    ∙ ap (λ purged. with_stored r purged
    (heap_tried ((served (asked c r.names) r.memory).0, elsewhere site (served (asked c r.names) r.memory).1) (moved site r)))
    (heap-gone-elsewhere site (asked c r.names) r.memory)
once-elsewhere site blocks (call.Resource c) r =
    ap (λ (x : Served). with_stored r (purges.gone_for (resource_asked c r.names) (managers_of (moved site r)))
    (resource_tried x (moved site r))) (found-elsewhere site (resource_asked c r.names) (managers_of r))
    ∙ ap (λ purged. with_stored r purged (resource_tried
    (served_moved site (finds.served (resource_asked c r.names) (managers_of r))) (moved site r)))
    (gone-elsewhere site (resource_asked c r.names) (managers_of r))
once-elsewhere site blocks (call.Segment c) r =
    ap (λ (x : Jumped). with_stored r (jump_purges.gone_for c (program_of (moved site r)))
    (segment_tried x (moved site r))) (jumped-elsewhere site c (program_of r))
    ∙ ap (λ purged. with_stored r purged (segment_tried
    (jumped_moved site (jumps.served c (program_of r))) (moved site r)))
    (jump-gone-elsewhere site c (program_of r))
once-elsewhere site blocks (call.Control (control.SetGrowZone name)) r = refl
once-elsewhere site blocks (call.Control control.WaitNextEvent) r = refl
once-elsewhere site blocks (call.Control control.ExitToShell) r = refl

-- a round elsewhere
abbrev round_elsewhere : Site → Round → Round
round_elsewhere site (Ends c) = Ends (course_elsewhere site c)
round_elsewhere site (Again c) = Again (course_elsewhere site c)

joined-elsewhere : (site : Site) (c d : Course)
    → joined (course_elsewhere site c) (course_elsewhere site d) ≡ course_elsewhere site (joined c d)
joined-elsewhere site c d =
    ap (λ (events : List Event). let joint : Course = record {
      events = events;
      lines = c.lines ++ d.lines;
      line_ends = map (line_end_elsewhere site) c.line_ends ++ map (line_end_elsewhere site) d.line_ends;
      told = d.told;
      over = d.over;
      after = moved site d.after;
    } in joint) (sym (map-append (event_elsewhere site) c.events d.events))
    ∙ ap (λ (ends : List LineEnd). let joint : Course = record {
      events = map (event_elsewhere site) (c.events ++ d.events);
      lines = c.lines ++ d.lines;
      line_ends = ends;
      told = d.told;
      over = d.over;
      after = moved site d.after;
    } in joint) (sym (map-append (line_end_elsewhere site) c.line_ends d.line_ends))

-- what is busy is no matter of the place
marked-elsewhere : (site : Site) (busy : Bool) (n : Option ℕ) (m : Memory)
    → marked busy n (elsewhere site m) ≡ elsewhere site (marked busy n m)
marked-elsewhere site busy None m = refl
marked-elsewhere site true (Some n) m = refl
marked-elsewhere site false (Some n) m = refl

marked_for-elsewhere : (site : Site) (busy : Bool) (c : Call) (reading : Option ℕ) (r : Running)
    → marked_for busy c reading (moved site r) ≡ moved site (marked_for busy c reading r)
marked_for-elsewhere site busy (call.Control c) reading r = refl
marked_for-elsewhere site busy (call.Segment c) reading r =
    ap (λ (m : Memory). record r { memory = m }) (marked-elsewhere site busy reading r.memory)
marked_for-elsewhere site busy (call.Resource c) reading r =
    let handle : Option ℕ = named (resource_asked c r.names) in
    ap (λ (m : Memory). record r { memory = m })
    (ap (marked busy reading) (marked-elsewhere site busy handle r.memory)
    ∙ marked-elsewhere site busy reading (marked busy handle r.memory))
marked_for-elsewhere site busy (call.Heap c) reading r =
    let a : Asked = asked c r.names in
    let first : Memory = marked busy (first_named a) r.memory in
    let second : Memory = marked busy (second_named a) first in
    ap (λ (m : Memory). record r { memory = m })
    (ap (λ (m : Memory). marked busy reading (marked busy (second_named a) m))
    (marked-elsewhere site busy (first_named a) r.memory)
    ∙ ap (marked busy reading) (marked-elsewhere site busy (second_named a) first)
    ∙ marked-elsewhere site busy reading second)

grown-elsewhere : (site : Site) (blocks : Blocks) (script : List Line) (r : Running)
    → grown blocks script (moved site r) ≡ course_elsewhere site (grown blocks script r)
grown-elsewhere site blocks [] r = refl
grown-elsewhere site blocks (l ∷ script) r =
    let t : Tried = once blocks l.call r in
    ap (λ (x : Tried). joined (grown_line l (moved site r) x) (grown blocks script x.after))
    (once-elsewhere site blocks l.call r)
    ∙ ap (joined (course_elsewhere site (grown_line l r t))) (grown-elsewhere site blocks script t.after)
    ∙ joined-elsewhere site (grown_line l r t) (grown blocks script t.after)

for-elsewhere : (site : Site) (blocks : Blocks) (l : Line) (reading : Option ℕ) (r : Running)
    → grown_for blocks l reading (moved site r) ≡ course_elsewhere site (grown_for blocks l reading r)
for-elsewhere site blocks l reading r =
    let busy : Running = marked_for true l.call reading r in
    let came : Course = grown blocks r.grow busy in
    ap (λ (c : Course). let cleared : Course = record c { after = marked_for false l.call reading c.after } in cleared)
    (ap (grown blocks r.grow) (marked_for-elsewhere site true l.call reading r)
    ∙ grown-elsewhere site blocks r.grow busy)
    ∙ ap (λ (x : Running). let cleared : Course = record (course_elsewhere site came) { after = x } in cleared)
    (marked_for-elsewhere site false l.call reading came.after)

asked-elsewhere : (site : Site) (blocks : Blocks) (l : Line) (r : Running) (t : Tried)
    → asked_for blocks l (moved site r) (tried_elsewhere site t)
    ≡ course_elsewhere site (asked_for blocks l r t)
asked-elsewhere site blocks l r t =
    let tried : Course = record {
      events = event_of l r t ∷ [];
      lines = [];
      line_ends = [];
      told = Some t.told;
      over = t.over;
      after = t.after;
    } in
    ap (joined (course_elsewhere site tried)) (for-elsewhere site blocks l t.reading t.after)
    ∙ joined-elsewhere site tried (grown_for blocks l t.reading t.after)

kept-elsewhere : (site : Site) (c : Call) (code : OsErr) (r : Running)
    → kept_anew c code (moved site r) ≡ moved site (kept_anew c code r)
kept-elsewhere site (call.Heap c) code r = refl
kept-elsewhere site (call.Resource c) code r = refl
kept-elsewhere site (call.Segment c) code r = refl
kept-elsewhere site (call.Control c) code r = refl

stands-elsewhere : (site : Site) (l : Line) (t : Tried) (r : Running)
    → stands l (tried_elsewhere site t) (moved site r) ≡ course_elsewhere site (stands l t r)
stands-elsewhere site l t r = ap (λ (x : Running). let stood : Course = record (stands l t r) { after = x } in stood)
    (kept-elsewhere site l.call (code_told t.told) r)

try-elsewhere : (site : Site) (blocks : Blocks) (l : Line) (r : Running) (t : Tried)
    → after_try blocks l (moved site r) (tried_elsewhere site t) ≡ round_elsewhere site (after_try blocks l r t)
try-elsewhere site blocks l r t = by_want t.wants
  where
    came : Course
    came = asked_for blocks l r t

    by_room : (rose : Bool) → cond rose (Again (course_elsewhere site came))
        (Ends (joined (course_elsewhere site came) (stands l (tried_elsewhere site t) (moved site came.after))))
        ≡ round_elsewhere site (cond rose (Again came) (Ends (joined came (stands l t came.after))))
    by_room true = refl
    by_room false =
        ap (λ (c : Course). Ends (joined (course_elsewhere site came) c)) (stands-elsewhere site l t came.after)
        ∙ ap Ends (joined-elsewhere site came (stands l t came.after))

    by_want : (wants : Bool)
        → cond wants (after_asking l (tried_elsewhere site t)
        (asked_for blocks l (moved site r) (tried_elsewhere site t)))
        (Ends (ended l (moved site r) (tried_elsewhere site t)))
        ≡ round_elsewhere site (cond wants (after_asking l t came) (Ends (ended l r t)))
    by_want true =
        ap (after_asking l (tried_elsewhere site t)) (asked-elsewhere site blocks l r t) ∙ by_room (made_room t came)
    by_want false = refl

round-elsewhere : (site : Site) (blocks : Blocks) (l : Line) (r : Running)
    → round blocks l (moved site r) ≡ round_elsewhere site (round blocks l r)
round-elsewhere site blocks l r =
    ap (after_try blocks l (moved site r)) (once-elsewhere site blocks l.call r)
    ∙ try-elsewhere site blocks l r (once blocks l.call r)

continued-elsewhere : (site : Site) (x : Round) (next : Running → Course)
    → ((r : Running) → next (moved site r) ≡ course_elsewhere site (next r))
    → continued (round_elsewhere site x) next ≡ course_elsewhere site (continued x next)
continued-elsewhere site (Ends c) next same = refl
continued-elsewhere site (Again c) next same =
    ap (joined (course_elsewhere site c)) (same c.after) ∙ joined-elsewhere site c (next c.after)

step_in-elsewhere : (site : Site) (most : ℕ) (blocks : Blocks) (l : Line) (r : Running)
    → step_in most blocks l (moved site r) ≡ course_elsewhere site (step_in most blocks l r)
step_in-elsewhere site zero blocks l r = refl
step_in-elsewhere site (suc more) blocks l r =
    ap (λ (x : Round). continued x (step_in more blocks l)) (round-elsewhere site blocks l r)
    ∙ continued-elsewhere site (round blocks l r) (step_in more blocks l) (step_in-elsewhere site more blocks l)

over-elsewhere : (site : Site) (c : Course) (next : Running → Course)
    → ((r : Running) → next (moved site r) ≡ course_elsewhere site (next r))
    → unless_over (course_elsewhere site c) next ≡ course_elsewhere site (unless_over c next)
over-elsewhere site c next same = by_over c.over
  where
    by_over : (over : Bool)
        → cond over (course_elsewhere site c) (joined (course_elsewhere site c) (next (moved site c.after)))
        ≡ course_elsewhere site (cond over c (joined c (next c.after)))
    by_over true = refl
    by_over false = ap (joined (course_elsewhere site c)) (same c.after) ∙ joined-elsewhere site c (next c.after)

-- a step is the same elsewhere
pub step-elsewhere : (site : Site) (blocks : Blocks) (l : Line) (r : Running)
    → step blocks l (moved site r) ≡ course_elsewhere site (step blocks l r)
step-elsewhere site blocks l r = step_in-elsewhere site (most_rounds r) blocks l r

-- and so is what is seen inside a step
abbrev pub glance_elsewhere : Site → Glance → Glance
glance_elsewhere site g = record g { after = moved site g.after }

glances_grown-elsewhere : (site : Site) (blocks : Blocks) (script : List Line) (r : Running)
    → glances_grown blocks script (moved site r) ≡ map (glance_elsewhere site) (glances_grown blocks script r)
glances_grown-elsewhere site blocks [] r = refl
glances_grown-elsewhere site blocks (l ∷ script) r =
    ap (λ (t : Tried). glance_of true l t ∷ glances_grown blocks script t.after) (once-elsewhere site blocks l.call r)
    ∙ ap (λ (gs : List Glance). glance_elsewhere site (glance_of true l (once blocks l.call r)) ∷ gs)
    (glances_grown-elsewhere site blocks script (once blocks l.call r).after)

glances_try-elsewhere : (site : Site) (blocks : Blocks) (l : Line) (t : Tried)
    → glances_try blocks l (record t { after = moved site t.after }) ≡ map (glance_elsewhere site) (glances_try blocks l t)
glances_try-elsewhere site blocks l t = by_wants t.wants
  where
    asked : List Glance
    asked = glance_of false l t ∷ glances_for blocks l t.reading t.after

    by_wants : (wants : Bool)
        → cond wants (glance_elsewhere site (glance_of false l t) ∷ glances_for blocks l t.reading (moved site t.after)) []
        ≡ map (glance_elsewhere site) (cond wants asked [])
    by_wants false = refl
    by_wants true = ap (λ (gs : List Glance). glance_elsewhere site (glance_of false l t) ∷ gs)
        (ap (glances_grown blocks t.after.grow) (marked_for-elsewhere site true l.call t.reading t.after)
        ∙ glances_grown-elsewhere site blocks t.after.grow (marked_for true l.call t.reading t.after))

glances_after-elsewhere : (site : Site) (x : Round) (next : Running → List Glance)
    → ((r : Running) → next (moved site r) ≡ map (glance_elsewhere site) (next r))
    → glances_after (round_elsewhere site x) next ≡ map (glance_elsewhere site) (glances_after x next)
glances_after-elsewhere site (Ends c) next same = refl
glances_after-elsewhere site (Again c) next same = same c.after

glances_in-elsewhere : (site : Site) (most : ℕ) (blocks : Blocks) (l : Line) (r : Running)
    → glances_in most blocks l (moved site r) ≡ map (glance_elsewhere site) (glances_in most blocks l r)
glances_in-elsewhere site zero blocks l r = refl
glances_in-elsewhere site (suc more) blocks l r =
    let later : Running → List Glance = glances_in more blocks l in
    ap (λ (t : Tried). glances_try blocks l t ++ glances_after (round blocks l (moved site r)) later)
    (once-elsewhere site blocks l.call r)
    ∙ ap (λ (gs : List Glance). gs ++ glances_after (round blocks l (moved site r)) later)
    (glances_try-elsewhere site blocks l (once blocks l.call r))
    ∙ ap (λ (x : Round). map (glance_elsewhere site) (glances_try blocks l (once blocks l.call r)) ++ glances_after x later)
    (round-elsewhere site blocks l r)
    ∙ ap (λ (gs : List Glance). map (glance_elsewhere site) (glances_try blocks l (once blocks l.call r)) ++ gs)
    (glances_after-elsewhere site (round blocks l r) later (glances_in-elsewhere site more blocks l))
    ∙ sym (map-append (glance_elsewhere site) (glances_try blocks l (once blocks l.call r)) (glances_after (round blocks l r) later))

pub glances-elsewhere : (site : Site) (blocks : Blocks) (l : Line) (r : Running)
    → glances blocks l (moved site r) ≡ map (glance_elsewhere site) (glances blocks l r)
glances-elsewhere site blocks l r = glances_in-elsewhere site (most_rounds r) blocks l r

-- and so is a run
pub whole-elsewhere : (site : Site) (blocks : Blocks) (lines : List Line) (r : Running)
    → course_of blocks lines (moved site r) ≡ course_elsewhere site (course_of blocks lines r)
whole-elsewhere site blocks [] r = refl
whole-elsewhere site blocks (l ∷ lines) r =
    ap (λ (c : Course). unless_over c (course_of blocks lines)) (step_in-elsewhere site (most_rounds r) blocks l r)
    ∙ over-elsewhere site (step blocks l r) (course_of blocks lines) (λ x. whole-elsewhere site blocks lines x)

-- so a run leaves its application where it lies; what is left of a run begins where the whole run began
pub run-lies : (blocks : Blocks) (lines : List Line) (r : Running)
    → (course_of blocks lines r).after.memory.window ≡ r.memory.window
run-lies blocks lines r =
    ap (λ (c : Course). c.after.memory.window) (whole-elsewhere r.memory.window blocks lines r)

pub run-left : (blocks : Blocks) (left lines : List Line) (now start : Running)
    → (course_of blocks left now).after ≡ (course_of blocks lines start).after → now.memory.window ≡ start.memory.window
run-left blocks left lines now start e =
    sym (run-lies blocks left now) ∙ ap (λ (r : Running). r.memory.window) e ∙ run-lies blocks lines start

-- and so do rounds, and the lines of a grow-zone script
rounds-lies : (most : ℕ) (blocks : Blocks) (l : Line) (r : Running)
    → (step_in most blocks l r).after.memory.window ≡ r.memory.window
rounds-lies most blocks l r =
    ap (λ (c : Course). c.after.memory.window) (step_in-elsewhere r.memory.window most blocks l r)

pub rounds-left : (left most : ℕ) (blocks : Blocks) (l : Line) (now start : Running)
    → (step_in left blocks l now).after ≡ (step_in most blocks l start).after → now.memory.window ≡ start.memory.window
rounds-left left most blocks l now start e =
    sym (rounds-lies left blocks l now) ∙ ap (λ (r : Running). r.memory.window) e ∙ rounds-lies most blocks l start

grown-lies : (blocks : Blocks) (script : List Line) (r : Running)
    → (grown blocks script r).after.memory.window ≡ r.memory.window
grown-lies blocks script r =
    ap (λ (c : Course). c.after.memory.window) (grown-elsewhere r.memory.window blocks script r)

pub grown-left : (blocks : Blocks) (left script : List Line) (now start : Running)
    → (grown blocks left now).after ≡ (grown blocks script start).after → now.memory.window ≡ start.memory.window
grown-left blocks left script now start e =
    sym (grown-lies blocks left now) ∙ ap (λ (r : Running). r.memory.window) e ∙ grown-lies blocks script start

-- and so is a launch
pub launched-elsewhere : (resources : Resources) (n : ℕ) (site : Site)
    → launched_with resources n site ≡ moved site (launched_with resources n nowhere)
launched-elsewhere resources n site = ap begun (preloaded-elsewhere site managers)
  where
    managers : Managers
    managers = record { memory = fresh_memory n nowhere; resources = resources }

    begun : Managers × Reads → Running
    begun opened = record {
      memory = opened.0.memory;
      resources = opened.0.resources;
      table = table_in (own_datum code_type (pos 0) resources);
      names = [];
      grow = [];
    }

-- a fresh zone of n bytes takes n bytes
pub sizes-fresh : (n : ℕ) → 272 ≤ n → sizes (fresh n) ≡ n
sizes-fresh n big = omega (arith, sizes-free (n - 272))

-- the course of an application that was launched anywhere
pub launched_course : (resources : Resources) (r : Running) (site : Site) (n : ℕ) (blocks : Blocks) (lines : List Line)
    → r ≡ launched_with resources n site
    → course_of blocks lines r ≡ course_elsewhere site (course_of blocks lines (launched_with resources n nowhere))
launched_course resources r site n blocks lines is =
    ap (course_of blocks lines) (is ∙ launched-elsewhere resources n site)
    ∙ whole-elsewhere site blocks lines (launched_with resources n nowhere)
