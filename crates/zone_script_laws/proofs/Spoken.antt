use Rattle.zone_script_laws.proofs.Cited.{◌≡◌, ℕ, Bool, true, false, List, [], ◌∷◌, refl, sym, ◌∙◌, ap, add-one, Option, Some, None, subst}
use Rattle.zone_script_laws.proofs.Cited.{cond-false, Told, NO_ERR, Call, HeapCall, ControlCall, ResourceCall, SegmentCall, Value, Letters}
use Rattle.zone_script_laws.proofs.Cited.{Number, Said, Makes, said_as, CallWord, sizes, Memory, served, Bindings, Running, Blocks, once}
use Rattle.zone_script_laws.proofs.Cited.{code_told, is_full, Course, Ends, step, step_in, continued, ended, asked_for, after_asking}
use Rattle.zone_script_laws.proofs.Cited.{names_given, number_given, course_of, unless_over, joined, Line, MoreMasters, NewHandle, NewPtr}
use Rattle.zone_script_laws.proofs.Cited.{HLock, HPurge, HUnlock, DisposePtr, Runs, asked_by, bound_by, bound_anew, said_of, States}
use Rattle.zone_script_laws.proofs.Cited.{AllDone}
use Rattle.mac_words.specs.declared.call.Call.TheVariants as call
use Rattle.mac_words.specs.declared.call.HeapCall.TheVariants as heap
use Rattle.mac_words.specs.declared.name.Label.{Label}
use Rattle.mac_words.specs.declared.call.ControlCall.TheVariants as control
use Rattle.mac_words.specs.declared.resource_call.ResourceCall.TheVariants as resource
use Rattle.mac_words.specs.declared.segment_call.SegmentCall.TheVariants as segment
use Rattle.script_text.specs.declared.script.Line.{Line as Step}
use Rattle.script_text.specs.declared.word.CallWord.TheVariants as word

-- A script whose steps state calls takes the steps of these calls.

-- what a call states
abbrev word_said : Said → CallWord
word_said (Makes w values) = w

abbrev first_letters : List Value → List ℕ
first_letters (Letters l ∷ values) = l
first_letters _ = []

abbrev second_number : List Value → ℕ
second_number (v ∷ Number n ∷ values) = n
second_number _ = 0

abbrev letters_said : Said → List ℕ
letters_said (Makes w values) = first_letters values

abbrev number_said : Said → ℕ
number_said (Makes w values) = second_number values

-- one try of a call, and the names after it, are those of a line
record Is (x : Line) (c : Call) : Type 0 where
  told : (blocks : Blocks) (r : Running) → (once blocks c r).told ≡ (served (asked_by x r.names) r.memory).0
  wants : (blocks : Blocks) (r : Running) → (once blocks c r).wants ≡ is_full (code_told (served (asked_by x r.names) r.memory).0)
  over : (blocks : Blocks) (r : Running) → (once blocks c r).over ≡ false
  memory : (blocks : Blocks) (r : Running) → (once blocks c r).after.memory ≡ (served (asked_by x r.names) r.memory).1
  bound : (blocks : Blocks) (r : Running) → (once blocks c r).after.names ≡ r.names
  names : (reply : Told) (b : Bindings) → names_given c (number_given reply) b ≡ bound_by x reply b

abbrev is_more_masters : CallWord → Bool
is_more_masters word.MoreMasters = true
is_more_masters _ = false

abbrev is_new_handle : CallWord → Bool
is_new_handle word.NewHandle = true
is_new_handle _ = false

abbrev is_new_pointer : CallWord → Bool
is_new_pointer word.NewPtr = true
is_new_pointer _ = false

abbrev is_lock : CallWord → Bool
is_lock word.HLock = true
is_lock _ = false

abbrev is_purge : CallWord → Bool
is_purge word.HPurge = true
is_purge _ = false

abbrev is_unlock : CallWord → Bool
is_unlock word.HUnlock = true
is_unlock _ = false

abbrev is_dispose : CallWord → Bool
is_dispose word.DisposePtr = true
is_dispose _ = false

other : {P : Type 0} (test : CallWord → Bool) (s t : Said) → s ≡ t → test (word_said s) ≡ false → test (word_said t) ≡ true → P
other test s t e fails passes = let f : false ≡ true = sym fails ∙ ap (λ u. test (word_said u)) e ∙ passes in cc

abbrev is_ours : CallWord → Bool
is_ours word.MoreMasters = true
is_ours word.NewHandle = true
is_ours word.NewPtr = true
is_ours word.HLock = true
is_ours word.HPurge = true
is_ours word.HUnlock = true
is_ours word.DisposePtr = true
is_ours _ = false

resource-other : (x : ResourceCall) → is_ours (word_said (said_as (call.Resource x))) ≡ false
resource-other resource.ResError = refl
resource-other x = refl

segment-other : (x : SegmentCall) → is_ours (word_said (said_as (call.Segment x))) ≡ false
segment-other (segment.LoadSeg id) = refl
segment-other x = refl

control-other : (x : ControlCall) → is_ours (word_said (said_as (call.Control x))) ≡ false
control-other control.ExitToShell = refl
control-other x = refl

-- the names after a call that binds none, and after one that binds a name
unbound : (c : HeapCall) (o : Option ℕ) (b : Bindings) → ((n : ℕ) → names_given (call.Heap c) (Some n) b ≡ b)
    → names_given (call.Heap c) o b ≡ b
unbound c None b none = refl
unbound c (Some n) b none = none n

handle-bound : (h : Label) (size : ℕ) (o : Option ℕ) (b : Bindings)
    → names_given (call.Heap (heap.NewHandle h size)) o b ≡ bound_anew h.0.items o b
handle-bound h size None b = refl
handle-bound h size (Some n) b = refl

pointer-bound : (p : Label) (size : ℕ) (o : Option ℕ) (b : Bindings)
    → names_given (call.Heap (heap.NewPtr p size)) o b ≡ bound_anew p.0.items o b
pointer-bound p size None b = refl
pointer-bound p size (Some n) b = refl

said-more_masters : (c : Call) → said_as c ≡ Makes word.MoreMasters [] → Is MoreMasters c
said-more_masters (call.Heap heap.MoreMasters) e = record {
  told = λ blocks r. refl;
  wants = λ blocks r. refl;
  over = λ blocks r. refl;
  memory = λ blocks r. refl;
  bound = λ blocks r. refl;
  names = λ reply b. unbound heap.MoreMasters (number_given reply) b (λ n. refl);
}
said-more_masters (call.Heap c) e = other is_more_masters (said_as (call.Heap c)) _ e refl refl
said-more_masters (call.Resource x) e = other is_ours (said_as (call.Resource x)) _ e (resource-other x) refl
said-more_masters (call.Segment x) e = other is_ours (said_as (call.Segment x)) _ e (segment-other x) refl
said-more_masters (call.Control x) e = other is_ours (said_as (call.Control x)) _ e (control-other x) refl

said-new_handle : (name : List ℕ) (size : ℕ) (c : Call) → said_as c ≡ Makes word.NewHandle (Letters name ∷ Number size ∷ [])
    → Is (NewHandle name size) c
said-new_handle name size (call.Heap (heap.NewHandle h n)) e =
    subst (λ l. Is (NewHandle l size) (call.Heap (heap.NewHandle h n))) (ap letters_said e)
    (subst (λ k. Is (NewHandle h.0.items k) (call.Heap (heap.NewHandle h n))) (ap number_said e) (record {
      told = λ blocks r. refl;
      wants = λ blocks r. refl;
      over = λ blocks r. refl;
      memory = λ blocks r. refl;
      bound = λ blocks r. refl;
      names = λ reply b. handle-bound h n (number_given reply) b;
    }))
said-new_handle name size (call.Heap c) e = other is_new_handle (said_as (call.Heap c)) _ e refl refl
said-new_handle name size (call.Resource x) e = other is_ours (said_as (call.Resource x)) _ e (resource-other x) refl
said-new_handle name size (call.Segment x) e = other is_ours (said_as (call.Segment x)) _ e (segment-other x) refl
said-new_handle name size (call.Control x) e = other is_ours (said_as (call.Control x)) _ e (control-other x) refl

said-new_pointer : (name : List ℕ) (size : ℕ) (c : Call) → said_as c ≡ Makes word.NewPtr (Letters name ∷ Number size ∷ [])
    → Is (NewPtr name size) c
said-new_pointer name size (call.Heap (heap.NewPtr h n)) e =
    subst (λ l. Is (NewPtr l size) (call.Heap (heap.NewPtr h n))) (ap letters_said e)
    (subst (λ k. Is (NewPtr h.0.items k) (call.Heap (heap.NewPtr h n))) (ap number_said e) (record {
      told = λ blocks r. refl;
      wants = λ blocks r. refl;
      over = λ blocks r. refl;
      memory = λ blocks r. refl;
      bound = λ blocks r. refl;
      names = λ reply b. pointer-bound h n (number_given reply) b;
    }))
said-new_pointer name size (call.Heap c) e = other is_new_pointer (said_as (call.Heap c)) _ e refl refl
said-new_pointer name size (call.Resource x) e = other is_ours (said_as (call.Resource x)) _ e (resource-other x) refl
said-new_pointer name size (call.Segment x) e = other is_ours (said_as (call.Segment x)) _ e (segment-other x) refl
said-new_pointer name size (call.Control x) e = other is_ours (said_as (call.Control x)) _ e (control-other x) refl

said-lock : (name : List ℕ) (c : Call) → said_as c ≡ Makes word.HLock (Letters name ∷ []) → Is (HLock name) c
said-lock name (call.Heap (heap.HLock h)) e = subst (λ l. Is (HLock l) (call.Heap (heap.HLock h))) (ap letters_said e) (record {
  told = λ blocks r. refl;
  wants = λ blocks r. refl;
  over = λ blocks r. refl;
  memory = λ blocks r. refl;
  bound = λ blocks r. refl;
  names = λ reply b. unbound (heap.HLock h) (number_given reply) b (λ n. refl);
})
said-lock name (call.Heap c) e = other is_lock (said_as (call.Heap c)) _ e refl refl
said-lock name (call.Resource x) e = other is_ours (said_as (call.Resource x)) _ e (resource-other x) refl
said-lock name (call.Segment x) e = other is_ours (said_as (call.Segment x)) _ e (segment-other x) refl
said-lock name (call.Control x) e = other is_ours (said_as (call.Control x)) _ e (control-other x) refl

said-purge : (name : List ℕ) (c : Call) → said_as c ≡ Makes word.HPurge (Letters name ∷ []) → Is (HPurge name) c
said-purge name (call.Heap (heap.HPurge h)) e = subst (λ l. Is (HPurge l) (call.Heap (heap.HPurge h))) (ap letters_said e) (record {
  told = λ blocks r. refl;
  wants = λ blocks r. refl;
  over = λ blocks r. refl;
  memory = λ blocks r. refl;
  bound = λ blocks r. refl;
  names = λ reply b. unbound (heap.HPurge h) (number_given reply) b (λ n. refl);
})
said-purge name (call.Heap c) e = other is_purge (said_as (call.Heap c)) _ e refl refl
said-purge name (call.Resource x) e = other is_ours (said_as (call.Resource x)) _ e (resource-other x) refl
said-purge name (call.Segment x) e = other is_ours (said_as (call.Segment x)) _ e (segment-other x) refl
said-purge name (call.Control x) e = other is_ours (said_as (call.Control x)) _ e (control-other x) refl

said-unlock : (name : List ℕ) (c : Call) → said_as c ≡ Makes word.HUnlock (Letters name ∷ []) → Is (HUnlock name) c
said-unlock name (call.Heap (heap.HUnlock h)) e = subst (λ l. Is (HUnlock l) (call.Heap (heap.HUnlock h))) (ap letters_said e) (record {
  told = λ blocks r. refl;
  wants = λ blocks r. refl;
  over = λ blocks r. refl;
  memory = λ blocks r. refl;
  bound = λ blocks r. refl;
  names = λ reply b. unbound (heap.HUnlock h) (number_given reply) b (λ n. refl);
})
said-unlock name (call.Heap c) e = other is_unlock (said_as (call.Heap c)) _ e refl refl
said-unlock name (call.Resource x) e = other is_ours (said_as (call.Resource x)) _ e (resource-other x) refl
said-unlock name (call.Segment x) e = other is_ours (said_as (call.Segment x)) _ e (segment-other x) refl
said-unlock name (call.Control x) e = other is_ours (said_as (call.Control x)) _ e (control-other x) refl

said-dispose : (name : List ℕ) (c : Call) → said_as c ≡ Makes word.DisposePtr (Letters name ∷ []) → Is (DisposePtr name) c
said-dispose name (call.Heap (heap.DisposePtr h)) e =
    subst (λ l. Is (DisposePtr l) (call.Heap (heap.DisposePtr h))) (ap letters_said e) (record {
      told = λ blocks r. refl;
      wants = λ blocks r. refl;
      over = λ blocks r. refl;
      memory = λ blocks r. refl;
      bound = λ blocks r. refl;
      names = λ reply b. unbound (heap.DisposePtr h) (number_given reply) b (λ n. refl);
    })
said-dispose name (call.Heap c) e = other is_dispose (said_as (call.Heap c)) _ e refl refl
said-dispose name (call.Resource x) e = other is_ours (said_as (call.Resource x)) _ e (resource-other x) refl
said-dispose name (call.Segment x) e = other is_ours (said_as (call.Segment x)) _ e (segment-other x) refl
said-dispose name (call.Control x) e = other is_ours (said_as (call.Control x)) _ e (control-other x) refl

said : (x : Line) (c : Call) → said_as c ≡ said_of x → Is x c
said MoreMasters c e = said-more_masters c e
said (NewHandle name size) c e = said-new_handle name size c e
said (NewPtr name size) c e = said-new_pointer name size c e
said (HLock name) c e = said-lock name c e
said (HPurge name) c e = said-purge name c e
said (HUnlock name) c e = said-unlock name c e
said (DisposePtr name) c e = said-dispose name c e

-- a call that is done ends its step with its first try
step-done : (blocks : Blocks) (l : Step) (r : Running) (x : Line) → Is x l.call
    → code_told (served (asked_by x r.names) r.memory).0 ≡ NO_ERR → step blocks l r ≡ ended l r (once blocks l.call r)
step-done blocks l r x is done =
    ap (λ k. step_in k blocks l r) (add-one (sizes r.memory.heap.zone))
    ∙ ap (λ t. continued t (step_in (sizes r.memory.heap.zone) blocks l))
    (cond-false (once blocks l.call r).wants
    (after_asking l (once blocks l.call r) (asked_for blocks l r (once blocks l.call r))) (Ends (ended l r (once blocks l.call r)))
    (is.wants blocks r ∙ ap is_full done))

-- what holds after the calls holds after the course of the steps, of which each was done
pub record Kept (holds : Memory → Bindings → Type 0) (course : Course) : Type 0 where
  pub done : AllDone course.lines
  pub goes_on : course.over ≡ false
  pub after : holds course.after.memory course.after.names

first-said : (s t : Said) (ss ts : List Said) → s ∷ ss ≡ t ∷ ts → s ≡ t
first-said s t ss ts e = ap head e
  where
    head : List Said → Said
    head [] = s
    head (u ∷ us) = u

others-said : (s t : Said) (ss ts : List Said) → s ∷ ss ≡ t ∷ ts → ss ≡ ts
others-said s t ss ts e = ap tail e
  where
    tail : List Said → List Said
    tail [] = []
    tail (u ∷ us) = us

pub course-kept : (lines : List Line) (steps : List Step) (blocks : Blocks) (r : Running) (holds : Memory → Bindings → Type 0)
    → States lines steps → Runs lines r.memory r.names holds → Kept holds (course_of blocks steps r)
course-kept [] [] blocks r holds e runs = record { done = tt; goes_on = refl; after = runs }
course-kept [] (l ∷ steps) blocks r holds e runs = absurd (cc)
course-kept (x ∷ lines) [] blocks r holds e runs = absurd (cc)
course-kept (x ∷ lines) (l ∷ steps) blocks r holds e runs =
    let is = said x l.call (first-said _ _ _ _ e) in
    let t = once blocks l.call r in
    let memory : (ended l r t).after.memory ≡ (served (asked_by x r.names) r.memory).1 = is.memory blocks r in
    let names : (ended l r t).after.names ≡ bound_by x (served (asked_by x r.names) r.memory).0 r.names =
    ap (λ b. names_given l.call (number_given t.told) b) (is.bound blocks r)
    ∙ is.names t.told r.names ∙ ap (λ u. bound_by x u r.names) (is.told blocks r) in
    let rest = course-kept lines steps blocks (ended l r t).after holds (others-said _ _ _ _ e)
    (subst (λ m. Runs lines m (ended l r t).after.names holds) (sym memory)
    (subst (λ b. Runs lines (served (asked_by x r.names) r.memory).1 b holds) (sym names) runs.1)) in
    subst (λ c. Kept holds (unless_over c (course_of blocks steps))) (sym (step-done blocks l r x is runs.0))
    (subst (λ c. Kept holds c)
    (sym (cond-false (ended l r t).over (ended l r t) (joined (ended l r t) (course_of blocks steps (ended l r t).after))
    (is.over blocks r)))
    (record { done = (ap code_told (is.told blocks r) ∙ runs.0, rest.done); goes_on = rest.goes_on; after = rest.after }))
