use Rattle.res_calls.proofs.Cited.{◌≡◌, ◌⊎◌, inl, inr, ℕ, ℤ, Bool, true, false, true≢false, not, ◌||◌, ◌&&◌, Option, Some, None, Result, Ok}
use Rattle.res_calls.proofs.Cited.{Err, List, [], ◌∷◌, ◌++◌, length, refl, sym, ◌∙◌, ap, cond, ◌==◌, nat_lt, nat_le, if◌then◌else◌, OsErr}
use Rattle.res_calls.proofs.Cited.{LOCKED, PROFILE, RES_ATTR, ADD_RES_FAILED, REMOVE_RES_FAILED, WRITE_PERMISSION, DUPLICATE_FILE}
use Rattle.res_calls.proofs.Cited.{DISK_FULL, Map, map_in, open_map, Split, place, Reference, is_preload, is_changed, is_protected}
use Rattle.res_calls.proofs.Cited.{new_reference, Memory, Resource, Known, new_inside, new_empty_inside, refill_inside, has_block}
use Rattle.res_calls.proofs.Cited.{resource_role, owned_as, Step, NewFilled, Release, Cast, walk, reads, read_new, read_again, refusal}
use Rattle.res_calls.proofs.Cited.{refusal_of, releases, refilled-is, refilled-read, refilled-refusal, File, OpenFile, Resources, Found}
use Rattle.res_calls.proofs.Cited.{opened, open_at, file_of, Managers, Answer, done, refused, flags_of, is_system, now_filled, now_empty}
use Rattle.res_calls.proofs.Cited.{now_refilled, fetch_as, Loaded, given, preload, Reads, on_found, on_open, loaded, open_as, open_fork}
use Rattle.res_calls.proofs.Cited.{open_unless, open_named, greatest_number, all_released, handles_of, closed_file, bars, released_at}
use Rattle.res_calls.proofs.Cited.{if_updated, on_updated, on_file, with_resources, update, written, bytes_held, most_files, new_file}
use Rattle.res_calls.proofs.Cited.{new_fork, with_files, create_named, on_known, added_to, on_removable, removed_from, stored_if}
use Rattle.res_calls.proofs.Cited.{detached_at, fetched}
use Rattle.res_calls.proofs.Walks.Steps.{map_steps}
use Rattle.heap_calls.specs.Purging.{is_resource as is_owned}
use Rattle.res_calls.specs.Fetch.{Fetched}
use Rattle.res_calls.proofs.Walks.Steps.{for_found, for_open, new_filled, new_empty, filled_again, fetch_steps_as}
use Rattle.res_calls.proofs.Walks.Steps.{fetched_steps, preload_steps, load_steps, fork_steps, unless_steps}
use Rattle.res_calls.proofs.Walks.Steps.{open_steps}
use Rattle.res_calls.proofs.Walks.Steps.{if_done, close_steps, on_handle, release_steps, detach_steps}
use Rattle.res_calls.proofs.Walks.Steps.{for_known, add_steps, remove_steps}

-- Each call's answer goes by its steps.

-- a refusal: no step was taken, or one that was itself refused
abbrev pub Refuses : List Step → Memory → OsErr → Type 0
Refuses steps m code = (steps ≡ []) ⊎ ((step : Step) × (steps ≡ step ∷ []) × (refusal step m ≡ Some code))

-- an answer goes by steps: what they make of the heap and what they read is its own, the files stay but for a call that
-- writes, and where it is refused it read nothing and left the resources
pub record Goes {T : Type 0} (writing : Bool) (steps : List Step) (s : Managers) (a : Answer T) : Type 0 where
  pub heap : a.after.memory ≡ walk steps s.memory
  pub read : a.reads ≡ reads steps s.memory
  pub files : writing ≡ false → a.after.resources.files ≡ s.resources.files
  pub refuses : (code : OsErr) → a.reply ≡ Err code
      → (a.reads ≡ []) × (a.after.resources ≡ s.resources) × Refuses steps s.memory code

-- what a call without a value gives
abbrev pub all_done : Unit {0}
all_done = tt

-- a call that leaves the heap, and one that is refused
pub done-goes : {T : Type 0} {w : Bool} (value : T) (s after : Managers) → after.memory ≡ s.memory
    → after.resources.files ≡ s.resources.files → Goes w [] s (done value after)
done-goes value s after memory files =
    record { heap = memory; read = refl; files = λ quiet. files; refuses = λ code e. cc }

-- and one that writes a file
written-goes : {T : Type 0} (value : T) (s after : Managers) → after.memory ≡ s.memory
    → Goes true [] s (done value after)
written-goes value s after memory =
    record { heap = memory; read = refl; files = λ quiet. absurd (true≢false quiet); refuses = λ code e. cc }

pub same-goes : {T : Type 0} {w : Bool} (value : T) (s : Managers) → Goes w [] s (done value s)
same-goes value s = done-goes value s s refl refl

pub refused-goes : {T : Type 0} {w : Bool} (code : OsErr) (s : Managers) → Goes {T = T} w [] s (refused code s)
refused-goes code s =
    record { heap = refl; read = refl; files = λ quiet. refl; refuses = λ c e. (refl, refl, inl refl) }

pub found-goes : {T : Type 0} {w : Bool} (found : Option Found) (s : Managers) (answer : Found → Answer T)
    (steps : Found → List Step) → ((at : Found) → Goes w (steps at) s (answer at))
    → Goes w (for_found found steps) s (on_found found s answer)
found-goes None s answer steps each = refused-goes _ s
found-goes (Some at) s answer steps each = each at

-- where none of them takes a step
pub found-same : {T : Type 0} {w : Bool} (found : Option Found) (s : Managers) (answer : Found → Answer T)
    → ((at : Found) → Goes w [] s (answer at)) → Goes w [] s (on_found found s answer)
found-same None s answer each = refused-goes _ s
found-same (Some at) s answer each = each at

pub open-same : {T : Type 0} {w : Bool} (o : Option (Split OpenFile)) (s : Managers)
    (answer : Split OpenFile → Answer T) → ((at : Split OpenFile) → Goes w [] s (answer at)) → Goes w [] s (on_open o s answer)
open-same None s answer each = refused-goes _ s
open-same (Some at) s answer each = each at

pub open-goes : {T : Type 0} {w : Bool} (o : Option (Split OpenFile)) (s : Managers)
    (answer : Split OpenFile → Answer T) (steps : Split OpenFile → List Step) → ((at : Split OpenFile) → Goes w (steps at) s (answer at))
    → Goes w (for_open o steps) s (on_open o s answer)
open-goes None s answer steps each = refused-goes _ s
open-goes (Some at) s answer steps each = each at

-- a new handle
filled-goes : (at : Found) (s : Managers) (x : Result ℕ OsErr × Memory)
    → new_inside (resource_role (is_system at.file.here)) (flags_of at.reference.here) at.reference.here.stored.datum
    s.memory ≡ x
    → Goes false (new_filled at ∷ []) s (now_filled at x s)
filled-goes at s (Err why, m) is = record {
  heap = ap (λ (y : Result ℕ OsErr × Memory). y.1) (sym is);
  read = ap (λ (y : Result ℕ OsErr × Memory). read_new at.reference.here.stored.datum y.0 ++ []) (sym is);
  files = λ quiet. refl;
  refuses = λ code e. (
    refl,
    refl,
    inr (
      new_filled at,
      refl,
      ap (λ (y : Result ℕ OsErr × Memory). refusal_of y.0) is ∙ ap (refusal_of {T = Fetched}) e,
    ),
  );
}
filled-goes at s (Ok h, m) is = record {
  heap = ap (λ (y : Result ℕ OsErr × Memory). y.1) (sym is);
  read = ap (λ (y : Result ℕ OsErr × Memory). read_new at.reference.here.stored.datum y.0 ++ []) (sym is);
  files = λ quiet. refl;
  refuses = λ code e. cc;
}

emptied-goes : (at : Found) (s : Managers) (x : Result ℕ OsErr × Memory)
    → new_empty_inside (resource_role (is_system at.file.here)) s.memory ≡ x
    → Goes false (new_empty at ∷ []) s (now_empty at x s)
emptied-goes at s (Err why, m) is = record {
  heap = ap (λ (y : Result ℕ OsErr × Memory). y.1) (sym is);
  read = refl;
  files = λ quiet. refl;
  refuses = λ code e. (
    refl,
    refl,
    inr (
      new_empty at,
      refl,
      ap (λ (y : Result ℕ OsErr × Memory). refusal_of y.0) is ∙ ap (refusal_of {T = Fetched}) e,
    ),
  );
}
emptied-goes at s (Ok h, m) is = record {
  heap = ap (λ (y : Result ℕ OsErr × Memory). y.1) (sym is);
  read = refl;
  files = λ quiet. refl;
  refuses = λ code e. cc;
}

-- an empty handle is filled
refilled-goes : (at : Found) (h : ℕ) (s : Managers) → has_block h s.memory.heap ≡ false
    → (x : Result (Unit {0}) OsErr × Memory)
    → refill_inside h (flags_of at.reference.here) at.reference.here.stored.datum s.memory ≡ x
    → Goes false (filled_again at h ∷ []) s (now_refilled at h x s)
refilled-goes at h s none (Err why, m) is = record {
  heap = ap (λ (y : Result (Unit {0}) OsErr × Memory). y.1) (sym is)
      ∙ sym (refilled-is h (flags_of at.reference.here) at.reference.here.stored.datum s.memory none);
  read = ap (λ (y : Result (Unit {0}) OsErr × Memory). read_again h at.reference.here.stored.datum y.0 ++ []) (sym is)
      ∙ ap (λ (read : Reads). read ++ [])
      (sym (refilled-read h (flags_of at.reference.here) at.reference.here.stored.datum s.memory none));
  files = λ quiet. refl;
  refuses = λ code e. (
    refl,
    refl,
    inr (
      filled_again at h,
      refl,
      refilled-refusal h (flags_of at.reference.here) at.reference.here.stored.datum s.memory none
          ∙ ap (λ (y : Result (Unit {0}) OsErr × Memory). refusal_of y.0) is ∙ ap (refusal_of {T = Fetched}) e,
    ),
  );
}
refilled-goes at h s none (Ok value, m) is = record {
  heap = ap (λ (y : Result (Unit {0}) OsErr × Memory). y.1) (sym is)
      ∙ sym (refilled-is h (flags_of at.reference.here) at.reference.here.stored.datum s.memory none);
  read = ap (λ (y : Result (Unit {0}) OsErr × Memory). read_again h at.reference.here.stored.datum y.0 ++ []) (sym is)
      ∙ ap (λ (read : Reads). read ++ [])
      (sym (refilled-read h (flags_of at.reference.here) at.reference.here.stored.datum s.memory none));
  files = λ quiet. refl;
  refuses = λ code e. cc;
}

-- and one that has a block stays
again-goes : (at : Found) (h : ℕ) (s : Managers) (t : Bool) → has_block h s.memory.heap ≡ t
    → Goes false (filled_again at h ∷ []) s (cond (not t)
    (now_refilled at h (refill_inside h (flags_of at.reference.here) at.reference.here.stored.datum s.memory) s)
    (done (record { handle = h; read = 0 }) s))
again-goes at h s true e = record {
  heap = sym (ap (λ (t : Bool). cond t s.memory
      (refill_inside h (flags_of at.reference.here) at.reference.here.stored.datum s.memory).1) e);
  read = sym (ap (λ (t : Bool). cond t [] (read_again h at.reference.here.stored.datum
      (refill_inside h (flags_of at.reference.here) at.reference.here.stored.datum s.memory).0) ++ []) e);
  files = λ quiet. refl;
  refuses = λ code e. cc;
}
again-goes at h s false e = refilled-goes at h s e
    (refill_inside h (flags_of at.reference.here) at.reference.here.stored.datum s.memory) refl

-- a fetch
pub fetch-goes : (loading : Bool) (at : Found) (handle : Option ℕ) (s : Managers)
    → Goes false (fetch_steps_as loading at handle) s (fetch_as loading at handle s)
fetch-goes true at None s = filled-goes at s (new_inside (resource_role (is_system at.file.here))
    (flags_of at.reference.here) at.reference.here.stored.datum s.memory) refl
fetch-goes false at None s =
    emptied-goes at s (new_empty_inside (resource_role (is_system at.file.here)) s.memory) refl
fetch-goes true at (Some h) s = again-goes at h s (has_block h s.memory.heap) refl
fetch-goes false at (Some h) s = same-goes _ s

pub fetched-goes : (found : Option Found) (s : Managers) → Goes false (fetched_steps found s) s (fetched found s)
fetched-goes found s = found-goes found s _ _ (λ at. fetch-goes s.resources.loading at at.reference.here.handle s)

-- what an opening loads goes by its steps
pub record Loads (steps : List Step) (m : Memory) (l : Loaded) : Type 0 where
  pub heap : l.memory ≡ walk steps m
  pub read : l.reads ≡ reads steps m

pub given-memory : (x : Reference) (y : Result ℕ OsErr × Memory) → (given x y).memory ≡ y.1
given-memory x (Err code, m) = refl
given-memory x (Ok h, m) = refl

given-reads : (x : Reference) (y : Result ℕ OsErr × Memory) → (given x y).reads ≡ read_new x.stored.datum y.0
given-reads x (Err code, m) = refl
given-reads x (Ok h, m) = refl

preload-loads : (references : List Reference) (m : Memory)
    → Loads (preload_steps references) m (preload references m)
preload-loads [] m = record { heap = refl; read = refl }
preload-loads (x ∷ references) m = by_bit (λ n. preload-loads references n) (is_preload x)
  where
    new : Result ℕ OsErr × Memory
    new = new_inside Resource (flags_of x) x.stored.datum m

    one : Bool → Loaded
    one t = if t then given x new else record { references = x ∷ []; memory = m; reads = [] }

    by_bit : ((n : Memory) → Loads (preload_steps references) n (preload references n)) → (t : Bool)
        → Loads (if t then NewFilled Resource (flags_of x) x.stored.datum ∷ preload_steps references
        else preload_steps references) m (record {
          references = (one t).references ++ (preload references (one t).memory).references;
          memory = (preload references (one t).memory).memory;
          reads = (one t).reads ++ (preload references (one t).memory).reads;
        })
    by_bit behind true =
        let later = behind new.1 in
        let same = given-memory x new in
        record {
          heap = ap (λ (n : Memory). (preload references n).memory) same ∙ later.heap;
          read = ap (λ (n : Memory). (given x new).reads ++ (preload references n).reads) same
              ∙ ap (λ (read : Reads). read ++ (preload references new.1).reads) (given-reads x new)
              ∙ ap (λ (read : Reads). read_new x.stored.datum new.0 ++ read) later.read;
        }
    by_bit behind false = let later = behind m in record { heap = later.heap; read = later.read }

pub loaded-loads : (f : OpenFile) (s : Managers) → Loads (load_steps f.map.references s) s.memory (loaded f s)
loaded-loads f s = by_loading s.resources.loading
  where
    by_loading : (t : Bool) → Loads (if t then preload_steps f.map.references else []) s.memory
        (if t then preload f.map.references s.memory
        else record { references = f.map.references; memory = s.memory; reads = [] })
    by_loading true = preload-loads f.map.references s.memory
    by_loading false = record { heap = refl; read = refl }

opened-goes : (f : OpenFile) (s : Managers) → Goes false (load_steps f.map.references s) s (open_as f s)
opened-goes f s = let l = loaded-loads f s in
    record { heap = l.heap; read = l.read; files = λ quiet. refl; refuses = λ code e. cc }

map-goes : (i : ℕ) (read : Result Map OsErr) (s : Managers) → Goes false (map_steps read s) s (open_map i read s)
map-goes i (Err code) s = refused-goes code s
map-goes i (Ok read) s = opened-goes (opened s.resources.next (Some i) read) s

fork-goes : (i : ℕ) (fork : List ℕ) (s : Managers) → Goes false (fork_steps fork s) s (open_fork i fork s)
fork-goes i fork s = by_number (nat_lt greatest_number s.resources.next)
  where
    by_number : (full : Bool) → Goes false (if full then [] else map_steps (map_in fork) s) s
        (if full then refused PROFILE s else open_map i (map_in fork) s)
    by_number true = refused-goes _ s
    by_number false = map-goes i (map_in fork) s

unless-goes : (at : Split File) (o : Option (Split OpenFile)) (s : Managers)
    → Goes false (unless_steps at o s) s (open_unless at o s)
unless-goes at (Some f) s = same-goes _ s
unless-goes at None s = fork-goes (place at) at.here.fork s

pub named-goes : (o : Option (Split File)) (s : Managers) → Goes false (open_steps o s) s (open_named o s)
named-goes None s = refused-goes _ s
named-goes (Some at) s = unless-goes at (open_at (place at) s.resources) s

-- handles that are released in order
releases-walk : (handles : List ℕ) (m : Memory) → all_released handles m ≡ walk (releases handles) m
releases-walk [] m = refl
releases-walk (h ∷ handles) m = releases-walk handles _

releases-reads : (handles : List ℕ) (m : Memory) → [] ≡ reads (releases handles) m
releases-reads [] m = refl
releases-reads (h ∷ handles) m = releases-reads handles _

updated-closes : (o : Option Resources) (at : Split OpenFile) (s : Managers)
    → Goes true (if_done o (releases (handles_of at.here.map.references))) s
    (if_updated o s (λ r. done all_done (closed_file at r s)))
updated-closes None at s = refused-goes _ s
updated-closes (Some r) at s = record {
  heap = releases-walk (handles_of at.here.map.references) s.memory;
  read = releases-reads (handles_of at.here.map.references) s.memory;
  files = λ quiet. absurd (true≢false quiet);
  refuses = λ code e. cc;
}

pub close-goes : (n : ℕ) (at : Split OpenFile) (s : Managers)
    → Goes true (close_steps n s at) s (if n == 0 then refused PROFILE s
    else on_updated at s (λ r. done all_done (closed_file at r s)))
close-goes n at s = by_number (n == 0)
  where
    steps : List Step
    steps = if_done (update s.memory.heap at s.resources) (releases (handles_of at.here.map.references))

    by_number : (t : Bool) → Goes true (if t then [] else steps) s
        (if t then refused PROFILE s else on_updated at s (λ r. done all_done (closed_file at r s)))
    by_number true = refused-goes _ s
    by_number false = updated-closes (update s.memory.heap at s.resources) at s

-- an update takes no step, and so does a file that is made
updated-goes : (o : Option Resources) (s : Managers)
    → Goes true [] s (if_updated o s (λ r. done all_done (with_resources r s)))
updated-goes None s = refused-goes _ s
updated-goes (Some r) s = written-goes all_done s _ refl

pub update-goes : (n : ℕ) (at : Split OpenFile) (s : Managers)
    → Goes true [] s (if n == 0 then done all_done s
    else on_updated at s (λ r. done all_done (with_resources r s)))
update-goes n at s = by_number (n == 0)
  where
    by_number : (t : Bool) → Goes true [] s (if t then done all_done s
        else on_updated at s (λ r. done all_done (with_resources r s)))
    by_number true = same-goes all_done s
    by_number false = updated-goes (update s.memory.heap at s.resources) s

pub create-goes : (name : List ℕ) (o : Option (Split File)) (s : Managers)
    → Goes true [] s (create_named name o s)
create-goes name None s = by_count (nat_le most_files (length s.resources.files))
  where
    by_count : (full : Bool) → Goes true [] s (if full then refused DISK_FULL s
        else done all_done (with_files (s.resources.files ++ new_file name ∷ []) s))
    by_count true = refused-goes _ s
    by_count false = written-goes all_done s _ refl
create-goes name (Some at) s = by_fork (length at.here.fork == 0)
  where
    by_fork : (empty : Bool)
        → Goes true [] s (if empty then done all_done (with_files (written (place at) new_fork s.resources.files) s)
        else refused DUPLICATE_FILE s)
    by_fork true = written-goes all_done s _ refl
    by_fork false = refused-goes _ s

-- a resource's handle that is released, or detached
released_at-goes : (at : Found) (handle : Option ℕ) (s : Managers)
    → Goes false (on_handle handle Release) s (done all_done (released_at at handle s))
released_at-goes at None s = same-goes all_done s
released_at-goes at (Some h) s = record { heap = refl; read = refl; files = λ quiet. refl; refuses = λ code e. cc }

detached_at-goes : (at : Found) (handle : Option ℕ) (s : Managers)
    → Goes false (on_handle handle (Cast (owned_as false))) s (done all_done (detached_at at handle s))
detached_at-goes at None s = same-goes all_done s
detached_at-goes at (Some h) s = record { heap = refl; read = refl; files = λ quiet. refl; refuses = λ code e. cc }

pub release-goes : (handle : Option ℕ) (at : Found) (s : Managers)
    → Goes false (release_steps handle s at) s (if bars handle s.memory then refused LOCKED s
    else if is_changed at.reference.here then done all_done s else done all_done (released_at at handle s))
release-goes handle at s = by_tests (bars handle s.memory) (is_changed at.reference.here)
  where
    by_tests : (busy changed : Bool)
        → Goes false (if busy then [] else if changed then [] else on_handle handle Release) s
        (if busy then refused LOCKED s else if changed then done all_done s
        else done all_done (released_at at handle s))
    by_tests true changed = refused-goes _ s
    by_tests false true = same-goes all_done s
    by_tests false false = released_at-goes at handle s

pub detach-goes : (handle : Option ℕ) (at : Found) (s : Managers)
    → Goes false (detach_steps handle at) s (if is_changed at.reference.here then refused RES_ATTR s
    else done all_done (detached_at at handle s))
detach-goes handle at s = by_change (is_changed at.reference.here)
  where
    by_change : (changed : Bool) → Goes false (if changed then [] else on_handle handle (Cast (owned_as false))) s
        (if changed then refused RES_ATTR s else done all_done (detached_at at handle s))
    by_change true = refused-goes _ s
    by_change false = detached_at-goes at handle s

-- a handle of the heap
pub known-goes : {T : Type 0} {w : Bool} (x : Result Known OsErr) (s : Managers) (answer : Known → Answer T)
    (steps : Known → List Step) → ((k : Known) → Goes w (steps k) s (answer k))
    → Goes w (for_known x steps) s (on_known x s answer)
known-goes (Err code) s answer steps each = refused-goes _ s
known-goes (Ok k) s answer steps each = each k

-- a handle that becomes a resource's, and one of a resource that is removed
added-goes : (at : Split OpenFile) (new : Reference) (h : ℕ) (s : Managers)
    → Goes false (Cast (owned_as true) h ∷ []) s (done all_done (added_to at new h s))
added-goes at new h s = record { heap = refl; read = refl; files = λ quiet. refl; refuses = λ code e. cc }

pub add-goes : (kind : ℕ) (id : ℤ) (text : List ℕ) (s : Managers) (k : Known)
    → Goes false (add_steps s k) s
    (if is_owned k.role || not (has_block k.number s.memory.heap) then refused ADD_RES_FAILED s
    else if s.resources.current == 0 then refused WRITE_PERMISSION s
    else on_file s.resources.current s (λ at.
    done all_done (added_to at (new_reference kind id text k.number) k.number s)))
add-goes kind id text s k =
    by_tests (is_owned k.role || not (has_block k.number s.memory.heap)) (s.resources.current == 0)
  where
    cast_in : Split OpenFile → List Step
    cast_in at = Cast (owned_as true) k.number ∷ []

    adding : Split OpenFile → Answer (Unit {0})
    adding at = done all_done (added_to at (new_reference kind id text k.number) k.number s)

    by_tests : (bad system : Bool)
        → Goes false (if bad then [] else if system then [] else for_open (file_of s.resources.current s.resources)
        cast_in) s
        (if bad then refused ADD_RES_FAILED s else if system then refused WRITE_PERMISSION s
        else on_file s.resources.current s adding)
    by_tests true system = refused-goes _ s
    by_tests false true = refused-goes _ s
    by_tests false false = open-goes (file_of s.resources.current s.resources) s adding cast_in
        (λ at. added-goes at (new_reference kind id text k.number) k.number s)

removed-goes : (at : Found) (h : ℕ) (s : Managers)
    → Goes false (Cast (owned_as false) h ∷ []) s (done all_done (removed_from at h s))
removed-goes at h s = record { heap = refl; read = refl; files = λ quiet. refl; refuses = λ code e. cc }

pub removable-goes : {T : Type 0} {w : Bool} (found : Option Found) (s : Managers) (answer : Found → Answer T)
    (steps : Found → List Step) → ((at : Found) → Goes w (steps at) s (answer at))
    → Goes w (for_found found steps) s (on_removable found s answer)
removable-goes None s answer steps each = refused-goes _ s
removable-goes (Some at) s answer steps each = each at

pub remove-goes : (s : Managers) (k : Known) (at : Found)
    → Goes false (remove_steps s k at) s (if is_system at.file.here then refused WRITE_PERMISSION s
    else if not (at.file.here.number == s.resources.current) || is_protected at.reference.here
    then refused REMOVE_RES_FAILED s else done all_done (removed_from at k.number s))
remove-goes s k at = by_tests (is_system at.file.here)
    (not (at.file.here.number == s.resources.current) || is_protected at.reference.here)
  where
    by_tests : (system kept : Bool)
        → Goes false (if system then [] else if kept then [] else Cast (owned_as false) k.number ∷ []) s
        (if system then refused WRITE_PERMISSION s else if kept then refused REMOVE_RES_FAILED s
        else done all_done (removed_from at k.number s))
    by_tests true kept = refused-goes _ s
    by_tests false true = refused-goes _ s
    by_tests false false = removed-goes at k.number s

-- calls on a resource that leave the heap
pub changeable-goes : {T : Type 0} {w : Bool} (at : Found) (s : Managers) (a : Answer T) → Goes w [] s a
    → Goes w [] s (if is_system at.file.here then refused WRITE_PERMISSION s
    else if is_protected at.reference.here then refused RES_ATTR s else a)
changeable-goes {T} {w} at s a goes = by_tests (is_system at.file.here) (is_protected at.reference.here)
  where
    by_tests : (system kept : Bool)
        → Goes w [] s (if system then refused WRITE_PERMISSION s else if kept then refused RES_ATTR s else a)
    by_tests true kept = refused-goes _ s
    by_tests false true = refused-goes _ s
    by_tests false false = goes

stored-goes : (bytes : Option (List ℕ)) (at : Found) (s : Managers)
    → Goes false [] s (done all_done (stored_if bytes at s))
stored-goes None at s = same-goes all_done s
stored-goes (Some bytes) at s = done-goes all_done s _ refl refl

pub write-goes : (handle : Option ℕ) (at : Found) (s : Managers)
    → Goes false [] s (if is_changed at.reference.here && not (is_protected at.reference.here)
    then done all_done (stored_if (bytes_held handle s.memory.heap) at s) else done all_done s)
write-goes handle at s = by_test (is_changed at.reference.here && not (is_protected at.reference.here))
  where
    by_test : (t : Bool) → Goes false [] s
        (if t then done all_done (stored_if (bytes_held handle s.memory.heap) at s) else done all_done s)
    by_test true = stored-goes (bytes_held handle s.memory.heap) at s
    by_test false = same-goes all_done s
