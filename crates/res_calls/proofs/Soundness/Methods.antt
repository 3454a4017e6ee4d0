use Rattle.res_calls.proofs.Cited.{◌≡◌, ℕ, ◌+◌, ◌<◌, Bool, true, false, ◌==◌, List, [], ◌∷◌, length, map, refl, sym, ◌∙◌, ap, arith, subst}
use Rattle.res_calls.proofs.Cited.{Option, Some, None, Result, Ok, Err, eq-eqb, is_some, option_map, OnOk, OnErr, IsErr, IfSome, slice_get}
use Rattle.res_calls.proofs.Cited.{bytes_eq, AllocError, NO_ERR, FILE_NOT_FOUND, PROFILE, RES_FILE_NOT_FOUND, Memory, fresh_memory, Gone}
use Rattle.res_calls.proofs.Cited.{Refusal, Code, HostMemory, Split, split, place, Map, found-place, found-none, get-inside, File, OpenFile}
use Rattle.res_calls.proofs.Cited.{Resources, Found, file_of, opened, Managers, Answer, Loaded, done, map_in, loaded_if, with_loaded}
use Rattle.res_calls.proofs.Cited.{resource_of, IsAnswered, IsFetched, IsUnread, IsLoadedFirst, managers, found_at, chained, WantsHost}
use Rattle.res_calls.proofs.Cited.{StopsFirst, given_to, Sound, stored_in, filed_in, view_file, view_open, resources_of, Unread, Spot}
use denote.RawPtr.{null_ptr}
use Rattle.res_calls.specs.Fetch as fetch
use Rattle.res_calls.specs.Rows as rows
use Rattle.res_calls.specs.Changing as changing
use Rattle.res_calls.specs.declared.fetched.Fetched.{Fetched}
use Rattle.res_calls.specs.declared.files.File.{File as StoredFile}
use Rattle.res_calls.specs.declared.files.OpenFile.{OpenFile as StoredOpenFile}
use Rattle.res_calls.proofs.Standing.{place_seen, some_of}
use Rattle.res_calls.proofs.Owning.Places.{Stands}
use Rattle.res_calls.proofs.Soundness.References.{loaded-keeps, given-keep}
use Rattle.res_calls.proofs.Soundness.Forks.{Fresh, map-fresh}
use Rattle.res_calls.proofs.Soundness.Changes.{sound-file, sound-opened}
use Rattle.res_calls.proofs.Soundness.Calls.{Sound_in, fetch_sound, update_res_file_sound, create_res_file_sound}
use Rattle.res_calls.proofs.Soundness.Laws.{answered_sound, fresh_sound}

-- What holds of the open files, as the methods of `Resources` leave it.

-- what is found in a place stands there
there-stands : (at : Spot) (chain : List OpenFile) (f : Found) → found_at at chain ≡ Some f → Stands chain f
there-stands at chain f e = let seen = place_seen at chain f e in
    record { file = seen.file.whole; reference = seen.reference.whole }

-- a call on the resource of a handle, which leaves other open files in the resources
pub answered_in : {T V : Type 0} (seen : V → T) (handle : Option ℕ) (call : Managers → Found → Answer T)
    → ((s : Managers) (f : Found) → resource_of handle s.resources ≡ Some f → Sound s.resources
    → Sound (call s f).after.resources)
    → (old new : List StoredOpenFile) (r now : Resources) (at : Spot) (m after : Memory) (result : Result V Refusal)
    → Sound (chained old r) → chained old r ≡ now → found_at at now.chain ≡ resource_of handle now
    → is_some (found_at at now.chain) ≡ true
    → ((f : Found) → found_at at (map view_open old) ≡ Some f
    → IsAnswered seen (call (managers (chained old r) m) f) result (managers (chained new r) after))
    → (result ≡ Err HostMemory → map view_open new ≡ map view_open old) → Sound (chained new r)
answered_in seen handle call keeps old new r now at m after result sound is found there answer kept =
    let here = subst (λ (q : Resources). found_at at q.chain ≡ resource_of handle q) (sym is) found in
    let f = some_of (found_at at (map view_open old))
    (ap (λ (q : Resources). is_some (found_at at q.chain)) is ∙ there) in
    let s : Managers = managers (chained old r) m in
    answered_sound seen (call s f.0) result (chained old r) (chained new r) after sound
    (keeps s f.0 (sym here ∙ f.1) sound) (answer f.0 f.1)
    (λ e. ap (λ (chain : List OpenFile). record r { chain = chain }) (kept e))

-- some memory, for a call that asks for none
pub no_memory : Memory
no_memory = fresh_memory 0 (record { home = null_ptr; window = record { at = 0; len = 0 } })

-- an update, where all of it or nothing is stored
pub updated_in : (n : ℕ) (r : Resources) (m : Memory) (files newer : List StoredFile) (chain new : List StoredOpenFile)
    (result : Result (Unit {0}) Refusal) → Sound (stored_in files chain r)
    → IsAnswered (λ (u : Unit {0}). u) (rows.update_res_file n (managers (stored_in files chain r) m)) result
    (managers (stored_in newer new r) m)
    → (IsErr result → map view_file newer ≡ map view_file files)
    → (IsErr result → map view_open new ≡ map view_open chain) → Sound (stored_in newer new r)
updated_in n r m files newer chain new result sound answer kept left =
    answered_sound (λ (u : Unit {0}). u) (rows.update_res_file n (managers (stored_in files chain r) m)) result
    (stored_in files chain r) (stored_in newer new r) m sound
    (update_res_file_sound n (managers (stored_in files chain r) m) sound) answer
    (λ e. let failed : IsErr result = subst (λ (o : Result (Unit {0}) Refusal). IsErr o) (sym e) refl in
    ap (λ (l : List File). record r { files = l; chain = map view_open new }) (kept failed)
    ∙ ap (λ (l : List OpenFile). record r { files = map view_file files; chain = l }) (left failed))

-- a file is made, or gets a fork
pub created_in : (name : List ℕ) (r : Resources) (files newer : List StoredFile) (result : Result (Unit {0}) Refusal)
    → Sound (filed_in files r)
    → IsAnswered (λ (u : Unit {0}). u) (changing.create_res_file name (managers (filed_in files r) no_memory)) result
    (managers (filed_in newer r) no_memory) → (IsErr result → newer ≡ files) → Sound (filed_in newer r)
created_in name r files newer result sound answer kept =
    answered_sound (λ (u : Unit {0}). u) (changing.create_res_file name (managers (filed_in files r) no_memory)) result
    (filed_in files r) (filed_in newer r) no_memory sound
    (create_res_file_sound name (managers (filed_in files r) no_memory) sound) answer
    (λ e. ap (λ (l : List StoredFile). filed_in l r)
    (kept (subst (λ (o : Result (Unit {0}) Refusal). IsErr o) (sym e) refl)))

-- a fetch
unread-sound : (answer : Answer fetch.Fetched) (refusal : Refusal) (reading : Option ℕ) (old new : Resources)
    (after : Memory) → Sound old → Sound answer.after.resources
    → IsUnread answer refusal reading (managers new after) → (refusal ≡ HostMemory → new ≡ old) → Sound new
unread-sound answer (Code code) reading old new after sound left is kept = subst Sound_in is.2 left
unread-sound answer HostMemory reading old new after sound left is kept = subst Sound (sym (kept refl)) sound

fetched-sound : (answer : Answer fetch.Fetched) (result : Result Fetched Unread) (old new : Resources)
    (after : Memory) → Sound old → Sound answer.after.resources → IsFetched answer result (managers new after)
    → (WantsHost result → new ≡ old) → Sound new
fetched-sound answer (Ok f) old new after sound left is kept = subst Sound_in is.1 left
fetched-sound answer (Err u) old new after sound left is kept =
    unread-sound answer u.refusal u.reading old new after sound left is kept

pub fetched_in : (old new : List StoredOpenFile) (r now : Resources) (at : Spot) (loading : Bool) (m after : Memory)
    (result : Result Fetched Unread) → Sound (chained old r) → chained old r ≡ now
    → is_some (found_at at now.chain) ≡ true
    → ((r : Resources) (f : Found) → found_at at (map view_open old) ≡ Some f
    → IsFetched (fetch.fetch loading f (managers (chained old r) m)) result (managers (chained new r) after))
    → (WantsHost result → map view_open new ≡ map view_open old) → Sound (chained new r)
fetched_in old new r now at loading m after result sound is there answer kept =
    let f = some_of (found_at at (map view_open old))
    (ap (λ (q : Resources). is_some (found_at at q.chain)) is ∙ there) in
    let s : Managers = managers (chained old r) m in
    fetched-sound (fetch.fetch loading f.0 s) result (chained old r) (chained new r) after sound
    (fetch_sound loading f.0 s f.0.reference.here.handle (there-stands at (map view_open old) f.0 f.1) sound)
    (answer r f.0 f.1) (λ e. ap (λ (chain : List OpenFile). record r { chain = chain }) (kept e))

-- what of the application's fork is read as it is launched
first-loaded : (before after : List OpenFile) (r : Resources) (m left : Memory) → Sound (record r { chain = before })
    → IsLoadedFirst r.loading before m after left → Sound (record r { chain = after })
first-loaded [] after r m left sound is =
    subst (λ (chain : List OpenFile). Sound (record r { chain = chain })) (sym is.0) sound
first-loaded (f ∷ older) after r m left sound is =
    subst (λ (chain : List OpenFile). Sound (record r { chain = chain })) (sym is.0)
    (sound-file (record r { chain = f ∷ older }) (record { before = []; here = f; after = older })
    (loaded_if r.loading f.map.references m).references f.touched refl sound
    (λ _. loaded-keeps r.loading f.map.references m) (λ t. t))

pub loaded_first : (old new : List StoredOpenFile) (r : Resources) (m after : Memory)
    (result : Result (Unit {0}) AllocError) → Sound (chained old r)
    → OnOk result (IsLoadedFirst r.loading (map view_open old) m (map view_open new) after)
    → OnErr result (map view_open new ≡ map view_open old) → Sound (chained new r)
loaded_first old new r m after (Ok value) sound loaded kept =
    first-loaded (map view_open old) (map view_open new) r m after sound loaded
loaded_first old new r m after (Err e) sound loaded kept =
    subst (λ (chain : List OpenFile). Sound (record r { chain = chain })) (sym kept) sound

-- a file that is opened by the map of its fork
fork-there : (files : List File) (i : ℕ) (read : Map) → i < length files
    → IfSome (slice_get files i) (λ f. map_in f.fork ≡ Ok read) → Fresh read
fork-there files i read inside is = by_file (slice_get files i) (get-inside files i inside) is
  where
    by_file : (o : Option File) → (o ≡ None → ⊥) → IfSome o (λ f. map_in f.fork ≡ Ok read) → Fresh read
    by_file None some is = absurd (some refl)
    by_file (Some f) some is = map-fresh f.fork read is

pub opened_in : (old new : List StoredOpenFile) (r now : Resources) (m : Memory) (i : ℕ) (read : Map)
    → Sound (chained old r) → chained old r ≡ now → i < length now.files
    → IfSome (slice_get now.files i) (λ f. map_in f.fork ≡ Ok read)
    → map view_open new
    ≡ with_loaded (loaded_if r.loading read.references m) (opened r.next (Some i) read) ∷ map view_open old
    → Sound (record r { chain = map view_open new; current = r.next; next = r.next + 1 })
opened_in old new r now m i read sound same inside is chain =
    let fresh = fork-there now.files i read inside is in
    let there = subst (λ (q : Resources). i < length q.files) (sym same) inside in
    subst (λ (c : List OpenFile). Sound (record r { chain = c; current = r.next; next = r.next + 1 })) (sym chain)
    (sound-opened i read (loaded_if r.loading read.references m) (managers (chained old r) m) there fresh
    (loaded-keeps r.loading read.references m fresh.references) sound)

-- the preloading of a file that is opened was stopped
pub opened_stopped : {A : Type 0} (told : A → List Gone → Type 0) (takes loading : Bool)
    (old new : List StoredOpenFile) (r now : Resources) (m after : Memory) (i : ℕ) (read : Map) (s s' : A)
    → Sound (chained old r) → chained old r ≡ now → i < length now.files
    → IfSome (slice_get now.files i) (λ f. map_in f.fork ≡ Ok read)
    → StopsFirst told takes loading (opened r.next (Some i) read) (map view_open old) (map view_open new) m after s s'
    → Sound (record r { chain = map view_open new; current = r.next; next = r.next + 1 })
opened_stopped told takes loading old new r now m after i read s s' sound same inside is stopped =
    let fresh = fork-there now.files i read inside is in
    let there = subst (λ (q : Resources). i < length q.files) (sym same) inside in
    let numbers = stopped.preloads.numbers in
    let l : Loaded = record { references = given_to read.references numbers; memory = after; reads = [] } in
    let chain : map view_open new ≡ with_loaded l (opened r.next (Some i) read) ∷ map view_open old =
    stopped.first ∙ ap (λ (m : Map). record (opened r.next (Some i) read) { map = m } ∷ map view_open old)
    stopped.preloads.given in
    subst (λ (c : List OpenFile). Sound (record r { chain = c; current = r.next; next = r.next + 1 })) (sym chain)
    (sound-opened i read l (managers (chained old r) m) there fresh
    (given-keep read.references numbers fresh.references) sound)

-- the application's own file and the System's
pub launched_in : (files : List StoredFile) (chain : List StoredOpenFile) (fork : List ℕ) (own system : Map)
    → 0 < length files → map_in fork ≡ Ok own
    → map view_open chain ≡ opened 2 (Some 0) own ∷ opened 0 None system ∷ []
    → Sound (resources_of files chain 2 3 true false NO_ERR)
launched_in [] chain fork own system some is e = absurd (omega (arith, some))
launched_in (f ∷ files) chain fork own system some is e =
    subst (λ (c : List OpenFile). Sound (record (resources_of (f ∷ files) chain 2 3 true false NO_ERR) { chain = c })) (sym e)
    (fresh_sound (view_file f) (map view_file files) own system (map-fresh fork own is))

-- an open file of a number
number-found : (n i : ℕ) (xs : List StoredOpenFile) (r : Resources) → map view_open xs ≡ r.chain
    → Some i ≡ option_map place (split (λ (f : OpenFile). f.number == n) (map view_open xs))
    → (at : Split OpenFile) × (file_of n r ≡ Some at)
number-found n i xs r same e =
    let at = found-place (split (λ (f : OpenFile). f.number == n) (map view_open xs)) i e in (
      at.0,
      ap (split (λ (f : OpenFile). f.number == n)) (sym same) ∙ at.1.0,
    )

number-none : (n : ℕ) (xs : List StoredOpenFile) (r : Resources) → map view_open xs ≡ r.chain
    → None ≡ option_map place (split (λ (f : OpenFile). f.number == n) (map view_open xs)) → file_of n r ≡ None
number-none n xs r same e =
    ap (split (λ (f : OpenFile). f.number == n)) (sym same)
    ∙ found-none (split (λ (f : OpenFile). f.number == n) (map view_open xs)) e

-- it is current from now on
pub current_sound : (n i : ℕ) (xs : List StoredOpenFile) (r : Resources) → Sound r → map view_open xs ≡ r.chain
    → Some i ≡ option_map place (split (λ (f : OpenFile). f.number == n) (map view_open xs))
    → Sound (record r { current = n })
current_sound n i xs r sound same e = record {
  falls = sound.falls;
  next = sound.next;
  current = ap is_some (number-found n i xs r same e).1;
  placed = sound.placed;
  kept = sound.kept;
  untouched = sound.untouched;
}

pub used_here : (n i : ℕ) (xs : List StoredOpenFile) (r now : Resources) → r ≡ now → map view_open xs ≡ r.chain
    → Some i ≡ option_map place (split (λ (f : OpenFile). f.number == n) (map view_open xs)) → (m : Memory)
    → IsAnswered (λ (u : Unit {0}). u) (rows.use_res_file n (managers now m)) (Ok tt)
    (managers (record r { current = n }) m)
used_here n i xs r now is same e m =
    subst (λ (q : Resources). IsAnswered (λ (u : Unit {0}). u) (rows.use_res_file n (managers q m)) (Ok tt)
    (managers (record r { current = n }) m)) is
    (subst (λ (o : Option (Split OpenFile)). IsAnswered (λ (u : Unit {0}). u) (rows.on_open o (managers r m)
    (λ at. done tt (managers (record r { current = n }) m))) (Ok tt) (managers (record r { current = n }) m))
    (sym (number-found n i xs r same e).1) (refl, refl))

-- a file that isn't open; none of a name
pub number_missing : {T : Type 0} (n : ℕ) (xs : List StoredOpenFile) (r : Resources) → map view_open xs ≡ r.chain
    → None ≡ option_map place (split (λ (f : OpenFile). f.number == n) (map view_open xs)) → (m : Memory)
    (answer : Split OpenFile → Answer T)
    → IsAnswered (λ (t : T). t) (rows.on_file n (managers r m) answer) (Err (Code RES_FILE_NOT_FOUND)) (managers r m)
number_missing {T} n xs r same e m answer =
    subst (λ (o : Option (Split OpenFile)). IsAnswered (λ (t : T). t) (rows.on_open o (managers r m) answer)
    (Err (Code RES_FILE_NOT_FOUND)) (managers r m)) (sym (number-none n xs r same e)) (refl, refl)

pub name_missing : (name : List ℕ) (xs : List StoredFile) (r : Resources) → map view_file xs ≡ r.files
    → None ≡ option_map place (split (λ (f : File). bytes_eq f.name name) (map view_file xs)) → (m : Memory)
    → IsAnswered (λ (n : ℕ). n) (rows.open_res_file name (managers r m)) (Err (Code FILE_NOT_FOUND)) (managers r m)
name_missing name xs r same e m =
    subst (λ (o : Option (Split File)). IsAnswered (λ (n : ℕ). n) (rows.open_named o (managers r m))
    (Err (Code FILE_NOT_FOUND)) (managers r m))
    (sym (ap (split (λ (f : File). bytes_eq f.name name)) (sym same)
    ∙ found-none (split (λ (f : File). bytes_eq f.name name) (map view_file xs)) e)) (refl, refl)

-- the System's file stays open
pub system_stays : (n i : ℕ) (xs : List StoredOpenFile) (r : Resources) → map view_open xs ≡ r.chain
    → Some i ≡ option_map place (split (λ (f : OpenFile). f.number == n) (map view_open xs)) → n ≡ 0 → (m : Memory)
    → IsAnswered (λ (u : Unit {0}). u) (rows.close_res_file n (managers r m)) (Err (Code PROFILE)) (managers r m)
system_stays n i xs r same e zero m = rw ((number-found n i xs r same e).1, eq-eqb n 0 zero) (refl, refl)
