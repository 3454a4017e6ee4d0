use Rattle.res_calls.proofs.Cited.{◌≡◌, ◌≢◌, ℕ, zero, suc, ◌-◌, ◌<◌, ◌≤◌, Bool, true, false, cond, List, [], ◌∷◌, length, map, ◌++◌, not}
use Rattle.res_calls.proofs.Cited.{◌||◌, Result, Ok, is_some, Option, Some, None, refl, sym, ◌∙◌, ap, arith, subst, if◌then◌else◌}
use Rattle.res_calls.proofs.Cited.{option_map, filter, list_all, and_parts, le-leb, lt-ltb, leb-true, ltb-true, eqb-true, ne_eqb}
use Rattle.res_calls.proofs.Cited.{filter-all, and_both, Split, split, behind, File, OpenFile, Resources, file_of, falls, is_placed}
use Rattle.res_calls.proofs.Cited.{has_place, keeps_handle, is_kept, is_untouched, Sound, written, written_at, updated_reference}
use Rattle.res_calls.proofs.Cited.{updated_map, fork_of, rewritten, OsErr, IsContent, fits, map_of, replaced, split-passes, split-whole}
use Rattle.res_calls.proofs.Cited.{is_system, Err, ℤ, false≢true, int_eq, RES_FILE_NOT_FOUND, ADD_RES_FAILED, WRITE_PERMISSION, Known}
use Rattle.res_calls.proofs.Cited.{handle_at, has_block, new_reference, Managers, Answer, done, refused, on_open, on_file, add_resource}
use Rattle.res_calls.proofs.Cited.{on_known, added_to, HasFork, StoresHandle, unwrap_or, is_changed, bytes_held, update, map_in, and_assoc}
use Rattle.res_calls.proofs.Cited.{State, unchanged, Ref, Group, Content, map_kept, clear, clear_ref, clear_group, Reference, Map, is_of}
use Rattle.res_calls.proofs.Cited.{of_type, types, group_of, groups_of, content}
use Rattle.std.proofs.Common.{slice_get}
use Rattle.std.specs.Prelude.{nat_le, nat_lt, ◌==◌, ◌&&◌}
use Rattle.heap_calls.specs.Purging.{is_resource}
use Rattle.res_calls.proofs.Walks.Forks.{fork_is_read}

-- What follows of what holds of open files at all times.

-- what is below a number is below a greater one
lower : (n m : ℕ) (files : List OpenFile) → n ≤ m → list_all (λ (g : OpenFile). nat_lt g.number n) files ≡ true
    → list_all (λ (g : OpenFile). nat_lt g.number m) files ≡ true
lower n m [] le all = refl
lower n m (g ∷ files) le all =
    let two : (nat_lt g.number n ≡ true) × (list_all (λ (g : OpenFile). nat_lt g.number n) files ≡ true) =
    and_parts (nat_lt g.number n) (list_all (λ (g : OpenFile). nat_lt g.number n) files) all in
    let lt : g.number < n = ltb-true g.number n two.0 in
    and_both (nat_lt g.number m) (list_all (λ (g : OpenFile). nat_lt g.number m) files)
    (lt-ltb g.number m (omega arith)) (lower n m files le two.1)

-- the files behind one have lower numbers
pub falls-below : (f : OpenFile) (older : List OpenFile) → falls (f ∷ older) ≡ true
    → list_all (λ (g : OpenFile). nat_lt g.number f.number) older ≡ true
falls-below f [] e = refl
falls-below f (g ∷ older) e =
    let two : (nat_lt g.number f.number ≡ true) × (falls (g ∷ older) ≡ true) =
    and_parts (nat_lt g.number f.number) (falls (g ∷ older)) e in
    let lt : g.number < f.number = ltb-true g.number f.number two.0 in
    and_both (nat_lt g.number f.number) (list_all (λ (h : OpenFile). nat_lt h.number f.number) older) two.0
    (lower g.number f.number older (omega arith) (falls-below g older two.1))

pub falls-rest : (f g : OpenFile) (older : List OpenFile) → falls (f ∷ g ∷ older) ≡ true → falls (g ∷ older) ≡ true
falls-rest f g older e = (and_parts (nat_lt g.number f.number) (falls (g ∷ older)) e).1

-- of lower numbers all are searched, and none is the number itself
all-searched : (n m : ℕ) (files : List OpenFile) → m ≤ n → list_all (λ (g : OpenFile). nat_lt g.number m) files ≡ true
    → list_all (λ (g : OpenFile). nat_le g.number n) files ≡ true
all-searched n m [] le all = refl
all-searched n m (g ∷ files) le all =
    let two : (nat_lt g.number m ≡ true) × (list_all (λ (g : OpenFile). nat_lt g.number m) files ≡ true) =
    and_parts (nat_lt g.number m) (list_all (λ (g : OpenFile). nat_lt g.number m) files) all in
    let lt : g.number < m = ltb-true g.number m two.0 in
    and_both (nat_le g.number n) (list_all (λ (g : OpenFile). nat_le g.number n) files)
    (le-leb g.number n (omega arith)) (all-searched n m files le two.1)

none-there : (n m : ℕ) (files : List OpenFile) → m ≤ n → list_all (λ (g : OpenFile). nat_lt g.number m) files ≡ true
    → split (λ (g : OpenFile). g.number == n) files ≡ None
none-there n m [] le all = refl
none-there n m (g ∷ files) le all =
    let two : (nat_lt g.number m ≡ true) × (list_all (λ (g : OpenFile). nat_lt g.number m) files ≡ true) =
    and_parts (nat_lt g.number m) (list_all (λ (g : OpenFile). nat_lt g.number m) files) all in
    cases (ltb-true g.number m two.0) (none-there n m files le two.1) (g.number == n) refl
  where
    cases : g.number < m → split (λ (h : OpenFile). h.number == n) files ≡ None → (t : Bool) → (g.number == n) ≡ t
        → split (λ (h : OpenFile). h.number == n) (g ∷ files) ≡ None
    cases lt none true e = absurd (let is : g.number ≡ n = eqb-true g.number n e in omega (arith, lt, is, le))
    cases lt none false e = rw e (ap (option_map (behind g)) none)

-- a search begins in the file of a number, and goes on in those behind it
falls-on : (f : OpenFile) (files : List OpenFile) → falls (f ∷ files) ≡ true → (at : Split OpenFile) (n : ℕ)
    → split (λ (g : OpenFile). g.number == n) files ≡ Some at → falls files ≡ true
falls-on f [] one at n is = cc
falls-on f (g ∷ files) one at n is = falls-rest f g files one

abbrev Searched : ℕ → List OpenFile → Split OpenFile → Type 0
Searched n chain at = filter (λ (g : OpenFile). nat_le g.number n) chain ≡ at.here ∷ at.after

-- it is the first file; it is one behind that
searched-here : (n : ℕ) (f : OpenFile) (older : List OpenFile) → falls (f ∷ older) ≡ true → f.number ≡ n
    → filter (λ (g : OpenFile). nat_le g.number n) (f ∷ older) ≡ f ∷ older
searched-here n f older e eq =
    let here : nat_le f.number n ≡ true = le-leb f.number n (omega (arith, eq)) in
    let all : filter (λ (g : OpenFile). nat_le g.number n) older ≡ older =
    filter-all (λ (g : OpenFile). nat_le g.number n) older
    (all-searched n f.number older (omega (arith, eq)) (falls-below f older e)) in
    rw here (ap (λ l. f ∷ l) all)

searched-behind : (n : ℕ) (f : OpenFile) (older : List OpenFile) (there : Split OpenFile) → falls (f ∷ older) ≡ true
    → split (λ (g : OpenFile). g.number == n) older ≡ Some there → Searched n older there
    → Searched n (f ∷ older) (behind f there)
searched-behind n f older there e is searched = cases (nat_le f.number n) refl
  where
    cases : (t : Bool) → nat_le f.number n ≡ t → Searched n (f ∷ older) (behind f there)
    cases true le =
        let none : split (λ (g : OpenFile). g.number == n) older ≡ None =
        none-there n f.number older (leb-true f.number n le) (falls-below f older e) in cc
    cases false le = rw le searched

pub from-there : (n : ℕ) (chain : List OpenFile) (at : Split OpenFile) → falls chain ≡ true
    → split (λ (g : OpenFile). g.number == n) chain ≡ Some at → Searched n chain at
from-there n [] at e s = cc
from-there n (f ∷ older) at e s = cases (f.number == n) refl
    (λ there is. from-there n older there (falls-on f older e there n is) is) s
  where
    first : Split OpenFile
    first = record { before = []; here = f; after = older }

    rest : (here : Option (Split OpenFile)) → split (λ (g : OpenFile). g.number == n) older ≡ here
        → ((there : Split OpenFile) → split (λ (g : OpenFile). g.number == n) older ≡ Some there
        → Searched n older there) → option_map (behind f) here ≡ Some at → Searched n (f ∷ older) at
    rest None is again same = cc
    rest (Some there) is again same =
        let so : behind f there ≡ at = cc in
        subst (Searched n (f ∷ older)) so (searched-behind n f older there e is (again there is))

    cases : (t : Bool) → (f.number == n) ≡ t → ((there : Split OpenFile)
        → split (λ (g : OpenFile). g.number == n) older ≡ Some there → Searched n older there)
        → cond t (Some first) (option_map (behind f) (split (λ (g : OpenFile). g.number == n) older)) ≡ Some at
        → Searched n (f ∷ older) at
    cases true is again same =
        let so : first ≡ at = cc in
        subst (Searched n (f ∷ older)) so (searched-here n f older e (eqb-true f.number n is))
    cases false is again same = rest (split (λ (g : OpenFile). g.number == n) older) refl again same

-- the file of a place has the fork that was written there
pub written-there : (i : ℕ) (fork : List ℕ) (files : List File) → i < length files
    → (f : File) × (slice_get (written i fork files) i ≡ Some f) × (f.fork ≡ fork) × (f.written ≡ true)
written-there i fork [] lt = absurd (omega (arith, lt))
written-there zero fork (f ∷ files) lt = (record f { fork = fork; written = true }, refl, refl, refl)
written-there (suc i) fork (f ∷ files) lt =
    let z : suc i - 1 ≡ i = omega arith in
    let ne : (suc i == 0) ≡ false = ne_eqb (suc i) 0 (λ e. absurd (omega (arith, e))) in
    rw ne (rw z (written-there i fork files (omega (arith, lt))))

pub searched_from : (r : Resources) (at : Split OpenFile) → Sound r → file_of r.current r ≡ Some at
    → filter (λ (f : OpenFile). nat_le f.number r.current) r.chain ≡ at.here ∷ at.after
searched_from r at sound is = from-there r.current r.chain at sound.falls is

-- what an update stores has nothing that a reader clears
unchanged-twice : (a : ℕ) → unchanged (unchanged a) ≡ unchanged a
unchanged-twice a = and_assoc 253 a 253

clear-kept : (heap : State) (r : Reference) → clear_ref (updated_reference heap r).stored
    ≡ (updated_reference heap r).stored
clear-kept heap r = ap (λ (a : ℕ). let x : Ref = record (updated_reference heap r).stored { attrs = a } in x)
    (unchanged-twice r.stored.attrs)

clear-type : (heap : State) (kind : ℕ) (references : List Reference)
    → map clear_ref (map (λ (r : Reference). r.stored) (of_type kind (map (updated_reference heap) references)))
    ≡ map (λ (r : Reference). r.stored) (of_type kind (map (updated_reference heap) references))
clear-type heap kind [] = refl
clear-type heap kind (r ∷ references) = cases (is_of kind (updated_reference heap r)) (clear-type heap kind references)
  where
    others : List Reference
    others = of_type kind (map (updated_reference heap) references)

    cases : (t : Bool) → map clear_ref (map (λ (r : Reference). r.stored) others)
        ≡ map (λ (r : Reference). r.stored) others
        → map clear_ref (map (λ (r : Reference). r.stored) (cond t (updated_reference heap r ∷ others) others))
        ≡ map (λ (r : Reference). r.stored) (cond t (updated_reference heap r ∷ others) others)
    cases true rest = ap (λ (x : Ref). x ∷ map clear_ref (map (λ (r : Reference). r.stored) others)) (clear-kept heap r)
        ∙ ap (λ l. (updated_reference heap r).stored ∷ l) rest
    cases false rest = rest

clear-groups : (heap : State) (references : List Reference) (kinds : List ℕ)
    → map clear_group (map (group_of (map (updated_reference heap) references)) kinds)
    ≡ map (group_of (map (updated_reference heap) references)) kinds
clear-groups heap references [] = refl
clear-groups heap references (kind ∷ kinds) =
    let all : List Reference = map (updated_reference heap) references in
    ap (λ (l : List Ref). let g : Group = record { kind = kind; refs = l } in g ∷ map clear_group (map (group_of all) kinds))
    (clear-type heap kind references)
    ∙ ap (λ l. group_of all kind ∷ l) (clear-groups heap references kinds)

pub clear-updated : (heap : State) (m : Map) → map_kept m.attrs ≡ m.attrs
    → clear (content (updated_map heap m)) ≡ content (updated_map heap m)
clear-updated heap m kept =
    let all : List Reference = map (updated_reference heap) m.references in
    ap (λ (n : ℕ). let c : Content = record { area = m.area; attrs = n; groups = map clear_group (groups_of all) } in c) kept
    ∙ ap (λ (l : List Group). let c : Content = record { area = m.area; attrs = m.attrs; groups = l } in c)
    (clear-groups heap m.references (types all))

all-here : (P : OpenFile → Bool) (at : Split OpenFile) → list_all P (replaced at.here at) ≡ true → P at.here ≡ true
all-here P at all = by_front at.before all
  where
    by_front : (before : List OpenFile) → list_all P (before ++ at.here ∷ at.after) ≡ true → P at.here ≡ true
    by_front [] e = (and_parts (P at.here) (list_all P at.after) e).0
    by_front (b ∷ before) e = by_front before (and_parts (P b) (list_all P (before ++ at.here ∷ at.after)) e).1

-- an open file of a number that isn't the System's has a place, and is as fork can give it
open-file : (n : ℕ) (r : Resources) (at : Split OpenFile) → Sound r → n ≢ 0 → file_of n r ≡ Some at
    → (is_system at.here ≡ false) × (has_place (length r.files) at.here ≡ true) × (is_kept at.here ≡ true)
open-file n r at sound other found =
    let is : at.here.number ≡ n =
    eqb-true at.here.number n (split-passes (λ (f : OpenFile). f.number == n) r.chain at found) in
    let whole : replaced at.here at ≡ r.chain = split-whole (λ (f : OpenFile). f.number == n) r.chain at found in (
      ne_eqb at.here.number 0 (λ e. other (sym is ∙ e)),
      all-here (has_place (length r.files)) at (ap (list_all (has_place (length r.files))) whole ∙ sound.placed),
      all-here is_kept at (ap (list_all is_kept) whole ∙ sound.kept),
    )

has-fork : (fork : List ℕ) (files : List File) (place : Option ℕ) → is_placed (length files) place ≡ true
    → HasFork fork place (written_at place fork files)
has-fork fork files None e = cc
has-fork fork files (Some i) e = written-there i fork files (ltb-true i (length files) e)

pub fork-placed : (n : ℕ) (heap : State) (r : Resources) (at : Split OpenFile) → Sound r → n ≢ 0
    → file_of n r ≡ Some at → HasFork (fork_of heap at.here) at.here.file (rewritten heap at r).files
fork-placed n heap r at sound other found =
    let there : (is_system at.here ≡ false) × (has_place (length r.files) at.here ≡ true) × (is_kept at.here ≡ true) =
    open-file n r at sound other found in
    let placed : is_placed (length r.files) at.here.file ≡ true =
    ap (λ (t : Bool). cond t (not (is_some at.here.file)) (is_placed (length r.files) at.here.file)) (sym there.0) ∙ there.1 in
    has-fork (fork_of heap at.here) r.files at.here.file placed

pub content-same : (n : ℕ) (heap : State) (r : Resources) (at : Split OpenFile) → Sound r → n ≢ 0
    → file_of n r ≡ Some at → clear (content (updated_map heap at.here.map)) ≡ content (updated_map heap at.here.map)
content-same n heap r at sound other found =
    let there : (is_system at.here ≡ false) × (has_place (length r.files) at.here ≡ true) × (is_kept at.here ≡ true) =
    open-file n r at sound other found in
    let kept : (list_all keeps_handle at.here.map.references && map_kept at.here.map.attrs == at.here.map.attrs) ≡ true =
    ap (λ (t : Bool). t || (list_all keeps_handle at.here.map.references
    && map_kept at.here.map.attrs == at.here.map.attrs)) (sym there.0) ∙ there.2 in
    clear-updated heap at.here.map (eqb-true (map_kept at.here.map.attrs) at.here.map.attrs
    (and_parts (list_all keeps_handle at.here.map.references) (map_kept at.here.map.attrs == at.here.map.attrs) kept).1)

pub fork-again : (n : ℕ) (heap : State) (r : Resources) (at : Split OpenFile) → Sound r → n ≢ 0
    → file_of n r ≡ Some at → IsContent (content (updated_map heap at.here.map))
    → fits (content (updated_map heap at.here.map)) ≡ true
    → map_in (fork_of heap at.here) ≡ Ok (map_of (content (updated_map heap at.here.map)))
fork-again n heap r at sound other found is low =
    fork_is_read heap at.here is low
    ∙ ap (λ (c : Content). let x : Result Map OsErr = Ok (map_of c) in x) (content-same n heap r at sound other found)

-- of a changed reference the bytes of its handle are stored
all-at : {A : Type 0} (P : A → Bool) (xs : List A) (i : ℕ) (x : A) → list_all P xs ≡ true → slice_get xs i ≡ Some x
    → P x ≡ true
all-at P [] i x all is = cc
all-at P (y ∷ xs) zero x all is =
    let same : y ≡ x = cc in ap P (sym same) ∙ (and_parts (P y) (list_all P xs) all).0
all-at P (y ∷ xs) (suc i) x all is = all-at P xs i x (and_parts (P y) (list_all P xs) all).1 is

has-some : (o : Option ℕ) → is_some o ≡ true → (h : ℕ) × (o ≡ Some h)
has-some None e = cc
has-some (Some h) e = (h, refl)

pub handle-stored : (n : ℕ) (heap : State) (r : Resources) (at : Split OpenFile) (i : ℕ) (x : Reference) → Sound r
    → n ≢ 0 → file_of n r ≡ Some at → slice_get at.here.map.references i ≡ Some x → is_changed x ≡ true
    → StoresHandle heap x (updated_reference heap x)
handle-stored n heap r at i x sound other found is changed =
    let there : (is_system at.here ≡ false) × (has_place (length r.files) at.here ≡ true) × (is_kept at.here ≡ true) =
    open-file n r at sound other found in
    let kept : (list_all keeps_handle at.here.map.references && map_kept at.here.map.attrs == at.here.map.attrs) ≡ true =
    ap (λ (t : Bool). t || (list_all keeps_handle at.here.map.references
    && map_kept at.here.map.attrs == at.here.map.attrs)) (sym there.0) ∙ there.2 in
    let all : list_all keeps_handle at.here.map.references ≡ true =
    (and_parts (list_all keeps_handle at.here.map.references) (map_kept at.here.map.attrs == at.here.map.attrs) kept).0 in
    let held : is_some x.handle ≡ true =
    ap (λ (t : Bool). not t || is_some x.handle) (sym changed) ∙ all-at keeps_handle at.here.map.references i x all is in
    let of : (h : ℕ) × (x.handle ≡ Some h) = has-some x.handle held in (
      of.0,
      of.1,
      ap (λ (t : Bool). unwrap_or (cond t (bytes_held x.handle heap) None) x.stored.datum) changed
          ∙ ap (λ (o : Option ℕ). unwrap_or (bytes_held o heap) x.stored.datum) of.1,
    )

-- the System's file is never touched
pub system-stays : (heap : State) (r : Resources) (at : Split OpenFile) → Sound r → file_of 0 r ≡ Some at
    → update heap at r ≡ Some r
system-stays heap r at sound found =
    let is : (at.here.number == 0) ≡ true = split-passes (λ (f : OpenFile). f.number == 0) r.chain at found in
    let whole : replaced at.here at ≡ r.chain = split-whole (λ (f : OpenFile). f.number == 0) r.chain at found in
    let so : is_untouched at.here ≡ true =
    all-here is_untouched at (ap (list_all is_untouched) whole ∙ sound.untouched) in
    let quiet : not at.here.touched ≡ true = ap (λ (t : Bool). not t || not at.here.touched) (sym is) ∙ so in
    by_mark at.here.touched quiet
  where
    by_mark : (t : Bool) → not t ≡ true → cond t (cond (fits (content (updated_map heap at.here.map)))
        (Some (rewritten heap at r)) None) (Some r) ≡ Some r
    by_mark true e = cc
    by_mark false e = refl

abbrev is_missing : {T : Type 0} → Result T OsErr → Bool
is_missing (Ok value) = false
is_missing (Err code) = int_eq code.0 RES_FILE_NOT_FOUND.0

-- the current file is open: a call that adds to it never answers that it isn't
add-refuses : {T : Type 0} (t system : Bool) (o : Option (Split OpenFile)) (s : Managers) (answer : Split OpenFile → Answer T)
    → is_some o ≡ true → (cond t (refused ADD_RES_FAILED s) (cond system (refused WRITE_PERMISSION s)
    (on_open o s answer))).reply ≡ Err RES_FILE_NOT_FOUND → ((at : Split OpenFile)
    → (answer at).reply ≢ Err RES_FILE_NOT_FOUND) → ⊥
add-refuses true system o s answer there e each = false≢true (ap is_missing e)
add-refuses false true o s answer there e each = false≢true (ap is_missing e)
add-refuses false false None s answer there e each = cc
add-refuses false false (Some at) s answer there e each = each at e

pub current_file_is_open : (handle : Option ℕ) (kind : ℕ) (id : ℤ) (name : List ℕ) (s : Managers) → Sound s.resources
    → (add_resource handle kind id name s).reply ≢ Err RES_FILE_NOT_FOUND
current_file_is_open handle kind id name s sound = by_handle (handle_at handle s.memory.heap)
  where
    by_handle : (k : Result Known OsErr) → (on_known k s (λ k.
        if is_resource k.role || not (has_block k.number s.memory.heap) then refused ADD_RES_FAILED s
        else if s.resources.current == 0 then refused WRITE_PERMISSION s
        else on_file s.resources.current s (λ at.
        done (tt {0}) (added_to at (new_reference kind id name k.number) k.number s)))).reply ≡ Err RES_FILE_NOT_FOUND → ⊥
    by_handle (Err code) e = false≢true (ap is_missing e)
    by_handle (Ok k) e = add-refuses (is_resource k.role || not (has_block k.number s.memory.heap))
        (s.resources.current == 0) (file_of s.resources.current s.resources) s
        (λ at. done (tt {0}) (added_to at (new_reference kind id name k.number) k.number s)) sound.current e (λ at same. cc)
