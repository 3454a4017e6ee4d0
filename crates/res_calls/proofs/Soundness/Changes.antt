use Rattle.res_calls.proofs.Cited.{◌≡◌, ℕ, suc, ◌+◌, ◌≤◌, ◌<◌, Bool, true, false, not, ◌&&◌, ◌||◌, ◌==◌, nat_lt, List, [], ◌∷◌, length}
use Rattle.res_calls.proofs.Cited.{refl, sym, ◌∙◌, ap, arith, cond, map, Option, Some, None, and_parts, and_from, eq-eqb, or_left, or_right}
use Rattle.res_calls.proofs.Cited.{ltb-true, lt-ltb, eqb-true, and_assoc, false_from_ne_true, is_some, list_all, State, map_kept, Split}
use Rattle.res_calls.proofs.Cited.{split, replaced, removed, Reference, Map, File, OpenFile, Resources, Found, opened, with_reference}
use Rattle.res_calls.proofs.Cited.{Managers, Loaded, is_system, with_map_attrs, first_number, closed, opened_with, written, written_at}
use Rattle.res_calls.proofs.Cited.{rewritten, fork_of, updated_reference, Sound, falls, is_placed, has_place, keeps_handle, is_kept}
use Rattle.res_calls.proofs.Cited.{is_untouched}
use Rattle.std.specs.Prelude.{◌-◌}
use Rattle.res_calls.proofs.Owning.Places.{Stands}
use Rattle.res_calls.proofs.Owning.Updates.{with_references}
use Rattle.res_calls.proofs.Soundness.Lists.{all-replaced, all-removed, all-implied, split-some, any-replaced}
use Rattle.res_calls.proofs.Soundness.Chains.{falls-replaced, first-replaced, falls-removed, first-removed}
use Rattle.res_calls.proofs.Soundness.Chains.{falls-opened, first-open, closed-open, is_open}
use Rattle.res_calls.proofs.Soundness.References.{updated-keep}
use Rattle.res_calls.proofs.Soundness.Forks.{Fresh}

-- What is done to the open files keeps what holds of them.

-- a file is open under this number where it is found so
found-open : (n : ℕ) (chain : List OpenFile) → is_some (split (λ (f : OpenFile). f.number == n) chain) ≡ is_open n chain
found-open n chain = split-some (λ (f : OpenFile). f.number == n) chain

-- an open file with other references
kept-by : (f : OpenFile) (references : List Reference) (touched : Bool)
    → (is_system f ≡ false → list_all keeps_handle f.map.references ≡ true → list_all keeps_handle references ≡ true)
    → is_kept f ≡ true → is_kept (with_references references touched f) ≡ true
kept-by f references touched each e = by_number (is_system f) each e
  where
    by_number : (t : Bool)
        → (t ≡ false → list_all keeps_handle f.map.references ≡ true → list_all keeps_handle references ≡ true)
        → (t || (list_all keeps_handle f.map.references && map_kept f.map.attrs == f.map.attrs)) ≡ true
        → (t || (list_all keeps_handle references && map_kept f.map.attrs == f.map.attrs)) ≡ true
    by_number true each e = refl
    by_number false each e =
        let parts = and_parts (list_all keeps_handle f.map.references) (map_kept f.map.attrs == f.map.attrs) e in
        and_from (list_all keeps_handle references) (map_kept f.map.attrs == f.map.attrs) (each refl parts.0) parts.1

pub sound-file : (r : Resources) (at : Split OpenFile) (references : List Reference) (touched : Bool)
    → replaced at.here at ≡ r.chain → Sound r
    → (is_system at.here ≡ false → list_all keeps_handle at.here.map.references ≡ true
    → list_all keeps_handle references ≡ true)
    → (is_untouched at.here ≡ true → is_untouched (with_references references touched at.here) ≡ true)
    → Sound (record r { chain = replaced (with_references references touched at.here) at })
sound-file r at references touched whole sound keep untouched = record {
  falls = falls-replaced at.before at.here new at.after refl (ap falls whole ∙ sound.falls);
  next = ap (λ (n : ℕ). nat_lt n r.next)
      (first-replaced at.before at.here new at.after refl ∙ ap first_number whole) ∙ sound.next;
  current = found-open r.current (replaced new at)
      ∙ any-replaced (λ (f : OpenFile). f.number == r.current) at.before at.here new at.after refl
      ∙ ap (is_open r.current) whole ∙ sym (found-open r.current r.chain) ∙ sound.current;
  placed = all-replaced (has_place (length r.files)) r.chain at new whole (λ e. e) sound.placed;
  kept = all-replaced is_kept r.chain at new whole (kept-by at.here references touched keep) sound.kept;
  untouched = all-replaced is_untouched r.chain at new whole untouched sound.untouched;
}
  where
    new : OpenFile
    new = with_references references touched at.here

-- a file of an application's own with other attributes
attrs-kept : (f : OpenFile) (attrs : ℕ) → is_system f ≡ false → is_kept f ≡ true → is_kept (with_map_attrs attrs f) ≡ true
attrs-kept f attrs own e = by_number (is_system f) own e
  where
    by_number : (t : Bool) → t ≡ false
        → (t || (list_all keeps_handle f.map.references && map_kept f.map.attrs == f.map.attrs)) ≡ true
        → (t || (list_all keeps_handle f.map.references && map_kept (map_kept attrs) == map_kept attrs)) ≡ true
    by_number true own e = cc
    by_number false own e = and_from (list_all keeps_handle f.map.references) (map_kept (map_kept attrs) == map_kept attrs)
        (and_parts (list_all keeps_handle f.map.references) (map_kept f.map.attrs == f.map.attrs) e).0
        (eq-eqb (map_kept (map_kept attrs)) (map_kept attrs) (and_assoc 65439 attrs 65439))

pub sound-attrs : (r : Resources) (at : Split OpenFile) (attrs : ℕ) → replaced at.here at ≡ r.chain
    → is_system at.here ≡ false → Sound r → Sound (record r { chain = replaced (with_map_attrs attrs at.here) at })
sound-attrs r at attrs whole own sound = record {
  falls = falls-replaced at.before at.here new at.after refl (ap falls whole ∙ sound.falls);
  next = ap (λ (n : ℕ). nat_lt n r.next)
      (first-replaced at.before at.here new at.after refl ∙ ap first_number whole) ∙ sound.next;
  current = found-open r.current (replaced new at)
      ∙ any-replaced (λ (f : OpenFile). f.number == r.current) at.before at.here new at.after refl
      ∙ ap (is_open r.current) whole ∙ sym (found-open r.current r.chain) ∙ sound.current;
  placed = all-replaced (has_place (length r.files)) r.chain at new whole (λ e. e) sound.placed;
  kept = all-replaced is_kept r.chain at new whole (attrs-kept at.here attrs own) sound.kept;
  untouched = all-replaced is_untouched r.chain at new whole
      (λ _. or_left (not (is_system at.here)) (not new.touched) (ap not own)) sound.untouched;
}
  where
    new : OpenFile
    new = with_map_attrs attrs at.here

-- a file of an application's own that is touched
pub sound-touched : (r : Resources) (at : Split OpenFile) (references : List Reference)
    → replaced at.here at ≡ r.chain → is_system at.here ≡ false → Sound r
    → (list_all keeps_handle at.here.map.references ≡ true → list_all keeps_handle references ≡ true)
    → Sound (record r { chain = replaced (with_references references true at.here) at })
sound-touched r at references whole own sound keep =
    sound-file r at references true whole sound (λ _. keep)
    (λ _. or_left (not (is_system at.here)) false (ap not own))

-- another reference in its place
pub sound-reference : (r : Resources) (at : Found) (x : Reference) → Stands r.chain at → keeps_handle x ≡ true → Sound r
    → Sound (record r { chain = with_reference x at })
sound-reference r at x stands keeps sound =
    sound-file r at.file (replaced x at.reference) at.file.here.touched stands.file sound
    (λ _. all-replaced keeps_handle at.file.here.map.references at.reference x stands.reference (λ _. keeps)) (λ e. e)

-- the files, no fewer than there were
more-placed : (count more : ℕ) → count ≤ more → (f : OpenFile) → has_place count f ≡ true → has_place more f ≡ true
more-placed count more le f e = by_number (is_system f) f.file e
  where
    by_number : (t : Bool) (o : Option ℕ) → cond t (not (is_some o)) (is_placed count o) ≡ true
        → cond t (not (is_some o)) (is_placed more o) ≡ true
    by_number true o e = e
    by_number false None e = e
    by_number false (Some i) e = let f = ltb-true i count e in lt-ltb i more (omega arith)

pub sound-files : (r : Resources) (files : List File) → length r.files ≤ length files → Sound r
    → Sound (record r { files = files })
sound-files r files le sound = record {
  falls = sound.falls;
  next = sound.next;
  current = sound.current;
  placed = all-implied (has_place (length files)) (has_place (length r.files)) r.chain
      (more-placed (length r.files) (length files) le) sound.placed;
  kept = sound.kept;
  untouched = sound.untouched;
}

pub written-many : (i : ℕ) (fork : List ℕ) (files : List File) → length (written i fork files) ≡ length files
written-many i fork [] = refl
written-many i fork (f ∷ files) = by_place (i == 0) (written-many (i - 1) fork files)
  where
    by_place : (t : Bool) → length (written (i - 1) fork files) ≡ length files
        → length (cond {A = List File} t (record f { fork = fork; written = true } ∷ files)
        (f ∷ written (i - 1) fork files)) ≡ length (f ∷ files)
    by_place true e = refl
    by_place false e = ap suc e

pub written-at-many : (file : Option ℕ) (fork : List ℕ) (files : List File)
    → length (written_at file fork files) ≡ length files
written-at-many None fork files = refl
written-at-many (Some i) fork files = written-many i fork files

-- an update writes a fork, and no reference is changed any more
pub sound-rewritten : (heap : State) (r : Resources) (at : Split OpenFile) → replaced at.here at ≡ r.chain → Sound r
    → Sound (rewritten heap at r)
sound-rewritten heap r at whole sound =
    let same = written-at-many at.here.file (fork_of heap at.here) r.files in
    sound-files
    (record r {
      chain = replaced (with_references (map (updated_reference heap) at.here.map.references) false at.here) at;
    })
    (written_at at.here.file (fork_of heap at.here) r.files) (omega (arith, same))
    (sound-file r at (map (updated_reference heap) at.here.map.references) false whole sound
    (λ _ _. updated-keep heap at.here.map.references) (λ _. or_right (not (is_system at.here)) true refl))

-- another file than the System's is closed
pub sound-closed : (r : Resources) (at : Split OpenFile) → replaced at.here at ≡ r.chain
    → (at.here.number == 0) ≡ false → Sound r → Sound (closed at r)
sound-closed r at whole own sound = record {
  falls = falls-removed at.before at.here at.after own fall;
  next = first-removed at.before at.here at.after r.next fall
      (ap (λ (chain : List OpenFile). nat_lt (first_number chain) r.next) whole ∙ sound.next);
  current = found-open (closed at r).current (removed at)
      ∙ closed-open at.before at.here at.after r.current own fall
      (ap (is_open r.current) whole ∙ sym (found-open r.current r.chain) ∙ sound.current);
  placed = all-removed (has_place (length r.files)) r.chain at whole sound.placed;
  kept = all-removed is_kept r.chain at whole sound.kept;
  untouched = all-removed is_untouched r.chain at whole sound.untouched;
}
  where
    fall : falls (replaced at.here at) ≡ true
    fall = ap falls whole ∙ sound.falls

pub sound-closed-written : (heap : State) (r : Resources) (at : Split OpenFile) → Sound (closed at r)
    → Sound (closed at (rewritten heap at r))
sound-closed-written heap r at sound =
    let same = written-at-many at.here.file (fork_of heap at.here) r.files in
    sound-files (closed at r) (written_at at.here.file (fork_of heap at.here) r.files) (omega (arith, same)) sound

-- a file is opened
next-own : (n next : ℕ) → nat_lt n next ≡ true → (next == 0) ≡ false
next-own n next e =
    let less = ltb-true n next e in
    false_from_ne_true (next == 0) (λ t. let none = eqb-true next 0 t in omega arith)

pub sound-opened : (i : ℕ) (read : Map) (l : Loaded) (s : Managers) → i < length s.resources.files → Fresh read
    → list_all keeps_handle l.references ≡ true → Sound s.resources
    → Sound (opened_with l (opened s.resources.next (Some i) read) s).after.resources
sound-opened i read l s inside fresh keep sound = record {
  falls = falls-opened new r.chain sound.falls sound.next;
  next = lt-ltb r.next (r.next + 1) (omega arith);
  current = found-open r.next (new ∷ r.chain) ∙ first-open new r.chain;
  placed = and_from (has_place (length r.files) new) (list_all (has_place (length r.files)) r.chain)
      (ap (λ (t : Bool). cond t (not (is_some (Some i))) (nat_lt i (length r.files))) own
      ∙ lt-ltb i (length r.files) inside) sound.placed;
  kept = and_from (is_kept new) (list_all is_kept r.chain)
      (or_right (is_system new) (list_all keeps_handle l.references && map_kept read.attrs == read.attrs)
      (and_from (list_all keeps_handle l.references) (map_kept read.attrs == read.attrs) keep fresh.attrs)) sound.kept;
  untouched = and_from (is_untouched new) (list_all is_untouched r.chain) (or_right (not (is_system new)) true refl)
      sound.untouched;
}
  where
    r : Resources
    r = s.resources

    new : OpenFile
    new = with_references l.references false (opened s.resources.next (Some i) read)

    own : is_system new ≡ false
    own = next-own (first_number s.resources.chain) s.resources.next sound.next
