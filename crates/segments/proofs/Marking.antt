use Rattle.segments.proofs.Cited.{◌≡◌, ℕ, ◌-◌, ◌<◌, ◌≤◌, Bool, true, false, ◌&&◌, ◌==◌, cond, List, [], ◌∷◌, ◌++◌, length, map, take, drop}
use Rattle.segments.proofs.Cited.{Some, None, refl, sym, get_or, ◌∙◌, ap, arith, suc, zero, eqb-suc-suc, eqb-suc-zero, eqb-zero-suc}
use Rattle.segments.proofs.Cited.{slice_set, list_all, map-set, Entry, set_loaded, loaded_from, view_entry, view_entries}
use Rattle.std.specs.Prelude.{slice_get}
use Rattle.segments.specs.declared.entry.Entry.{Entry as StoredEntry}

-- Entries of a table that are looked at, or changed, one after another.

-- so many items from a place on are all there, and pass
abbrev pub own : {A : Type 0} → (A → Bool) → ℕ → ℕ → List A → Bool
own test at n xs = length (take n (drop at xs)) == n && list_all test (take n (drop at xs))

-- what stands in a place, and behind it
drop-here : {A : Type 0} (xs : List A) (at : ℕ) (x : A) → slice_get xs at ≡ Some x → drop at xs ≡ x ∷ drop (suc at) xs
drop-here [] at x e = cc
drop-here (y ∷ xs) zero x e = let same : y ≡ x = cc in ap (λ z. z ∷ xs) same
drop-here (y ∷ xs) (suc at) x e = drop-here xs at x e

-- an item that passes, with those behind it
pub own_on : {A : Type 0} (test : A → Bool) (xs : List A) (at n : ℕ) (x : A) → slice_get xs at ≡ Some x
    → test x ≡ true → own test at (suc n) xs ≡ own test (suc at) n xs
own_on test xs at n x here passes =
    ap (λ l. length (take (suc n) l) == suc n && list_all test (take (suc n) l)) (drop-here xs at x here)
    ∙ ap (λ t. t && (test x && list_all test (take n (drop (suc at) xs))))
    (eqb-suc-suc (length (take n (drop (suc at) xs))) n)
    ∙ ap (λ t. length (take n (drop (suc at) xs)) == n && (t && list_all test (take n (drop (suc at) xs)))) passes

-- one that doesn't
pub own_stops : {A : Type 0} (test : A → Bool) (xs : List A) (at n : ℕ) (x : A) → slice_get xs at ≡ Some x
    → test x ≡ false → own test at (suc n) xs ≡ false
own_stops test xs at n x here fails =
    ap (λ l. length (take (suc n) l) == suc n && list_all test (take (suc n) l)) (drop-here xs at x here)
    ∙ ap (λ t. length (x ∷ take n (drop (suc at) xs)) == suc n && (t && list_all test (take n (drop (suc at) xs))))
    fails
    ∙ none (length (x ∷ take n (drop (suc at) xs)) == suc n)
  where
    none : (t : Bool) → (t && false) ≡ false
    none true = refl
    none false = refl

-- no entry more is loaded
pub loaded-none : (at : ℕ) (table : List Entry) → loaded_from at 0 table ≡ table
loaded-none at [] = refl
loaded-none zero (e ∷ table) = refl
loaded-none (suc at) (e ∷ table) =
    ap (λ t. cond t (cond (0 == 0) (e ∷ table) (set_loaded true e ∷ loaded_from 0 (0 - 1) table))
    (e ∷ loaded_from (suc at - 1) 0 table)) (eqb-suc-zero at)
    ∙ ap (λ k. e ∷ loaded_from k 0 table) less ∙ ap (λ l. e ∷ l) (loaded-none at table)
  where
    less : suc at - 1 ≡ at
    less = omega arith

-- behind the first entry
loaded-behind : (at n : ℕ) (e : Entry) (table : List Entry)
    → loaded_from (suc at) n (e ∷ table) ≡ e ∷ loaded_from at n table
loaded-behind at n e table =
    ap (λ t. cond t (cond (n == 0) (e ∷ table) (set_loaded true e ∷ loaded_from 0 (n - 1) table))
    (e ∷ loaded_from (suc at - 1) n table)) (eqb-suc-zero at)
    ∙ ap (λ k. e ∷ loaded_from k n table) less
  where
    less : suc at - 1 ≡ at
    less = omega arith

-- and from it on
loaded-first : (n : ℕ) (e : Entry) (table : List Entry)
    → loaded_from 0 (suc n) (e ∷ table) ≡ set_loaded true e ∷ loaded_from 0 n table
loaded-first n e table =
    ap (λ t. cond t (e ∷ table) (set_loaded true e ∷ loaded_from 0 (suc n - 1) table)) (eqb-suc-zero n)
    ∙ ap (λ k. set_loaded true e ∷ loaded_from 0 k table) less
  where
    less : suc n - 1 ≡ n
    less = omega arith

-- one entry is loaded
pub loaded_one : (table : List Entry) (at : ℕ) (e : Entry) → slice_get table at ≡ Some e
    → slice_set table at (set_loaded true e) ≡ loaded_from at 1 table
loaded_one [] at e here = cc
loaded_one (f ∷ table) zero e here =
    let same : f ≡ e = cc in
    ap (λ (g : Entry). set_loaded true g ∷ table) (sym same)
    ∙ ap (λ l. set_loaded true f ∷ l) (sym (loaded-none 0 table)) ∙ sym (loaded-first 0 f table)
loaded_one (f ∷ table) (suc at) e here =
    ap (λ l. f ∷ l) (loaded_one table at e here) ∙ sym (loaded-behind at 1 f table)

-- behind the table there is none
loaded_past : (table : List Entry) (at : ℕ) → slice_get table at ≡ None → table ≡ loaded_from at 1 table
loaded_past [] at past = refl
loaded_past (f ∷ table) zero past = cc
loaded_past (f ∷ table) (suc at) past =
    ap (λ l. f ∷ l) (loaded_past table at past) ∙ sym (loaded-behind at 1 f table)

-- an entry is loaded, with those behind it
loaded-more : (table : List Entry) (at n : ℕ)
    → loaded_from (suc at) n (loaded_from at 1 table) ≡ loaded_from at (suc n) table
loaded-more [] at n = refl
loaded-more (f ∷ table) zero n =
    ap (loaded_from 1 n) (loaded-first 0 f table) ∙ loaded-behind 0 n (set_loaded true f) (loaded_from 0 0 table)
    ∙ ap (λ l. set_loaded true f ∷ loaded_from 0 n l) (loaded-none 0 table) ∙ sym (loaded-first n f table)
loaded-more (f ∷ table) (suc at) n =
    ap (loaded_from (suc (suc at)) n) (loaded-behind at 1 f table)
    ∙ loaded-behind (suc at) n f (loaded_from at 1 table)
    ∙ ap (λ l. f ∷ l) (loaded-more table at n) ∙ sym (loaded-behind at (suc n) f table)

-- an item is changed, with those behind it
pub changed_on : {A : Type 0} (change : A → A) (xs : List A) (at : ℕ) (x : A) → slice_get xs at ≡ Some x
    → take (suc at) (slice_set xs at (change x)) ++ map change (drop (suc at) (slice_set xs at (change x)))
    ≡ take at xs ++ map change (drop at xs)
changed_on change [] at x here = cc
changed_on change (y ∷ xs) zero x here = let same : y ≡ x = cc in ap (λ z. change z ∷ map change xs) (sym same)
changed_on change (y ∷ xs) (suc at) x here = ap (λ l. y ∷ l) (changed_on change xs at x here)

-- The same as loops go over them: so many are left behind so many.

-- an entry that is kept, and the end of those that are
pub seen : (entries : List StoredEntry) (at : ℕ) (e : StoredEntry) → at < length entries → e ≡ get_or entries at e
    → slice_get (view_entries entries) at ≡ Some (view_entry e)
seen [] at e within is = absurd (let f : at < 0 = within in omega arith)
seen (f ∷ entries) zero e within is = ap (λ x. Some (view_entry x)) (sym is)
seen (f ∷ entries) (suc at) e within is = seen entries at e (omega arith) is

pub unseen : (entries : List StoredEntry) (at : ℕ) → length entries ≤ at → slice_get (view_entries entries) at ≡ None
unseen [] at past = refl
unseen (f ∷ entries) zero past = absurd (omega arith)
unseen (f ∷ entries) (suc at) past = unseen entries at (omega arith)

-- one that is changed
pub seen_set : (entries : List StoredEntry) (at : ℕ) (e : StoredEntry) (x : Entry) → view_entry e ≡ x
    → view_entries (slice_set entries at e) ≡ slice_set (view_entries entries) at x
seen_set entries at e x is = map-set view_entry entries at e ∙ ap (slice_set (view_entries entries) at) is

pub own_next : (test : Entry → Bool) (table : List Entry) (at next n left : ℕ) (e : Entry)
    → slice_get table at ≡ Some e → test e ≡ true → next ≡ suc at → n ≡ suc left
    → own test next left table ≡ own test at n table
own_next test table at next n left e here passes on less =
    ap (λ k. own test k left table) on ∙ sym (own_on test table at left e here passes)
    ∙ ap (λ k. own test at k table) (sym less)

pub own_ends : (test : Entry → Bool) (table : List Entry) (at n left : ℕ) (e : Entry) (all : Bool)
    → slice_get table at ≡ Some e → test e ≡ false → n ≡ suc left → own test at n table ≡ all → false ≡ all
own_ends test table at n left e all here fails less is =
    sym (own_stops test table at left e here fails) ∙ ap (λ k. own test at k table) (sym less) ∙ is

pub loaded_next : (table : List Entry) (at next n left : ℕ) → next ≡ suc at → n ≡ suc left
    → loaded_from next left (loaded_from at 1 table) ≡ loaded_from at n table
loaded_next table at next n left on less =
    ap (λ k. loaded_from k left (loaded_from at 1 table)) on ∙ loaded-more table at left
    ∙ ap (λ k. loaded_from at k table) (sym less)

pub loaded_ends : (table : List Entry) (at n : ℕ) → n ≡ 0 → loaded_from at n table ≡ table
loaded_ends table at n none = ap (λ k. loaded_from at k table) none ∙ loaded-none at table

-- an entry that is changed by its index
here : (entries : List StoredEntry) (at : ℕ) (d : StoredEntry) → at < length entries
    → slice_get (view_entries entries) at ≡ Some (view_entry (get_or entries at d))
here [] at d within = absurd (let f : at < 0 = within in omega arith)
here (e ∷ entries) zero d within = refl
here (e ∷ entries) (suc at) d within = here entries at d (omega arith)

pub load_put : (entries : List StoredEntry) (at : ℕ) (e d : StoredEntry) → at < length entries
    → view_entry e ≡ set_loaded true (view_entry (get_or entries at d))
    → view_entries (slice_set entries at e) ≡ loaded_from at 1 (view_entries entries)
load_put entries at e d within is =
    seen_set entries at e _ is ∙ loaded_one (view_entries entries) at _ (here entries at d within)

pub load_past : (entries : List StoredEntry) (at : ℕ) → length entries ≤ at
    → view_entries entries ≡ loaded_from at 1 (view_entries entries)
load_past entries at past = loaded_past (view_entries entries) at (unseen entries at past)

pub changed_next : (change : Entry → Entry) (entries : List StoredEntry) (at next : ℕ) (e d : StoredEntry)
    → at < length entries → view_entry e ≡ change (view_entry (get_or entries at d)) → next ≡ suc at
    → take next (view_entries (slice_set entries at e))
    ++ map change (drop next (view_entries (slice_set entries at e)))
    ≡ take at (view_entries entries) ++ map change (drop at (view_entries entries))
changed_next change entries at next e d within is on =
    ap (λ k. take k (view_entries (slice_set entries at e))
    ++ map change (drop k (view_entries (slice_set entries at e)))) on
    ∙ ap (λ l. take (suc at) l ++ map change (drop (suc at) l)) (seen_set entries at e _ is)
    ∙ changed_on change (view_entries entries) at _ (here entries at d within)
