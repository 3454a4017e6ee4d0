use Rattle.segments.proofs.Cited.{◌≡◌, ℕ, ℤ, pos, Bool, true, false, cond, Option, Some, None, Result, Ok, Err, List, refl, sym, ◌∙◌, ap}
use Rattle.segments.proofs.Cited.{subst, option_map, int_eq, OsErr, SYSTEM_ERROR, Memory, inside, held_high, Refusal, Code, HostMemory}
use Rattle.segments.proofs.Cited.{Managers, Fetched, own_datum, fetch_own, Named, Unloaded, Entry, can_load, first_entry, entry_count}
use Rattle.segments.proofs.Cited.{loaded_from, Program, Answer, Called, called, refused, load_seg, load_datum, load_by, load_fetched}
use Rattle.segments.proofs.Cited.{code_type, call_entry, call_found, call_through, call_loaded, call_loading, Fetch, program, times}
use Rattle.segments.proofs.Cited.{reads_of, IsLoaded, IsCalled, IsUnloaded, view_entry, named_from, named_by}
use Rattle.std.specs.Prelude.{slice_get}
use Rattle.segments.specs.declared.entry.Entry.{Entry as StoredEntry}
use Rattle.segments.specs.declared.loaded.Called.{Called as CalledSegment}

-- What loading a segment, and calling a routine of it, come to.

-- what a segment names where it can be loaded
can_be : (at count : ℕ) (named : Named) (t : Bool) → Some named ≡ cond t (Some (named_from at count)) None
    → (t ≡ true) × (named ≡ named_from at count)
can_be at count named true e = (refl, cc)
can_be at count named false e = cc

-- a segment that is fetched is loaded as what it names can be
by_fetch : (n : ℤ) (p : Program) (code : List ℕ) (f : Fetched) → int_eq n (pos 0) ≡ false
    → Some code ≡ own_datum code_type n p.managers.resources → (fetch_own code_type n p.managers).reply ≡ Ok f
    → load_seg n p ≡ load_fetched n code f (fetch_own code_type n p.managers) p.table
by_fetch n p code f some there got =
    ap (λ t. cond t (refused SYSTEM_ERROR p) (load_datum n (own_datum code_type n p.managers.resources) p)) some
    ∙ ap (λ o. load_datum n o p) (sym there)
    ∙ ap (λ r. load_by n code r (fetch_own code_type n p.managers) p.table) got

-- a segment that was loaded
pub loaded_answer : (n : ℤ) (p : Program) (code : List ℕ) (f : Fetched) (named : Named) (after : Managers)
    (table : List Entry) (m : Memory) → int_eq n (pos 0) ≡ false
    → Some code ≡ own_datum code_type n p.managers.resources → (fetch_own code_type n p.managers).reply ≡ Ok f
    → (fetch_own code_type n p.managers).after ≡ after → Some named ≡ named_by n code p.table
    → table ≡ loaded_from named.first named.count p.table → m ≡ inside (held_high f.handle) after.memory
    → (reads_of (load_seg n p).reply ≡ Ok f.read) × ((load_seg n p).after ≡ program table after.resources m)
loaded_answer n p code f named after table m some there got left names loaded high =
    let fetched = by_fetch n p code f some there got in
    let can = can_be (first_entry code) (entry_count code) named (can_load n code p.table) names in
    let is = fetched ∙ ap (λ t. cond t (done) (refused_by)) can.0 in (
      ap (λ (a : Answer Fetched). reads_of a.reply) is,
      ap (λ (a : Answer Fetched). a.after) is
          ∙ ap (λ (s : Managers). program (loaded_from (first_entry code) (entry_count code) p.table) s.resources
          (inside (held_high f.handle) s.memory)) left
          ∙ ap (λ (x : Named). program (loaded_from x.first x.count p.table) after.resources
          (inside (held_high f.handle) after.memory)) (sym can.1)
          ∙ ap (λ (l : List Entry). program l after.resources (inside (held_high f.handle) after.memory)) (sym loaded)
          ∙ ap (program table after.resources) (sym high),
    )
  where
    a : Fetch
    a = fetch_own code_type n p.managers

    done : Answer Fetched
    done = record {
      reply = Ok f;
      reads = a.reads;
      reading = a.reading;
      wants = false;
      after = program (loaded_from (first_entry code) (entry_count code) p.table) a.after.resources
          (inside (held_high f.handle) a.after.memory);
    }

    refused_by : Answer Fetched
    refused_by = record {
      reply = Err SYSTEM_ERROR;
      reads = a.reads;
      reading = None;
      wants = false;
      after = record { managers = a.after; table = p.table };
    }

-- a call through an entry, by whether that is loaded
called_entry : (i : ℕ) (p : Program) (e : StoredEntry) (n : ℤ) (t : Bool)
    → option_map view_entry (Some e) ≡ slice_get p.table i → e.segment ≡ Some n → e.loaded ≡ t
    → call_entry i p ≡ cond t (call_loaded n p) (call_loading n (load_seg n p))
called_entry i p e n t here of is =
    ap (λ o. call_found o p) (sym here) ∙ ap (λ o. call_through o e.loaded p) of
    ∙ ap (λ t. cond t (call_loaded n p) (call_loading n (load_seg n p))) is

pub called_there : (i : ℕ) (p : Program) (e : StoredEntry) (n : ℤ) (result : Result CalledSegment Unloaded)
    (after : Program) → option_map view_entry (Some e) ≡ slice_get p.table i → e.segment ≡ Some n → e.loaded ≡ true
    → IsCalled (call_loaded n p) result after → IsCalled (call_entry i p) result after
called_there i p e n result after here of is called =
    subst (λ (a : Answer Called). IsCalled a result after) (sym (called_entry i p e n true here of is)) called

pub called_first : (i : ℕ) (p : Program) (e : StoredEntry) (n : ℤ) (result : Result CalledSegment Unloaded)
    (after : Program) → option_map view_entry (Some e) ≡ slice_get p.table i → e.segment ≡ Some n → e.loaded ≡ false
    → IsCalled (call_loading n (load_seg n p)) result after → IsCalled (call_entry i p) result after
called_first i p e n result after here of is called =
    subst (λ (a : Answer Called). IsCalled a result after) (sym (called_entry i p e n false here of is)) called
