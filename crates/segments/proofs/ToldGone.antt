-- What a call of the Segment Manager reports is what it purges.
use Rattle.segments.proofs.Cited.{◌≡◌, ℕ, ℤ, pos, ◌≤◌, Bool, true, false, cond, List, [], Option, Some, None, Result, Ok, Err, refl, sym}
use Rattle.segments.proofs.Cited.{◌∙◌, ap, arith, slice_get, int_eq, OsErr, LOCKED, PROFILE, SYSTEM_ERROR, SegmentCall, sizes}
use Rattle.segments.proofs.Cited.{GREATEST_ZONE, Gone, has_block, State, bytes_in, held-has, loosened-has, Managers, Fetched, Found}
use Rattle.segments.proofs.Cited.{own_gone, find_own, own_handle, fetch_own, bars, TellsWhatGoes, TellsOfPurgeable, TellsOnce, own-tells}
use Rattle.segments.proofs.Cited.{own-loose, own-once, none-bytes, OnceEach, served, Program, Answer, Called, code_type, load_seg}
use Rattle.segments.proofs.Cited.{load_datum, load_by, load_fetched, refused, done, let_loose, unload_handle, call_through, call_found}
use Rattle.segments.proofs.Cited.{show_of, show_found, is_there, load_gone, through_gone, entry_gone, gone_for, Entry, can_load, unloaded}
use Rattle.std.specs.Option.{option_map}
use Rattle.mac_words.specs.declared.segment_call.SegmentCall.TheVariants as segment
use Rattle.res_calls.specs.Fetch as fetching

-- where nothing is reported each handle that had a block has one
pub quiet : (before after : State) → ((h : ℕ) → has_block h after ≡ has_block h before) → TellsWhatGoes [] before after
quiet before after same h within = by_block (has_block h before) refl
    ∙ ap (λ (t : Bool). cond t [] (bytes_in h before.zone)) (sym (same h))
  where
    by_block : (t : Bool) → has_block h before ≡ t → [] ≡ cond t [] (bytes_in h before.zone)
    by_block true e = refl
    by_block false e = sym (none-bytes h before.zone e)

-- a call reports nothing, or what the fetch of a segment does
gone-is : (P : List Gone → Type 0) (p : Program) → P [] → ((n : ℤ) → P (own_gone code_type n p.managers))
    → (call : SegmentCall) → P (gone_for call p)
gone-is P p none own call = by_call call
  where
    load : (n : ℤ) → P (load_gone n p)
    load n = by_zero (int_eq n (pos 0))
      where
        by_zero : (t : Bool) → P (cond t [] (own_gone code_type n p.managers))
        by_zero true = none
        by_zero false = own n

    through : (s : Option ℤ) (t : Bool) → P (through_gone s t p)
    through None t = none
    through (Some n) true = none
    through (Some n) false = load n

    entry : (o : Option Entry) → P (entry_gone o p)
    entry None = none
    entry (Some e) = through e.segment e.loaded

    by_call : (call : SegmentCall) → P (gone_for call p)
    by_call (segment.LoadSeg n) = load n
    by_call (segment.UnloadSeg n) = none
    by_call (segment.CallEntry i) = entry (slice_get p.table i)
    by_call (segment.ShowEntry i) = none

module _ (p : Program) (once : OnceEach p.managers.memory.heap)
    (small : sizes p.managers.memory.heap.zone ≤ GREATEST_ZONE)
  where
    abbrev Tells : {T : Type 0} → List Gone → Answer T → Type 0
    Tells gone a = TellsWhatGoes gone p.managers.memory.heap a.after.managers.memory.heap

    abbrev fetched : ℤ → fetching.Answer Fetched
    fetched n = fetch_own code_type n p.managers

    same : TellsWhatGoes [] p.managers.memory.heap p.managers.memory.heap
    same = quiet p.managers.memory.heap p.managers.memory.heap (λ h. refl)

    -- a segment that is fetched, and one whose block is held high then
    read : (n : ℤ) → TellsWhatGoes (own_gone code_type n p.managers) p.managers.memory.heap (fetched n).after.memory.heap
    read n = own-tells code_type n p.managers once small

    loaded-tells : (n : ℤ) (code : List ℕ) (f : Fetched)
        → Tells (own_gone code_type n p.managers) (load_fetched n code f (fetched n) p.table)
    loaded-tells n code f = by_fit (can_load n code p.table) refl
      where
        by_fit : (t : Bool) → can_load n code p.table ≡ t
            → Tells (own_gone code_type n p.managers) (load_fetched n code f (fetched n) p.table)
        by_fit true fits = rw fits (λ h within. read n h within
            ∙ ap (λ (t : Bool). cond t [] (bytes_in h p.managers.memory.heap.zone))
            (sym (held-has f.handle (fetched n).after.memory.heap h)))
        by_fit false fits = rw fits (read n)

    by-reply : (n : ℤ) (code : List ℕ) (r : Result Fetched OsErr)
        → Tells (own_gone code_type n p.managers) (load_by n code r (fetched n) p.table)
    by-reply n code (Err refusal) = read n
    by-reply n code (Ok f) = loaded-tells n code f

    load-tells : (n : ℤ) → Tells (load_gone n p) (load_seg n p)
    load-tells n = by_zero (int_eq n (pos 0))
      where
        datum : Found → List ℕ
        datum at = at.reference.here.stored.datum

        by_found : (o : Option Found) → find_own code_type n p.managers.resources ≡ o
            → Tells (own_gone code_type n p.managers) (load_datum n (option_map datum o) p)
        by_found None e = rw e same
        by_found (Some at) e = by-reply n (datum at) (fetched n).reply

        by_zero : (t : Bool) → Tells (cond t [] (own_gone code_type n p.managers))
            (cond t (refused SYSTEM_ERROR p) (load_datum n (option_map datum (find_own code_type n p.managers.resources)) p))
        by_zero true = same
        by_zero false = by_found (find_own code_type n p.managers.resources) refl

    -- a call through an entry
    call-tells : (o : Option Entry) → Tells (entry_gone o p) (call_found o p)
    call-tells None = same
    call-tells (Some e) = by_segment e.segment e.loaded
      where
        there : ℤ → Answer Called
        there n = done (record { segment = n; read = 0 }) p

        by_block : (n : ℤ) (t : Bool) → Tells [] (cond t (there n) (refused PROFILE p))
        by_block n true = same
        by_block n false = same

        by_segment : (s : Option ℤ) (t : Bool) → Tells (through_gone s t p) (call_through s t p)
        by_segment None t = same
        by_segment (Some n) true = by_block n (is_there (own_handle code_type n p.managers.resources) p.managers)
        by_segment (Some n) false = load-tells n

    -- a segment that is unloaded, and an entry that is shown
    unload-tells : (n : ℤ) (o : Option ℕ) → Tells [] (unload_handle n o p)
    unload-tells n o = by_busy (bars o p.managers.memory)
      where
        loose : (o : Option ℕ) → TellsWhatGoes [] p.managers.memory.heap (let_loose o p.managers).memory.heap
        loose None = same
        loose (Some k) = quiet p.managers.memory.heap (let_loose (Some k) p.managers).memory.heap
            (λ h. loosened-has k p.managers.memory.heap h)

        unloaded_now : Answer (Unit {0})
        unloaded_now = done tt (record { managers = let_loose o p.managers; table = unloaded n p.table })

        by_busy : (t : Bool) → Tells [] (cond t (refused LOCKED p) unloaded_now)
        by_busy true = same
        by_busy false = loose o

    show-tells : (o : Option Entry) → Tells [] (show_found o p)
    show-tells None = same
    show-tells (Some e) = by_segment e.segment
      where
        by_segment : (s : Option ℤ) → Tells [] (show_of s e.loaded p)
        by_segment None = same
        by_segment (Some n) = same

    pub served-tells : (call : SegmentCall)
        → TellsWhatGoes (gone_for call p) p.managers.memory.heap (served call p).after.managers.memory.heap
    served-tells (segment.LoadSeg n) = load-tells n
    served-tells (segment.UnloadSeg n) = unload-tells n (own_handle code_type n p.managers.resources)
    served-tells (segment.CallEntry i) = call-tells (slice_get p.table i)
    served-tells (segment.ShowEntry i) = show-tells (slice_get p.table i)

    pub told-loose : (call : SegmentCall) → TellsOfPurgeable (gone_for call p) p.managers.memory.heap
    told-loose = gone-is (λ gone. TellsOfPurgeable gone p.managers.memory.heap) p (λ h some. absurd (omega arith))
        (λ n. own-loose code_type n p.managers once small)

    pub told-once : (call : SegmentCall) → TellsOnce (gone_for call p)
    told-once = gone-is TellsOnce p (λ h. omega arith) (λ n. own-once code_type n p.managers once small)
