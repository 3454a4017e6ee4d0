use Rattle.segments.proofs.Cited.{◌≡◌, ◌≢◌, ◌≤◌, ◌<◌, ◌+◌, ◌^◌, ◌==◌, ℕ, ℤ, pos, Bool, true, false, Option, Some, None, Result, Ok, Err}
use Rattle.segments.proofs.Cited.{List, [], length, slice_get, cond, refl, sym, ◌∙◌, ap, arith, true≢false, int_eq, OsErr, LOCKED, MEM_FULL}
use Rattle.segments.proofs.Cited.{PROFILE, SYSTEM_ERROR, SegmentCall, Told, Done, Refused, sizes, count, is_masters, is_relocatable, has}
use Rattle.segments.proofs.Cited.{Site, counted, Memory, inside, loosened, resource_role_at, staying, locked_place, pointer_place}
use Rattle.segments.proofs.Cited.{has_purgeable, put_reads, told_as, Known, unsearched, held-known, loosened-known, held-locked}
use Rattle.segments.proofs.Cited.{loosened-locked, held-nonrelocatable, loosened-nonrelocatable, held-bytes, loosened-bytes, held-has}
use Rattle.segments.proofs.Cited.{loosened-has, held-masters, loosened-masters, Managers, Reads, Fetched, own_datum, own_handle, fetch_own}
use Rattle.segments.proofs.Cited.{Owns, Sound, bars, with_memory, own-known, own-locked, own-nonrelocatable, own-purgeable, own-bytes}
use Rattle.segments.proofs.Cited.{own-masters, own-searches, own-fits, own-no_more, own-busy, own-code, own-window, own-files}
use Rattle.segments.proofs.Cited.{own-elsewhere, own-owns, own-sound, own-unread, moved, answer_moved, Entry, can_load, unloaded, Program}
use Rattle.segments.proofs.Cited.{Answer, Called, done, refused, held, load_fetched, load_by, load_datum, load_seg, unload_handle}
use Rattle.segments.proofs.Cited.{unload_seg, called, call_loading, is_there, call_loaded, call_through, call_found, call_entry, show_of}
use Rattle.segments.proofs.Cited.{show_found, show_entry, code_type, Served, telling, tell_loaded, tell_called, tell_shown, served, is_same}
use Rattle.segments.proofs.Cited.{unlocks}
use Rattle.mac_words.specs.declared.segment_call.SegmentCall.TheVariants as segment
use Rattle.res_calls.specs.Fetch as fetching

-- The laws of one try of a segment's call.

-- a segment's fetch
abbrev fetched : ℤ → Program → fetching.Answer Fetched
fetched n p = fetch_own code_type n p.managers

-- a segment whose handle is let loose
abbrev loose : ℕ → Program → Managers
loose h p = with_memory (inside (loosened h) p.managers.memory) p.managers

-- what holds of an answer's want of room, of what it read, and of the managers after it
module _ (P : Bool → Reads → Managers → Type 0) (p : Program) (same : P false [] p.managers)
    (read : (n : ℤ) (wants : Bool) → (wants ≡ true → (code : OsErr) × ((fetched n p).reply ≡ Err code))
    → P wants (fetched n p).reads (fetched n p).after)
    (high : (n : ℤ) (h : ℕ) → P false (fetched n p).reads (held h (fetched n p).after))
  where
    abbrev Goes : {T : Type 0} → Answer T → Type 0
    Goes a = P a.wants a.reads a.after.managers

    -- a segment that is loaded, or isn't
    loaded-goes : (n : ℤ) (code : List ℕ) (f : Fetched) → Goes (load_fetched n code f (fetched n p) p.table)
    loaded-goes n code f = by_fit (can_load n code p.table) refl
      where
        by_fit : (t : Bool) → can_load n code p.table ≡ t → Goes (load_fetched n code f (fetched n p) p.table)
        by_fit true fits = rw fits (high n f.handle)
        by_fit false fits = rw fits (read n false (λ wants. let no : false ≡ true = wants in cc))

    by-reply : (n : ℤ) (code : List ℕ) (r : Result Fetched OsErr) → (fetched n p).reply ≡ r
        → Goes (load_by n code r (fetched n p) p.table)
    by-reply n code (Err refusal) is = read n (int_eq refusal.0 MEM_FULL.0) (λ wants. (refusal, is))
    by-reply n code (Ok f) is = loaded-goes n code f

    by-datum : (n : ℤ) (o : Option (List ℕ)) → Goes (load_datum n o p)
    by-datum n None = same
    by-datum n (Some code) = by-reply n code (fetched n p).reply refl

    load-goes : (n : ℤ) → Goes (load_seg n p)
    load-goes n = by_zero (int_eq n (pos 0))
      where
        by_zero : (t : Bool) → Goes (cond t (refused SYSTEM_ERROR p)
            (load_datum n (own_datum code_type n p.managers.resources) p))
        by_zero true = same
        by_zero false = by-datum n (own_datum code_type n p.managers.resources)

    -- a call through an entry
    call-goes : (o : Option Entry) → Goes (call_found o p)
    call-goes None = same
    call-goes (Some e) = by_segment e.segment e.loaded
      where
        there : ℤ → Answer Called
        there n = done (record { segment = n; read = 0 }) p

        by_block : (n : ℤ) (t : Bool)
            → Goes (cond t (there n) (refused PROFILE p))
        by_block n true = same
        by_block n false = same

        by_segment : (s : Option ℤ) (t : Bool) → Goes (call_through s t p)
        by_segment None t = same
        by_segment (Some n) true = by_block n (is_there (own_handle code_type n p.managers.resources) p.managers)
        by_segment (Some n) false = load-goes n

    -- an entry that is shown
    show-goes : (o : Option Entry) → Goes (show_found o p)
    show-goes None = same
    show-goes (Some e) = by_segment e.segment
      where
        by_segment : (s : Option ℤ) → Goes (show_of s e.loaded p)
        by_segment None = same
        by_segment (Some n) = same

    -- a segment that is unloaded
    unload-goes : (n : ℤ) (o : Option ℕ) → ((h : ℕ) → o ≡ Some h → P false [] (loose h p)) → Goes (unload_handle n o p)
    unload-goes n None loosed = same
    unload-goes n (Some h) loosed = by_busy (bars (Some h) p.managers.memory)
      where
        unloaded_now : Answer (Unit {0})
        unloaded_now = done tt (record { managers = loose h p; table = unloaded n p.table })

        by_busy : (t : Bool) → Goes (cond t (refused LOCKED p) unloaded_now)
        by_busy true = same
        by_busy false = loosed h refl

    -- a call comes to nothing; or to a fetch; or to one whose block is held high; or it lets a handle loose
    served-goes : (c : SegmentCall) → ((h : ℕ) → ((k : ℕ) → unlocks k c p.managers ≡ (h == k)) → P false [] (loose h p))
        → P (served c p).wants (served c p).reads (served c p).after.managers
    served-goes (segment.LoadSeg n) loosed = load-goes n
    served-goes (segment.UnloadSeg n) loosed = unload-goes n (own_handle code_type n p.managers.resources)
        (λ h is. loosed h (λ k. ap (is_same k) is))
    served-goes (segment.CallEntry i) loosed = call-goes (slice_get p.table i)
    served-goes (segment.ShowEntry i) loosed = show-goes (slice_get p.table i)

-- each block holds what was last put into it, or read
pub served-known : (c : SegmentCall) (p : Program) (bytes : ℕ → List ℕ) → Known p.managers.memory.heap bytes
    → Known (served c p).after.managers.memory.heap (put_reads (served c p).reads bytes)
served-known c p bytes known =
    served-goes (λ wants reads s. Known s.memory.heap (put_reads reads bytes)) p known
    (λ n wants full. own-known code_type n p.managers bytes known)
    (λ n h. held-known h (fetched n p).after.memory.heap (put_reads (fetched n p).reads bytes)
    (own-known code_type n p.managers bytes known))
    c (λ h is. loosened-known h p.managers.memory.heap bytes known)

-- locked blocks stay, but for one that is unlocked, and pointers' blocks
pub served-locked : (c : SegmentCall) (p : Program) (bytes : ℕ → List ℕ) → Known p.managers.memory.heap bytes
    → (h place : ℕ) → unlocks h c p.managers ≡ false → locked_place h p.managers.memory.heap.zone ≡ Some place
    → locked_place h (served c p).after.managers.memory.heap.zone ≡ Some place
served-locked c p bytes known h place keeps is =
    served-goes (λ wants reads s. locked_place h s.memory.heap.zone ≡ Some place) p is
    (λ n wants full. own-locked code_type n p.managers bytes known h place is)
    (λ n k. held-locked k (fetched n p).after.memory.heap (put_reads (fetched n p).reads bytes)
    (own-known code_type n p.managers bytes known) h place
    (own-locked code_type n p.managers bytes known h place is))
    c (λ k same. loosened-locked k h (sym (same h) ∙ keeps) p.managers.memory.heap ∙ is)

pub served-nonrelocatable : (c : SegmentCall) (p : Program) (bytes : ℕ → List ℕ) → Known p.managers.memory.heap bytes
    → (q place : ℕ) → pointer_place q p.managers.memory.heap.zone ≡ Some place
    → pointer_place q (served c p).after.managers.memory.heap.zone ≡ Some place
served-nonrelocatable c p bytes known q place is =
    served-goes (λ wants reads s. pointer_place q s.memory.heap.zone ≡ Some place) p is
    (λ n wants full. own-nonrelocatable code_type n p.managers q place is)
    (λ n k. held-nonrelocatable k (fetched n p).after.memory.heap q ∙ own-nonrelocatable code_type n p.managers q place is)
    c (λ k same. loosened-nonrelocatable k p.managers.memory.heap q ∙ is)

-- only blocks that may be purged are
pub served-purgeable : (c : SegmentCall) (p : Program) (bytes : ℕ → List ℕ) → Known p.managers.memory.heap bytes
    → (h : ℕ) → has (is_relocatable h) p.managers.memory.heap.zone ≡ true
    → has (is_relocatable h) (served c p).after.managers.memory.heap.zone ≡ false
    → has_purgeable h p.managers.memory.heap.zone ≡ true
served-purgeable c p bytes known h before =
    served-goes (λ wants reads s. has (is_relocatable h) s.memory.heap.zone ≡ false
    → has_purgeable h p.managers.memory.heap.zone ≡ true) p both
    (λ n wants full. own-purgeable code_type n p.managers h before)
    (λ n k gone. own-purgeable code_type n p.managers h before
    (sym (held-has k (fetched n p).after.memory.heap h) ∙ gone))
    c (λ k same gone. both (sym (loosened-has k p.managers.memory.heap h) ∙ gone))
  where
    both : has (is_relocatable h) p.managers.memory.heap.zone ≡ false
        → has_purgeable h p.managers.memory.heap.zone ≡ true
    both gone = let no : true ≡ false = sym before ∙ gone in cc

-- the zone keeps its size, and its blocks of master pointers
pub served-bytes : (c : SegmentCall) (p : Program)
    → sizes (served c p).after.managers.memory.heap.zone ≡ sizes p.managers.memory.heap.zone
served-bytes c p =
    served-goes (λ wants reads s. sizes s.memory.heap.zone ≡ sizes p.managers.memory.heap.zone) p refl
    (λ n wants full. own-bytes code_type n p.managers)
    (λ n k. held-bytes k (fetched n p).after.memory.heap ∙ own-bytes code_type n p.managers)
    c (λ k same. loosened-bytes k p.managers.memory.heap)

pub served-masters : (c : SegmentCall) (p : Program)
    → count is_masters p.managers.memory.heap.zone ≤ count is_masters (served c p).after.managers.memory.heap.zone
served-masters c p = served-goes
    (λ wants reads s. count is_masters p.managers.memory.heap.zone ≤ count is_masters s.memory.heap.zone) p
    (let z : count is_masters p.managers.memory.heap.zone ≤ count is_masters p.managers.memory.heap.zone = omega arith
    in z)
    (λ n wants full. own-masters code_type n p.managers)
    (λ n k. let as_many = held-masters k (fetched n p).after.memory.heap in
    let kept = own-masters code_type n p.managers in omega arith)
    c (λ k same. let as_many = loosened-masters k p.managers.memory.heap in omega arith)

-- it searches at most once more than there are blocks
pub served-searches : (c : SegmentCall) (p : Program) → 0 < count is_masters p.managers.memory.heap.zone
    → p.managers.memory.log.searches < 2 ^ 64 → (n : ℕ) × (n ≤ length p.managers.memory.heap.zone + 1)
    × ((served c p).after.managers.memory.log.searches ≡ counted p.managers.memory.log.searches n)
served-searches c p masters fits = served-goes
    (λ wants reads s. (n : ℕ) × (n ≤ length p.managers.memory.heap.zone + 1)
    × (s.memory.log.searches ≡ counted p.managers.memory.log.searches n)) p none
    (λ n wants full. own-searches code_type n p.managers masters fits)
    (λ n k. own-searches code_type n p.managers masters fits)
    c (λ k same. none)
  where
    none : (n : ℕ) × (n ≤ length p.managers.memory.heap.zone + 1)
        × (p.managers.memory.log.searches ≡ counted p.managers.memory.log.searches n)
    none = unsearched p.managers.memory.heap.zone p.managers.memory.log.searches fits

-- where it finds no room no more stays than before it
pub served-no_more : (c : SegmentCall) (p : Program) → (served c p).wants ≡ true
    → staying (served c p).after.managers.memory.heap.zone ≤ staying p.managers.memory.heap.zone
served-no_more c p = served-goes
    (λ wants reads s. wants ≡ true → staying s.memory.heap.zone ≤ staying p.managers.memory.heap.zone) p
    (λ wants. cc)
    (λ n t full wants. let refusal = full wants in own-no_more code_type n p.managers refusal.0 refusal.1)
    (λ n k wants. cc)
    c (λ k same wants. cc)

-- and it read nothing, and left the resources
pub served-unread : (c : SegmentCall) (p : Program) → (served c p).wants ≡ true → (served c p).reads ≡ []
served-unread c p = served-goes (λ wants reads s. wants ≡ true → reads ≡ []) p (λ wants. refl)
    (λ n t full wants. let refusal = full wants in own-unread code_type n p.managers refusal.0 refusal.1)
    (λ n k wants. cc) c (λ k same wants. refl)

-- the count of searches always fits
pub served-fits : (c : SegmentCall) (p : Program) → 0 < count is_masters p.managers.memory.heap.zone
    → p.managers.memory.log.searches < 2 ^ 64 → (served c p).after.managers.memory.log.searches < 2 ^ 64
served-fits c p masters fits = served-goes (λ wants reads s. s.memory.log.searches < 2 ^ 64) p fits
    (λ n wants full. own-fits code_type n p.managers masters fits)
    (λ n k. own-fits code_type n p.managers masters fits) c (λ k same. fits)

-- it changes neither what is busy, nor the code that MemError tells, nor where the heap lies, nor the files
pub served-busy : (c : SegmentCall) (p : Program)
    → (served c p).after.managers.memory.log.busy ≡ p.managers.memory.log.busy
served-busy c p = served-goes (λ wants reads s. s.memory.log.busy ≡ p.managers.memory.log.busy) p refl
    (λ n wants full. own-busy code_type n p.managers) (λ n k. own-busy code_type n p.managers) c (λ k same. refl)

pub served-code : (c : SegmentCall) (p : Program)
    → (served c p).after.managers.memory.log.code ≡ p.managers.memory.log.code
served-code c p = served-goes (λ wants reads s. s.memory.log.code ≡ p.managers.memory.log.code) p refl
    (λ n wants full. own-code code_type n p.managers) (λ n k. own-code code_type n p.managers) c (λ k same. refl)

pub served-window : (c : SegmentCall) (p : Program)
    → (served c p).after.managers.memory.window ≡ p.managers.memory.window
served-window c p = served-goes (λ wants reads s. s.memory.window ≡ p.managers.memory.window) p refl
    (λ n wants full. own-window code_type n p.managers) (λ n k. own-window code_type n p.managers) c (λ k same. refl)

pub served-files : (c : SegmentCall) (p : Program)
    → (served c p).after.managers.resources.files ≡ p.managers.resources.files
served-files c p = served-goes (λ wants reads s. s.resources.files ≡ p.managers.resources.files) p refl
    (λ n wants full. own-files code_type n p.managers) (λ n k. own-files code_type n p.managers) c (λ k same. refl)

pub served-sound : (c : SegmentCall) (p : Program) → Sound p.managers.resources
    → Sound (served c p).after.managers.resources
served-sound c p sound = served-goes (λ wants reads s. Sound s.resources) p sound
    (λ n wants full. own-sound code_type n p.managers sound)
    (λ n k. own-sound code_type n p.managers sound) c (λ k same. sound)

-- where it is refused it leaves all as it was, but for a system error
abbrev Leaves : {T : Type 0} (before : Program) (answer : Answer T) → Type 0
Leaves p a = (code : OsErr) → a.reply ≡ Err code → code ≢ SYSTEM_ERROR → a.after ≡ p

-- a system error
fatal-leaves : {T : Type 0} (p : Program) (a : Answer T) → a.reply ≡ Err SYSTEM_ERROR → Leaves p a
fatal-leaves p a fatal code is other = let same : code ≡ SYSTEM_ERROR = cc in absurd (other same)

-- an answer that leaves the program
same-leaves : {T : Type 0} (p : Program) (a : Answer T) → a.after ≡ p → Leaves p a
same-leaves p a same code is other = same

-- one that isn't refused
done-leaves : {T : Type 0} (p : Program) (a : Answer T) (value : T) → a.reply ≡ Ok value → Leaves p a
done-leaves p a value well code is other = cc

load-leaves : (n : ℤ) (p : Program) → Leaves p (load_seg n p)
load-leaves n p = by_zero (int_eq n (pos 0))
  where
    by_fit : (code : List ℕ) (f : Fetched) (t : Bool) → can_load n code p.table ≡ t
        → Leaves p (load_fetched n code f (fetched n p) p.table)
    by_fit code f true fits = done-leaves p (load_fetched n code f (fetched n p) p.table) f (rw fits refl)
    by_fit code f false fits = fatal-leaves p (load_fetched n code f (fetched n p) p.table) (rw fits refl)

    by_reply : (code : List ℕ) (r : Result Fetched OsErr) → Leaves p (load_by n code r (fetched n p) p.table)
    by_reply code (Err refusal) = fatal-leaves p (load_by n code (Err refusal) (fetched n p) p.table) refl
    by_reply code (Ok f) = by_fit code f (can_load n code p.table) refl

    by_datum : (o : Option (List ℕ)) → Leaves p (load_datum n o p)
    by_datum None = fatal-leaves p (load_datum n None p) refl
    by_datum (Some code) = by_reply code (fetched n p).reply

    by_zero : (t : Bool) → Leaves p (cond t (refused SYSTEM_ERROR p)
        (load_datum n (own_datum code_type n p.managers.resources) p))
    by_zero true = fatal-leaves p (load_datum n None p) refl
    by_zero false = by_datum (own_datum code_type n p.managers.resources)

-- a call through an entry, by its segment's load
calling-leaves : (n : ℤ) (p : Program) (a : Answer Fetched) → Leaves p a → Leaves p (call_loading n a)
calling-leaves n p a leaves code is = leaves code (by_reply a.reply is)
  where
    by_reply : (r : Result Fetched OsErr) → called n r ≡ Err code → r ≡ Err code
    by_reply (Ok f) e = cc
    by_reply (Err why) e = let same : why ≡ code = cc in ap (λ (c : OsErr). Err c) same

call-leaves : (o : Option Entry) (p : Program) → Leaves p (call_found o p)
call-leaves None p = same-leaves p (call_found None p) refl
call-leaves (Some e) p = by_segment e.segment e.loaded
  where
    by_block : (n : ℤ) (t : Bool) → is_there (own_handle code_type n p.managers.resources) p.managers ≡ t
        → Leaves p (call_loaded n p)
    by_block n true there = same-leaves p (call_loaded n p) (rw there refl)
    by_block n false there = same-leaves p (call_loaded n p) (rw there refl)

    by_segment : (s : Option ℤ) (t : Bool) → Leaves p (call_through s t p)
    by_segment None t = same-leaves p (call_through None t p) refl
    by_segment (Some n) true =
        by_block n (is_there (own_handle code_type n p.managers.resources) p.managers) refl
    by_segment (Some n) false = calling-leaves n p (load_seg n p) (load-leaves n p)

show-leaves : (o : Option Entry) (p : Program) → Leaves p (show_found o p)
show-leaves None p = same-leaves p (show_found None p) refl
show-leaves (Some e) p = by_segment e.segment
  where
    by_segment : (s : Option ℤ) → Leaves p (show_of s e.loaded p)
    by_segment None = same-leaves p (show_of None e.loaded p) refl
    by_segment (Some n) = same-leaves p (show_of (Some n) e.loaded p) refl

unload-leaves : (n : ℤ) (o : Option ℕ) (p : Program) → Leaves p (unload_handle n o p)
unload-leaves n o p = by_busy (bars o p.managers.memory) refl
  where
    by_busy : (t : Bool) → bars o p.managers.memory ≡ t → Leaves p (unload_handle n o p)
    by_busy true busy = same-leaves p (unload_handle n o p) (rw busy refl)
    by_busy false busy = done-leaves p (unload_handle n o p) tt (rw busy refl)

-- what is told of a refusal
abbrev is_refusal : Told → Bool
is_refusal (Refused code) = true
is_refusal told = false

pub told-refused : {T : Type 0} (tell : T → Told) → ((value : T) → is_refusal (tell value) ≡ false)
    → (code : OsErr) (r : Result T OsErr) → told_as tell r ≡ Refused code → r ≡ Err code
told-refused tell quiet code (Ok value) e = absurd (true≢false (sym (ap is_refusal e) ∙ quiet value))
told-refused tell quiet code (Err why) e =
    let told : Refused why ≡ Refused code = e in
    let same : why ≡ code = cc in ap (λ (c : OsErr). Err c) same

telling-leaves : {T : Type 0} (tell : T → Told) (p : Program) (a : Answer T)
    → ((value : T) → is_refusal (tell value) ≡ false) → Leaves p a → (code : OsErr)
    → (telling tell a).told ≡ Refused code → code ≢ SYSTEM_ERROR → (telling tell a).after ≡ p
telling-leaves tell p a quiet leaves code tells = leaves code (told-refused tell quiet code a.reply tells)

pub served-refused : (c : SegmentCall) (p : Program) (code : OsErr) → (served c p).told ≡ Refused code
    → code ≢ SYSTEM_ERROR → (served c p).after ≡ p
served-refused (segment.LoadSeg n) p = telling-leaves tell_loaded p (load_seg n p) (λ f. refl) (load-leaves n p)
served-refused (segment.UnloadSeg n) p = telling-leaves (λ x. Done) p (unload_seg n p) (λ x. refl)
    (unload-leaves n (own_handle code_type n p.managers.resources) p)
served-refused (segment.CallEntry i) p = telling-leaves tell_called p (call_entry i p) (λ f. refl)
    (call-leaves (slice_get p.table i) p)
served-refused (segment.ShowEntry i) p = telling-leaves tell_shown p (show_entry i p) (λ e. refl)
    (show-leaves (slice_get p.table i) p)

-- a program elsewhere, and what a call answers there
abbrev pub program_moved : Site → Program → Program
program_moved window p = record p { managers = moved window p.managers }

abbrev pub answer_there : {T : Type 0} → Site → Answer T → Answer T
answer_there window a = record a { after = program_moved window a.after }

abbrev pub served_moved : Site → Served → Served
served_moved window x = record x { after = program_moved window x.after }

-- a load
fit-place : (window : Site) (n : ℤ) (code : List ℕ) (f : Fetched) (a : fetching.Answer Fetched) (table : List Entry)
    → load_fetched n code f (answer_moved window a) table ≡ answer_there window (load_fetched n code f a table)
fit-place window n code f a table = by_fit (can_load n code table) refl
  where
    by_fit : (t : Bool) → can_load n code table ≡ t → load_fetched n code f (answer_moved window a) table
        ≡ answer_there window (load_fetched n code f a table)
    by_fit true fits = rw fits refl
    by_fit false fits = rw fits refl

by-place : (window : Site) (n : ℤ) (code : List ℕ) (r : Result Fetched OsErr) (a : fetching.Answer Fetched)
    (table : List Entry)
    → load_by n code r (answer_moved window a) table ≡ answer_there window (load_by n code r a table)
by-place window n code (Err refusal) a table = refl
by-place window n code (Ok f) a table = fit-place window n code f a table

datum-place : (window : Site) (n : ℤ) (o : Option (List ℕ)) (p : Program)
    → load_datum n o (program_moved window p) ≡ answer_there window (load_datum n o p)
datum-place window n None p = refl
datum-place window n (Some code) p =
    ap (λ (a : fetching.Answer Fetched). load_by n code a.reply a p.table)
    (own-elsewhere window code_type n p.managers)
    ∙ by-place window n code (fetched n p).reply (fetched n p) p.table

load-place : (window : Site) (n : ℤ) (p : Program)
    → load_seg n (program_moved window p) ≡ answer_there window (load_seg n p)
load-place window n p = by_zero (int_eq n (pos 0))
  where
    datum : Option (List ℕ)
    datum = own_datum code_type n p.managers.resources

    by_zero : (t : Bool)
        → cond t (refused SYSTEM_ERROR (program_moved window p)) (load_datum n datum (program_moved window p))
        ≡ answer_there window (cond t (refused SYSTEM_ERROR p) (load_datum n datum p))
    by_zero true = refl
    by_zero false = datum-place window n datum p

-- an unloading
unload-place : (window : Site) (n : ℤ) (o : Option ℕ) (p : Program)
    → unload_handle n o (program_moved window p) ≡ answer_there window (unload_handle n o p)
unload-place window n None p = refl
unload-place window n (Some h) p = by_busy (bars (Some h) p.managers.memory)
  where
    unloaded_of_all : Program → Answer (Unit {0})
    unloaded_of_all q = done tt (record { managers = loose h q; table = unloaded n q.table })

    by_busy : (t : Bool)
        → cond t (refused LOCKED (program_moved window p)) (unloaded_of_all (program_moved window p))
        ≡ answer_there window (cond t (refused LOCKED p) (unloaded_of_all p))
    by_busy true = refl
    by_busy false = refl

-- a call through an entry, and one that is shown
call-place : (window : Site) (o : Option Entry) (p : Program)
    → call_found o (program_moved window p) ≡ answer_there window (call_found o p)
call-place window None p = refl
call-place window (Some e) p = by_segment e.segment e.loaded
  where
    there : ℤ → Program → Answer Called
    there n q = done (record { segment = n; read = 0 }) q

    by_block : (n : ℤ) (t : Bool)
        → cond t (there n (program_moved window p)) (refused PROFILE (program_moved window p))
        ≡ answer_there window (cond t (there n p) (refused PROFILE p))
    by_block n true = refl
    by_block n false = refl

    there-place : (o : Option ℕ) → is_there o (moved window p.managers) ≡ is_there o p.managers
    there-place None = refl
    there-place (Some h) = refl

    by_segment : (s : Option ℤ) (t : Bool)
        → call_through s t (program_moved window p) ≡ answer_there window (call_through s t p)
    by_segment None t = refl
    by_segment (Some n) true =
        ap (λ (t : Bool). cond t (there n (program_moved window p)) (refused PROFILE (program_moved window p)))
        (there-place (own_handle code_type n p.managers.resources))
        ∙ by_block n (is_there (own_handle code_type n p.managers.resources) p.managers)
    by_segment (Some n) false = ap (call_loading n) (load-place window n p)

show-place : (window : Site) (o : Option Entry) (p : Program)
    → show_found o (program_moved window p) ≡ answer_there window (show_found o p)
show-place window None p = refl
show-place window (Some e) p = by_segment e.segment
  where
    by_segment : (s : Option ℤ)
        → show_of s e.loaded (program_moved window p) ≡ answer_there window (show_of s e.loaded p)
    by_segment None = refl
    by_segment (Some n) = refl

-- what a call comes to doesn't hang on where the heap lies
pub served-elsewhere : (window : Site) (c : SegmentCall) (p : Program)
    → served c (program_moved window p) ≡ served_moved window (served c p)
served-elsewhere window (segment.LoadSeg n) p = ap (telling tell_loaded) (load-place window n p)
served-elsewhere window (segment.UnloadSeg n) p = ap (telling (λ x. Done))
    (unload-place window n (own_handle code_type n p.managers.resources) p)
served-elsewhere window (segment.CallEntry i) p = ap (telling tell_called)
    (call-place window (slice_get p.table i) p)
served-elsewhere window (segment.ShowEntry i) p = ap (telling tell_shown) (show-place window (slice_get p.table i) p)
