use Rattle.applications.proofs.Cited.{◌≡◌, ◌⊎◌, inl, inr, ℕ, ℤ, pos, Bool, true, false, Option, Some, None, Result, Ok, Err, List, [], ◌∷◌}
use Rattle.applications.proofs.Cited.{◌++◌, refl, sym, ◌∙◌, ap, subst, cond, slice_get, int_eq, OsErr, SegmentCall, Done, Refused, Flags}
use Rattle.applications.proofs.Cited.{Block, Role, State, Memory, nothing, Asked, answered, served, refused_zone, code_left, slotted_zone}
use Rattle.applications.proofs.Cited.{CostsAtMostMasters, new_inside, refill_inside, has_block, Step, NewFilled, NewEmpty, Refill, Release}
use Rattle.applications.proofs.Cited.{Cast, stepped, walk, reads, read_by, read_new, read_again, refusal_of, same-costs, slotted-costs}
use Rattle.applications.proofs.Cited.{step_costs, served-holds, served-refused, Found, Managers, Reads, find_own, own_datum, own_handle}
use Rattle.applications.proofs.Cited.{fetch_own, bars, ResourceAsked, for_found, fetch_steps, fetch_steps_as, steps_of, own-walks}
use Rattle.applications.proofs.Cited.{own-reads, can_load, Program, code_type, load_fetched, load_by, load_datum, load_seg, called}
use Rattle.applications.proofs.Cited.{call_loading, is_there, call_loaded, call_through, call_found, show_of, show_found, unload_handle}
use Rattle.applications.proofs.Cited.{tell_loaded, tell_called, tell_shown, told-refused, LeavesMemory}
use Rattle.mac_words.specs.declared.segment_call.SegmentCall.TheVariants as segment
use Rattle.heap_calls.specs.Table as asks
use Rattle.heap_calls.specs.Inside.{resource_role}
use Rattle.res_calls.specs.Fetch.{Fetched, flags_of, is_system}
use Rattle.res_calls.specs.Asked as finds
use Rattle.res_calls.proofs.Walks.Laws as laws
use Rattle.segments.specs.Table.{Entry}
use Rattle.segments.specs.Calls.{Answer}
use Rattle.segments.specs.Asked as jumps

-- What a refused try leaves of the memory, and what it costs of the bytes that can be had.

-- how many numbers take no host memory, no call changes
step-reserved : (step : Step) (m : Memory) → (stepped step m).log.reserved ≡ m.log.reserved
step-reserved (NewFilled role flags bytes) m = refl
step-reserved (NewEmpty role) m = refl
step-reserved (Refill h flags bytes) m = by_block (has_block h m.heap)
  where
    by_block : (t : Bool) → (cond t m (refill_inside h flags bytes m).1).log.reserved ≡ m.log.reserved
    by_block true = refl
    by_block false = refl
step-reserved (Release h) m = refl
step-reserved (Cast change h) m = refl

walk-reserved : (steps : List Step) (m : Memory) → (walk steps m).log.reserved ≡ m.log.reserved
walk-reserved [] m = refl
walk-reserved (step ∷ steps) m = walk-reserved steps (stepped step m) ∙ step-reserved step m

found-reserved : (a : ResourceAsked) (s : Managers)
    → (finds.served a s).after.memory.log.reserved ≡ s.memory.log.reserved
found-reserved a s = ap (λ (m : Memory). m.log.reserved) (laws.heap-walks a s) ∙ walk-reserved (steps_of a s) s.memory

asked-reserved : (a : Asked) (m : Memory) → (served a m).1.log.reserved ≡ m.log.reserved
asked-reserved a m = served-holds (λ t n. n.log.reserved ≡ m.log.reserved) a m (row a) (λ why kept. refl)
  where
    row : (a : Asked) → (answered a m).1.log.reserved ≡ m.log.reserved
    row asks.MemError = refl
    row a = refl

-- a memory by its parts
memory-left : (zone : List Block) (code : OsErr) (before after : Memory) → after.heap ≡ record before.heap { zone = zone }
    → after.log.code ≡ code → after.log.busy ≡ before.log.busy → after.log.reserved ≡ before.log.reserved
    → after.window ≡ before.window → LeavesMemory zone code before after
memory-left zone code before after heap kept busy reserved window = λ i. record {
  heap = heap i;
  log = record { code = kept i; searches = after.log.searches; busy = busy i; reserved = reserved i };
  moves = after.moves;
  window = window i;
}

pub asked-leaves : (a : Asked) (m : Memory) (code : OsErr) → (served a m).0 ≡ Refused code
    → LeavesMemory (refused_zone a m) (code_left a code m.log.code) m (served a m).1
asked-leaves a m code tells =
    let left = served-refused a m code tells in
    memory-left (refused_zone a m) (code_left a code m.log.code) m (served a m).1 left.0 left.1 left.3
    (asked-reserved a m) left.2

pub found-leaves : (a : ResourceAsked) (s : Managers) (code : OsErr) → (finds.served a s).told ≡ Refused code
    → LeavesMemory s.memory.heap.zone s.memory.log.code s.memory (finds.served a s).after.memory
    ⊎ LeavesMemory (slotted_zone nothing s.memory.heap) s.memory.log.code s.memory (finds.served a s).after.memory
found-leaves a s code tells = by_way (laws.served-refused a s code tells).0
  where
    with_zone : (zone : List Block)
        → (finds.served a s).after.memory.heap ≡ record s.memory.heap { zone = zone }
        → LeavesMemory zone s.memory.log.code s.memory (finds.served a s).after.memory
    with_zone zone heap = memory-left zone s.memory.log.code s.memory (finds.served a s).after.memory heap
        (laws.served-code a s) (laws.served-busy a s) (found-reserved a s) (laws.served-window a s)

    by_way : laws.LeftOrSlotted s.memory.heap (finds.served a s).after.memory.heap
        → LeavesMemory s.memory.heap.zone s.memory.log.code s.memory (finds.served a s).after.memory
        ⊎ LeavesMemory (slotted_zone nothing s.memory.heap) s.memory.log.code s.memory (finds.served a s).after.memory
    by_way (inl same) = inl (with_zone s.memory.heap.zone same)
    by_way (inr slotted) = inr (with_zone (slotted_zone nothing s.memory.heap) slotted)

-- the program as the fetch of a segment's resource leaves it, and what was read; or as it was
abbrev pub fetched_by : Option ℤ → Program → Program
fetched_by None p = p
fetched_by (Some n) p = record { managers = (fetch_own code_type n p.managers).after; table = p.table }

abbrev pub fetched_reads : Option ℤ → Program → Reads
fetched_reads None p = []
fetched_reads (Some n) p = (fetch_own code_type n p.managers).reads

abbrev pub Fetches : Program → Program → Reads → Type 0
Fetches p after reads = (n : Option ℤ) × (after ≡ fetched_by n p) × (reads ≡ fetched_reads n p)

-- an answer leaves that where it is refused
abbrev Stops : {T : Type 0} → Program → Answer T → Type 0
Stops p a = (code : OsErr) → a.reply ≡ Err code → Fetches p a.after a.reads

same-stops : {T : Type 0} (p : Program) (a : Answer T) → a.after ≡ p → a.reads ≡ [] → Stops p a
same-stops p a same none code is = (None, same, none)

done-stops : {T : Type 0} (p : Program) (a : Answer T) (value : T) → a.reply ≡ Ok value → Stops p a
done-stops p a value well code is = cc

load-stops : (n : ℤ) (p : Program) → Stops p (load_seg n p)
load-stops n p = by_zero (int_eq n (pos 0))
  where
    by_fit : (code : List ℕ) (f : Fetched) (t : Bool) → can_load n code p.table ≡ t
        → Stops p (load_fetched n code f (fetch_own code_type n p.managers) p.table)
    by_fit code f true fits = done-stops p (load_fetched n code f (fetch_own code_type n p.managers) p.table) f
        (rw fits refl)
    by_fit code f false fits = λ why is. (Some n, rw fits refl, rw fits refl)

    by_reply : (code : List ℕ) (r : Result Fetched OsErr)
        → Stops p (load_by n code r (fetch_own code_type n p.managers) p.table)
    by_reply code (Err refusal) = λ why is. (Some n, refl, refl)
    by_reply code (Ok f) = by_fit code f (can_load n code p.table) refl

    by_datum : (o : Option (List ℕ)) → Stops p (load_datum n o p)
    by_datum None = same-stops p (load_datum n None p) refl refl
    by_datum (Some code) = by_reply code (fetch_own code_type n p.managers).reply

    by_zero : (t : Bool) → Stops p (cond t (load_datum n None p)
        (load_datum n (own_datum code_type n p.managers.resources) p))
    by_zero true = same-stops p (load_datum n None p) refl refl
    by_zero false = by_datum (own_datum code_type n p.managers.resources)

calling-stops : (n : ℤ) (p : Program) → Stops p (call_loading n (load_seg n p))
calling-stops n p code is = load-stops n p code (by_reply (load_seg n p).reply is)
  where
    by_reply : (r : Result Fetched OsErr) → called n r ≡ Err code → r ≡ Err code
    by_reply (Ok f) e = cc
    by_reply (Err why) e = let same : why ≡ code = cc in ap (λ (c : OsErr). Err c) same

call-stops : (o : Option Entry) (p : Program) → Stops p (call_found o p)
call-stops None p = same-stops p (call_found None p) refl refl
call-stops (Some e) p = by_segment e.segment e.loaded
  where
    by_block : (n : ℤ) (t : Bool) → is_there (own_handle code_type n p.managers.resources) p.managers ≡ t
        → Stops p (call_loaded n p)
    by_block n true there = same-stops p (call_loaded n p) (rw there refl) (rw there refl)
    by_block n false there = same-stops p (call_loaded n p) (rw there refl) (rw there refl)

    by_segment : (s : Option ℤ) (t : Bool) → Stops p (call_through s t p)
    by_segment None t = same-stops p (call_through None t p) refl refl
    by_segment (Some n) true = by_block n (is_there (own_handle code_type n p.managers.resources) p.managers) refl
    by_segment (Some n) false = calling-stops n p

show-stops : (o : Option Entry) (p : Program) → Stops p (show_found o p)
show-stops None p = same-stops p (show_found None p) refl refl
show-stops (Some e) p = by_segment e.segment
  where
    by_segment : (s : Option ℤ) → Stops p (show_of s e.loaded p)
    by_segment None = same-stops p (show_of None e.loaded p) refl refl
    by_segment (Some n) = same-stops p (show_of (Some n) e.loaded p) refl refl

unload-stops : (n : ℤ) (o : Option ℕ) (p : Program) → Stops p (unload_handle n o p)
unload-stops n o p = by_busy (bars o p.managers.memory) refl
  where
    by_busy : (t : Bool) → bars o p.managers.memory ≡ t → Stops p (unload_handle n o p)
    by_busy true busy = same-stops p (unload_handle n o p) (rw busy refl) (rw busy refl)
    by_busy false busy = done-stops p (unload_handle n o p) tt (rw busy refl)

-- a refused call on a segment leaves the program as a fetch leaves it, or as it was
pub jumped-stops : (c : SegmentCall) (p : Program) (code : OsErr) → (jumps.served c p).told ≡ Refused code
    → Fetches p (jumps.served c p).after (jumps.served c p).reads
jumped-stops (segment.LoadSeg n) p code tells =
    load-stops n p code (told-refused tell_loaded (λ f. refl) code (load_seg n p).reply tells)
jumped-stops (segment.UnloadSeg n) p code tells =
    let handle = own_handle code_type n p.managers.resources in
    unload-stops n handle p code (told-refused (λ x. Done) (λ x. refl) code (unload_handle n handle p).reply tells)
jumped-stops (segment.CallEntry i) p code tells =
    let entry = slice_get p.table i in
    call-stops entry p code (told-refused tell_called (λ f. refl) code (call_found entry p).reply tells)
jumped-stops (segment.ShowEntry i) p code tells =
    let entry = slice_get p.table i in
    show-stops entry p code (told-refused tell_shown (λ e. refl) code (show_found entry p).reply tells)

abbrev Same : Reads → Reads → Type 0
Same a b = a ≡ b

-- a step that read nothing was refused, or changed nothing
new-unread : (role : Role) (flags : Flags) (bytes : List ℕ) (m : Memory)
    → read_by (NewFilled role flags bytes) m ++ [] ≡ []
    → CostsAtMostMasters m.heap.zone (stepped (NewFilled role flags bytes) m).heap.zone
new-unread role flags bytes m = by_reply (new_inside role flags bytes m).0 refl
  where
    by_reply : (r : Result ℕ OsErr) → (new_inside role flags bytes m).0 ≡ r → read_new bytes r ++ [] ≡ []
        → CostsAtMostMasters m.heap.zone (stepped (NewFilled role flags bytes) m).heap.zone
    by_reply (Ok h) is none = let no : Same ((h, bytes) ∷ []) [] = none in cc
    by_reply (Err code) is none = step_costs (NewFilled role flags bytes) m code (ap refusal_of is)

refill-unread : (h : ℕ) (flags : Flags) (bytes : List ℕ) (m : Memory) → read_by (Refill h flags bytes) m ++ [] ≡ []
    → CostsAtMostMasters m.heap.zone (stepped (Refill h flags bytes) m).heap.zone
refill-unread h flags bytes m = by_block (has_block h m.heap) refl
  where
    filled : Result (Unit {0}) OsErr × Memory
    filled = refill_inside h flags bytes m

    by_reply : has_block h m.heap ≡ false → (r : Result (Unit {0}) OsErr) → filled.0 ≡ r → read_again h bytes r ++ [] ≡ []
        → CostsAtMostMasters m.heap.zone filled.1.heap.zone
    by_reply is (Ok done) e none = let no : Same ((h, bytes) ∷ []) [] = none in cc
    by_reply is (Err code) e none =
        subst (λ (t : Bool). CostsAtMostMasters m.heap.zone (cond t m filled.1).heap.zone) is
        (step_costs (Refill h flags bytes) m code
        (ap (λ (t : Bool). cond t None (refusal_of filled.0)) is ∙ ap refusal_of e))

    by_block : (t : Bool) → has_block h m.heap ≡ t → cond t [] (read_again h bytes filled.0) ++ [] ≡ []
        → CostsAtMostMasters m.heap.zone (cond t m filled.1).heap.zone
    by_block true is none = same-costs m.heap.zone
    by_block false is none = by_reply is filled.0 refl none

fetch-unread : (found : Option Found) (m : Memory) → reads (for_found found (fetch_steps true)) m ≡ []
    → CostsAtMostMasters m.heap.zone (walk (for_found found (fetch_steps true)) m).heap.zone
fetch-unread None m = λ none. same-costs m.heap.zone
fetch-unread (Some at) m = by_handle at.reference.here.handle
  where
    by_handle : (handle : Option ℕ) → reads (fetch_steps_as true at handle) m ≡ []
        → CostsAtMostMasters m.heap.zone (walk (fetch_steps_as true at handle) m).heap.zone
    by_handle None = new-unread (resource_role (is_system at.file.here)) (flags_of at.reference.here)
        at.reference.here.stored.datum m
    by_handle (Some h) = refill-unread h (flags_of at.reference.here) at.reference.here.stored.datum m

own-costs : (n : ℤ) (s : Managers) → (fetch_own code_type n s).reads ≡ []
    → CostsAtMostMasters s.memory.heap.zone (fetch_own code_type n s).after.memory.heap.zone
own-costs n s none =
    subst (λ (m : Memory). CostsAtMostMasters s.memory.heap.zone m.heap.zone) (sym (own-walks code_type n s))
    (fetch-unread (find_own code_type n s.resources) s.memory (sym (own-reads code_type n s) ∙ none))

-- a refused call on a segment that read nothing costs at most one block of master pointers
pub jumped-costs : (c : SegmentCall) (p : Program) (code : OsErr) → (jumps.served c p).told ≡ Refused code
    → (jumps.served c p).reads ≡ []
    → CostsAtMostMasters p.managers.memory.heap.zone (jumps.served c p).after.managers.memory.heap.zone
jumped-costs c p code tells none =
    let left = jumped-stops c p code tells in
    subst (λ (x : Program). CostsAtMostMasters p.managers.memory.heap.zone x.managers.memory.heap.zone) (sym left.1)
    (by_fetch left.0 (sym left.2 ∙ none))
  where
    by_fetch : (n : Option ℤ) → fetched_reads n p ≡ []
        → CostsAtMostMasters p.managers.memory.heap.zone (fetched_by n p).managers.memory.heap.zone
    by_fetch None none = same-costs p.managers.memory.heap.zone
    by_fetch (Some n) none = own-costs n p.managers none

-- and so does one of the Resource Manager's
pub found-costs : (a : ResourceAsked) (s : Managers) (code : OsErr) → (finds.served a s).told ≡ Refused code
    → CostsAtMostMasters s.memory.heap.zone (finds.served a s).after.memory.heap.zone
found-costs a s code tells = by_way (laws.served-refused a s code tells).0
  where
    costs : (left : State) → CostsAtMostMasters s.memory.heap.zone left.zone
        → (finds.served a s).after.memory.heap ≡ left
        → CostsAtMostMasters s.memory.heap.zone (finds.served a s).after.memory.heap.zone
    costs left so is = subst (λ (x : State). CostsAtMostMasters s.memory.heap.zone x.zone) (sym is) so

    by_way : laws.LeftOrSlotted s.memory.heap (finds.served a s).after.memory.heap
        → CostsAtMostMasters s.memory.heap.zone (finds.served a s).after.memory.heap.zone
    by_way (inl same) = costs s.memory.heap (same-costs s.memory.heap.zone) same
    by_way (inr slotted) = costs _ (slotted-costs nothing s.memory.heap) slotted
