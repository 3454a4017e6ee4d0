use Rattle.segments.proofs.Cited.{◌≡◌, inl, inr, ℕ, ℤ, pos, Bool, true, false, Option, Some, None, Result, Ok, Err, List, slice_get, cond}
use Rattle.segments.proofs.Cited.{refl, sym, ap, subst, Decides-eqb, int_eq, OsErr, LOCKED, PROFILE, SYSTEM_ERROR, SegmentCall, Told, Done}
use Rattle.segments.proofs.Cited.{Refused, loosened, locked_place, told_as, Known, StaysOr, locked-there, loosened-none, Fetched, own_datum}
use Rattle.segments.proofs.Cited.{own_handle, fetch_own, bars, Entry, can_load, unloaded, Program, Answer, Called, done, refused, let_loose}
use Rattle.segments.proofs.Cited.{load_fetched, load_by, load_datum, load_seg, unload_handle, unload_seg, is_there, call_through}
use Rattle.segments.proofs.Cited.{call_found, call_entry, show_of, show_found, show_entry, called, code_type, telling, tell_loaded}
use Rattle.segments.proofs.Cited.{tell_called, tell_shown, served, is_same, unlocks}
use Rattle.mac_words.specs.declared.segment_call.SegmentCall.TheVariants as segment
use Rattle.segments.proofs.Laws.{served-locked}

-- A call that unlocks the block of a segment is done, and a call that finds no room is refused.

-- a handle whose segment is unloaded
unloads : (n : ℤ) (o : Option ℕ) (p : Program) (bytes : ℕ → List ℕ) → Known p.managers.memory.heap bytes
    → (h place : ℕ) → is_same h o ≡ true → locked_place h p.managers.memory.heap.zone ≡ Some place
    → StaysOr true place (telling (λ (x : Unit {0}). Done) (unload_handle n o p)).told
    (locked_place h (telling (λ (x : Unit {0}). Done) (unload_handle n o p)).after.managers.memory.heap.zone)
unloads n None p bytes known h place same is = let f : false ≡ true = same in cc
unloads n (Some k) p bytes known h place same is = by_busy (bars (Some k) p.managers.memory)
  where
    now : Answer (Unit {0})
    now = done tt (record { managers = let_loose (Some k) p.managers; table = unloaded n p.table })

    none : locked_place h (loosened k p.managers.memory.heap).zone ≡ None
    none = subst (λ (j : ℕ). locked_place h (loosened j p.managers.memory.heap).zone ≡ None)
        (sym ((Decides-eqb k h).0 same))
        (loosened-none h p.managers.memory.heap bytes known (locked-there h place p.managers.memory.heap is))

    by_busy : (t : Bool) → StaysOr true place (told_as {T = Unit {0}} (λ x. Done) (cond t (refused LOCKED p) now).reply)
        (locked_place h (cond t (refused LOCKED p) now).after.managers.memory.heap.zone)
    by_busy true = inl is
    by_busy false = inr (none, refl, refl)

-- a locked block stays where it is, or the call that unlocks it is done
pub served-stays : (c : SegmentCall) (p : Program) (bytes : ℕ → List ℕ) → Known p.managers.memory.heap bytes
    → (h place : ℕ) → locked_place h p.managers.memory.heap.zone ≡ Some place
    → StaysOr (unlocks h c p.managers) place (served c p).told
    (locked_place h (served c p).after.managers.memory.heap.zone)
served-stays c p bytes known h place is = by_call (unlocks h c p.managers) refl
  where
    unlocking : (c : SegmentCall) → unlocks h c p.managers ≡ true
        → StaysOr true place (served c p).told (locked_place h (served c p).after.managers.memory.heap.zone)
    unlocking (segment.UnloadSeg n) e =
        unloads n (own_handle code_type n p.managers.resources) p bytes known h place e is
    unlocking (segment.LoadSeg n) e = let f : false ≡ true = e in cc
    unlocking (segment.CallEntry i) e = let f : false ≡ true = e in cc
    unlocking (segment.ShowEntry i) e = let f : false ≡ true = e in cc

    by_call : (t : Bool) → unlocks h c p.managers ≡ t
        → StaysOr t place (served c p).told (locked_place h (served c p).after.managers.memory.heap.zone)
    by_call true e = unlocking c e
    by_call false e = inl (served-locked c p bytes known h place e is)

-- an answer that wants room is a refusal
abbrev Wants : {T : Type 0} → Answer T → Type 0
Wants a = a.wants ≡ true → (code : OsErr) × (a.reply ≡ Err code)

load-wants : (n : ℤ) (p : Program) → Wants (load_seg n p)
load-wants n p = by_zero (int_eq n (pos 0))
  where
    by_fit : (code : List ℕ) (f : Fetched) (t : Bool) → can_load n code p.table ≡ t
        → Wants (load_fetched n code f (fetch_own code_type n p.managers) p.table)
    by_fit code f true fits = rw fits (λ wants. cc)
    by_fit code f false fits = rw fits (λ wants. cc)

    by_reply : (code : List ℕ) (r : Result Fetched OsErr)
        → Wants (load_by n code r (fetch_own code_type n p.managers) p.table)
    by_reply code (Err why) = λ wants. (SYSTEM_ERROR, refl)
    by_reply code (Ok f) = by_fit code f (can_load n code p.table) refl

    by_datum : (o : Option (List ℕ)) → Wants (load_datum n o p)
    by_datum None = λ wants. cc
    by_datum (Some code) = by_reply code (fetch_own code_type n p.managers).reply

    by_zero : (t : Bool)
        → Wants (cond t (refused SYSTEM_ERROR p) (load_datum n (own_datum code_type n p.managers.resources) p))
    by_zero true = λ wants. cc
    by_zero false = by_datum (own_datum code_type n p.managers.resources)

call-wants : (o : Option Entry) (p : Program) → Wants (call_found o p)
call-wants None p = λ wants. cc
call-wants (Some e) p = by_segment e.segment e.loaded
  where
    there : ℤ → Answer Called
    there n = done (record { segment = n; read = 0 }) p

    by_block : (n : ℤ) (t : Bool) → Wants (cond t (there n) (refused PROFILE p))
    by_block n true = λ wants. cc
    by_block n false = λ wants. cc

    by_segment : (s : Option ℤ) (t : Bool) → Wants (call_through s t p)
    by_segment None t = λ wants. cc
    by_segment (Some n) true = by_block n (is_there (own_handle code_type n p.managers.resources) p.managers)
    by_segment (Some n) false = λ wants. let refusal = load-wants n p wants in
        (refusal.0, ap (called n) refusal.1)

unload-wants : (n : ℤ) (o : Option ℕ) (p : Program) → Wants (unload_handle n o p)
unload-wants n o p = by_busy (bars o p.managers.memory)
  where
    now : Answer (Unit {0})
    now = done tt (record { managers = let_loose o p.managers; table = unloaded n p.table })

    by_busy : (t : Bool) → Wants (cond t (refused LOCKED p) now)
    by_busy true = λ wants. cc
    by_busy false = λ wants. cc

show-wants : (o : Option Entry) (p : Program) → Wants (show_found o p)
show-wants None p = λ wants. cc
show-wants (Some e) p = by_segment e.segment
  where
    by_segment : (s : Option ℤ) → Wants (show_of s e.loaded p)
    by_segment None = λ wants. cc
    by_segment (Some n) = λ wants. cc

-- and is told as one
telling-wants : {T : Type 0} (tell : T → Told) (a : Answer T) → Wants a → (telling tell a).wants ≡ true
    → (code : OsErr) × ((telling tell a).told ≡ Refused code)
telling-wants tell a refuses wants = let refusal = refuses wants in (refusal.0, ap (told_as tell) refusal.1)

pub served-wants : (c : SegmentCall) (p : Program) → (served c p).wants ≡ true
    → (code : OsErr) × ((served c p).told ≡ Refused code)
served-wants (segment.LoadSeg n) p = telling-wants tell_loaded (load_seg n p) (load-wants n p)
served-wants (segment.UnloadSeg n) p =
    telling-wants (λ x. Done) (unload_seg n p) (unload-wants n (own_handle code_type n p.managers.resources) p)
served-wants (segment.CallEntry i) p =
    telling-wants tell_called (call_entry i p) (call-wants (slice_get p.table i) p)
served-wants (segment.ShowEntry i) p =
    telling-wants tell_shown (show_entry i p) (show-wants (slice_get p.table i) p)
