-- What a call of the Segment Manager purges.
use Rattle.segments.proofs.Cited.{◌≡◌, ◌≢◌, ℕ, ℤ, pos, Bool, true, false, cond, List, [], Option, Some, None, Result, Ok, Err, refl, ap}
use Rattle.segments.proofs.Cited.{int_eq, OsErr, SYSTEM_ERROR, SegmentCall, Refused, Site, Fetched, own_datum, fetch_own, served}
use Rattle.segments.proofs.Cited.{tell_loaded, tell_called, Program, code_type, load_seg, load_datum, load_by, load_fetched, called}
use Rattle.segments.proofs.Cited.{call_entry, call_through, call_found, refused, load_gone, through_gone, entry_gone, gone_for, Entry}
use Rattle.segments.proofs.Cited.{can_load}
use Rattle.std.specs.Prelude.{slice_get}
use Rattle.mac_words.specs.declared.segment_call.SegmentCall.TheVariants as segment
use Rattle.res_calls.proofs.GoneElsewhere.{own-elsewhere}
use Rattle.segments.proofs.Laws.{told-refused, program_moved}

-- a reply that refuses only by a system error
abbrev OnlyFatal : {T : Type 0} → Result T OsErr → Type 0
OnlyFatal reply = (code : OsErr) → reply ≡ Err code → code ≡ SYSTEM_ERROR

-- a load that is refused is so by a system error
load-fatal : (n : ℤ) (p : Program) → OnlyFatal (load_seg n p).reply
load-fatal n p = by_zero (int_eq n (pos 0))
  where
    by_fit : (code : List ℕ) (f : Fetched) (t : Bool) → can_load n code p.table ≡ t
        → OnlyFatal (load_fetched n code f (fetch_own code_type n p.managers) p.table).reply
    by_fit code f true fits = rw fits (λ why is. cc)
    by_fit code f false fits = rw fits (λ why is. cc)

    by_reply : (code : List ℕ) (r : Result Fetched OsErr)
        → OnlyFatal (load_by n code r (fetch_own code_type n p.managers) p.table).reply
    by_reply code (Err refusal) = λ why is. cc
    by_reply code (Ok f) = by_fit code f (can_load n code p.table) refl

    by_datum : (o : Option (List ℕ)) → OnlyFatal (load_datum n o p).reply
    by_datum None = λ why is. cc
    by_datum (Some code) = by_reply code (fetch_own code_type n p.managers).reply

    by_zero : (t : Bool) → OnlyFatal (cond t (refused SYSTEM_ERROR p)
        (load_datum n (own_datum code_type n p.managers.resources) p)).reply
    by_zero true = λ why is. cc
    by_zero false = by_datum (own_datum code_type n p.managers.resources)

-- a call that is refused by another code purges nothing
pub refused-gone : (c : SegmentCall) (p : Program) (code : OsErr) → (served c p).told ≡ Refused code
    → code ≢ SYSTEM_ERROR → gone_for c p ≡ []
refused-gone (segment.LoadSeg n) p code is other =
    absurd (other (load-fatal n p code (told-refused tell_loaded (λ f. refl) code (load_seg n p).reply is)))
refused-gone (segment.UnloadSeg n) p code is other = refl
refused-gone (segment.CallEntry i) p code is other =
    by_entry (slice_get p.table i) (told-refused tell_called (λ f. refl) code (call_entry i p).reply is)
  where
    by_called : (n : ℤ) (r : Result Fetched OsErr) → called n r ≡ Err code → r ≡ Err code
    by_called n (Ok f) e = cc
    by_called n (Err why) e = let same : why ≡ code = cc in ap (λ (c : OsErr). Err c) same

    by_segment : (s : Option ℤ) (t : Bool) → (call_through s t p).reply ≡ Err code → through_gone s t p ≡ []
    by_segment None t e = refl
    by_segment (Some n) true e = refl
    by_segment (Some n) false e = absurd (other (load-fatal n p code (by_called n (load_seg n p).reply e)))

    by_entry : (o : Option Entry) → (call_found o p).reply ≡ Err code → entry_gone o p ≡ []
    by_entry None e = refl
    by_entry (Some x) e = by_segment x.segment x.loaded e
refused-gone (segment.ShowEntry i) p code is other = refl

-- and what it purges does not depend on where its heap lies
load-elsewhere : (window : Site) (n : ℤ) (p : Program) → load_gone n (program_moved window p) ≡ load_gone n p
load-elsewhere window n p = ap (λ l. cond (int_eq n (pos 0)) [] l) (own-elsewhere window code_type n p.managers)

pub gone-elsewhere : (window : Site) (c : SegmentCall) (p : Program) → gone_for c (program_moved window p) ≡ gone_for c p
gone-elsewhere window (segment.LoadSeg n) p = load-elsewhere window n p
gone-elsewhere window (segment.UnloadSeg n) p = refl
gone-elsewhere window (segment.CallEntry i) p = by_entry (slice_get p.table i)
  where
    by_segment : (s : Option ℤ) (t : Bool) → through_gone s t (program_moved window p) ≡ through_gone s t p
    by_segment None t = refl
    by_segment (Some n) t = ap (λ l. cond t [] l) (load-elsewhere window n p)

    by_entry : (o : Option Entry) → entry_gone o (program_moved window p) ≡ entry_gone o p
    by_entry None = refl
    by_entry (Some e) = by_segment e.segment e.loaded
gone-elsewhere window (segment.ShowEntry i) p = refl
