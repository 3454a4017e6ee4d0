use Rattle.applications.proofs.Cited.{◌≡◌, ◌∙◌, ℕ, ℤ, pos, Bool, true, false, cond, refl, sym, ap, subst, Option, Some, None, Result, Ok}
use Rattle.applications.proofs.Cited.{Err, List, IfOk, slice_get, int_eq, AllocError, OsErr, SYSTEM_ERROR, Told, Done, SegmentCall}
use Rattle.applications.proofs.Cited.{own_datum, own_handle, fetch_own, bars, can_load, Program, Called, load_by, load_datum, load_seg}
use Rattle.applications.proofs.Cited.{unload_seg, call_entry, call_loading, call_through, call_found, called, is_there, show_entry}
use Rattle.applications.proofs.Cited.{show_found, show_of, code_type, tell_loaded, tell_called, tell_shown, Running, segment_tried}
use Rattle.applications.proofs.Cited.{program_of, bytes_told, IsTried, Settled}
use Rattle.mac_words.specs.declared.segment_call.SegmentCall.TheVariants as segment
use Rattle.res_calls.specs.Fetch.{Fetched, Answer as FetchAnswer}
use Rattle.segments.specs.Table.{Entry}
use Rattle.segments.specs.Calls.{Answer, Shown, refused}
use Rattle.segments.specs.Asked.{Served, served, telling}
use Rattle.applications.specs.declared.tried.Tried.{Tried}
use Rattle.applications.proofs.FoundCalls.{told-none}

-- What a call on a segment comes to.

-- it shows no bytes
pub jump-shows-none : (c : SegmentCall) (p : Program) → bytes_told (served c p).told ≡ None
jump-shows-none (segment.LoadSeg n) p = told-none {T = Fetched} tell_loaded (λ x. refl) _
jump-shows-none (segment.UnloadSeg n) p = told-none {T = Unit {0}} (λ x. Done) (λ x. refl) _
jump-shows-none (segment.CallEntry i) p = told-none {T = Called} tell_called (λ x. refl) _
jump-shows-none (segment.ShowEntry i) p = told-none {T = Shown} tell_shown (λ x. refl) _

pub jump_shows_nothing : (c : SegmentCall) (p : Program) → None ≡ bytes_told (served c p).told
jump_shows_nothing c p = sym (jump-shows-none c p)

-- one that is answered isn't for want of room
either-settled : {T : Type 0} (t : Bool) (a b : Answer T) → Settled a → Settled b → Settled (cond t a b)
either-settled true a b first second = first
either-settled false a b first second = second

pub load-settled : (n : ℤ) (p : Program) → Settled (load_seg n p)
load-settled n p = either-settled (int_eq n (pos 0)) (refused SYSTEM_ERROR p)
    (load_datum n (own_datum code_type n p.managers.resources) p) (λ f e. refl)
    (by_datum (own_datum code_type n p.managers.resources))
  where
    by_fetch : (code : List ℕ) (reply : Result Fetched OsErr) (a : FetchAnswer Fetched)
        → Settled (load_by n code reply a p.table)
    by_fetch code (Err refusal) a = λ f e. let none : Err SYSTEM_ERROR ≡ Ok f = e in cc
    by_fetch code (Ok f) a = either-settled (can_load n code p.table) _ _ (λ f e. refl) (λ f e. refl)

    by_datum : (datum : Option (List ℕ)) → Settled (load_datum n datum p)
    by_datum None = λ f e. refl
    by_datum (Some code) =
        by_fetch code (fetch_own code_type n p.managers).reply (fetch_own code_type n p.managers)

-- the same of a call through the jump table
loading-settled : (n : ℤ) (a : Answer Fetched) (reply : Result Fetched OsErr) → a.reply ≡ reply → Settled a
    → Settled (call_loading n a)
loading-settled n a (Ok f) is settled = λ c e. settled f is
loading-settled n a (Err code) is settled = λ c e.
    let none : Err code ≡ Ok c = sym (ap (λ (r : Result Fetched OsErr). called n r) is) ∙ e in cc

pub call-settled : (i : ℕ) (p : Program) → Settled (call_entry i p)
call-settled i p = by_entry (slice_get p.table i)
  where
    by_segment : (segment : Option ℤ) (loaded : Bool) → Settled (call_through segment loaded p)
    by_segment None loaded = λ c e. refl
    by_segment (Some n) true =
        either-settled (is_there (own_handle code_type n p.managers.resources) p.managers) _ _ (λ c e. refl)
        (λ c e. refl)
    by_segment (Some n) false =
        loading-settled n (load_seg n p) (load_seg n p).reply refl (load-settled n p)

    by_entry : (entry : Option Entry) → Settled (call_found entry p)
    by_entry None = λ c e. refl
    by_entry (Some e) = by_segment e.segment e.loaded

-- and of the two that look for no room
either-content : {T : Type 0} (t : Bool) (a b : Answer T) → a.wants ≡ false → b.wants ≡ false
    → (cond t a b).wants ≡ false
either-content true a b first second = first
either-content false a b first second = second

pub unload-settled : (n : ℤ) (p : Program) → (unload_seg n p).wants ≡ false
unload-settled n p = either-content (bars (own_handle code_type n p.managers.resources) p.managers.memory) _ _ refl refl

pub show-settled : (i : ℕ) (p : Program) → (show_entry i p).wants ≡ false
show-settled i p = by_entry (slice_get p.table i)
  where
    by_segment : (segment : Option ℤ) (loaded : Bool) → (show_of segment loaded p).wants ≡ false
    by_segment None loaded = refl
    by_segment (Some n) loaded = refl

    by_entry : (entry : Option Entry) → (show_found entry p).wants ≡ false
    by_entry None = refl
    by_entry (Some e) = by_segment e.segment e.loaded

-- a try that tells what its method answered is that of the definitions
tried-so : (tried : Tried) (s : Served) (call x : SegmentCall) (r q : Running) → IsTried tried (segment_tried s q)
    → s ≡ served x (program_of q) → call ≡ x → q ≡ r
    → IsTried tried (segment_tried (served call (program_of r)) r)
tried-so tried s call x r q tells table called same =
    subst (λ (p : Running). IsTried tried (segment_tried (served call (program_of p)) p)) same
    (subst (λ (c : SegmentCall). IsTried tried (segment_tried (served c (program_of q)) q)) (sym called)
    (subst (λ (s : Served). IsTried tried (segment_tried s q)) table tells))

pub jumped : {T : Type 0} (tell : T → Told) (P : Answer T → Program → Type 0) (result : Result Tried AllocError)
    (a : Answer T) (after : Program) (call x : SegmentCall) (r q : Running)
    → IfOk result (λ tried. (a : Answer T) (after : Program) (r : Running) → P a after → Settled a
    → IsTried tried (segment_tried (telling tell a) r))
    → P a after → Settled a → telling tell a ≡ served x (program_of q) → call ≡ x → q ≡ r
    → IfOk result (λ tried. IsTried tried (segment_tried (served call (program_of r)) r))
jumped tell P (Err e) a after call x r q says is settled table called same = tt
jumped tell P (Ok tried) a after call x r q says is settled table called same =
    tried-so tried (telling tell a) call x r q (says a after q is settled) table called same

-- the same of a method that wants no memory of the host
pub jumped_at_once : {T : Type 0} (tell : T → Told) (tried : Tried) (reply : Result T OsErr) (a : Answer T)
    (call x : SegmentCall) (r q : Running)
    → ((a : Answer T) (r : Running) → a.reply ≡ reply → a.wants ≡ false
    → IsTried tried (segment_tried (telling tell a) r))
    → a.reply ≡ reply → a.wants ≡ false → telling tell a ≡ served x (program_of q) → call ≡ x → q ≡ r
    → IsTried tried (segment_tried (served call (program_of r)) r)
jumped_at_once tell tried reply a call x r q says is settled table called same =
    tried-so tried (telling tell a) call x r q (says a q is settled) table called same
