use Rattle.res_calls.proofs.Cited.{◌≡◌, ℕ, zero, suc, Bool, true, false, not, ◌&&◌, List, [], ◌∷◌, ◌++◌, map, refl, sym, ◌∙◌, ap, Option}
use Rattle.res_calls.proofs.Cited.{Some, None, Result, Ok, Err, map-append, flat_map-append, slice_get, OsErr, Memory, new_inside}
use Rattle.res_calls.proofs.Cited.{new_empty_inside, refill_inside, has_block, resource_role, Reference, OpenFile, Resources, Found}
use Rattle.res_calls.proofs.Cited.{with_reference, holding, Managers, Answer, done, flags_of, is_system, now_filled, now_empty}
use Rattle.res_calls.proofs.Cited.{now_refilled, fetch_as, fetched_as, noting, handles_in, handles, KeepHandles, OnlyGivesHandles}
use Rattle.res_calls.proofs.Keeping.{either-keeps, found-keeps}
use Rattle.res_calls.proofs.Owning.Lists.{inner}
use Rattle.res_calls.proofs.Owning.Places.{Stands, same-there}
use Rattle.res_calls.proofs.Recorded.Outside.{outside-handle}

-- A fetch gives a handle to a reference that has none, and changes nothing else.

abbrev pub handle_of : Reference → Option ℕ
handle_of x = x.handle

-- the handles before a reference's, and behind it
abbrev front : Found → List (Option ℕ)
front at = handles at.file.before ++ map handle_of at.reference.before

abbrev back : Found → List (Option ℕ)
back at = map handle_of at.reference.after ++ handles at.file.after

handles-at : (at : Found) (x : Reference) → handles (with_reference x at) ≡ front at ++ (x.handle ∷ back at)
handles-at at x =
    flat_map-append handles_in at.file.before _
    ∙ ap (λ (l : List (Option ℕ)). handles at.file.before ++ (l ++ handles at.file.after))
    (map-append handle_of at.reference.before (x ∷ at.reference.after))
    ∙ inner (handles at.file.before) (map handle_of at.reference.before) (x.handle ∷ [])
    (map handle_of at.reference.after) (handles at.file.after)

-- other handles stay where one is put in the place of none
kept-there : (xs ys : List (Option ℕ)) (k : Option ℕ) (i h : ℕ) → slice_get (xs ++ None ∷ ys) i ≡ Some (Some h)
    → slice_get (xs ++ k ∷ ys) i ≡ Some (Some h)
kept-there [] ys k zero h e = cc
kept-there [] ys k (suc i) h e = e
kept-there (x ∷ xs) ys k zero h e = e
kept-there (x ∷ xs) ys k (suc i) h e = kept-there xs ys k i h e

given-kept : (chain : List OpenFile) (at : Found) (k : ℕ) → Stands chain at → at.reference.here.handle ≡ None
    → KeepHandles chain (with_reference (record at.reference.here { handle = Some k }) at)
given-kept chain at k stands none i h e =
    let before : handles chain ≡ front at ++ (None ∷ back at) =
    ap handles (sym (same-there chain at stands)) ∙ handles-at at at.reference.here
    ∙ ap (λ (o : Option ℕ). front at ++ (o ∷ back at)) none in
    ap (λ (l : List (Option ℕ)). slice_get l i) (handles-at at (record at.reference.here { handle = Some k }))
    ∙ kept-there (front at) (back at) (Some k) i h (ap (λ (l : List (Option ℕ)). slice_get l i) (sym before) ∙ e)

-- the resources as they were, and with a handle more
pub same-given : (r : Resources) → OnlyGivesHandles r r
same-given r = record { outside = refl; kept = λ i h e. e }

pub held-given : (r : Resources) (at : Found) (k : ℕ) → Stands r.chain at → at.reference.here.handle ≡ None
    → OnlyGivesHandles r (holding (Some k) at r)
held-given r at k stands none = record {
  outside = ap (λ (chain : List OpenFile). record r { chain = chain }) (outside-handle r.chain at (Some k) stands);
  kept = given-kept r.chain at k stands none;
}

-- the code that ResError tells is set
pub noted-given : {T : Type 0} (call : Managers → Answer T) (s : Managers)
    → OnlyGivesHandles s.resources (call s).after.resources
    → OnlyGivesHandles s.resources (noting call s).after.resources
noted-given call s given = record {
  outside = ap (λ (r : Resources). record r { error = (noting call s).after.resources.error }) given.outside;
  kept = given.kept;
}

-- a new handle, with the datum or emptied; an emptied one that is read again
filled-given : (at : Found) (s : Managers) → Stands s.resources.chain at → at.reference.here.handle ≡ None
    → (x : Result ℕ OsErr × Memory) → OnlyGivesHandles s.resources (now_filled at x s).after.resources
filled-given at s stands none (Err code, m) = same-given s.resources
filled-given at s stands none (Ok k, m) = held-given s.resources at k stands none

emptied-given : (at : Found) (s : Managers) → Stands s.resources.chain at → at.reference.here.handle ≡ None
    → (x : Result ℕ OsErr × Memory) → OnlyGivesHandles s.resources (now_empty at x s).after.resources
emptied-given at s stands none (Err code, m) = same-given s.resources
emptied-given at s stands none (Ok k, m) = held-given s.resources at k stands none

refilled-given : (at : Found) (k : ℕ) (s : Managers) (x : Result (Unit {0}) OsErr × Memory)
    → OnlyGivesHandles s.resources (now_refilled at k x s).after.resources
refilled-given at k s (Err code, m) = same-given s.resources
refilled-given at k s (Ok value, m) = same-given s.resources

-- a fetch of what was found
fetch-given : (loading : Bool) (at : Found) (s : Managers) → Stands s.resources.chain at → (o : Option ℕ)
    → at.reference.here.handle ≡ o → OnlyGivesHandles s.resources (fetch_as loading at o s).after.resources
fetch-given true at s stands None none =
    filled-given at s stands none (new_inside (resource_role (is_system at.file.here)) (flags_of at.reference.here)
    at.reference.here.stored.datum s.memory)
fetch-given false at s stands None none =
    emptied-given at s stands none (new_empty_inside (resource_role (is_system at.file.here)) s.memory)
fetch-given loading at s stands (Some k) is =
    either-keeps (λ m. OnlyGivesHandles s.resources m.resources) (loading && not (has_block k s.memory.heap)) _
    (done (record { handle = k; read = 0 }) s)
    (λ again. refilled-given at k s
    (refill_inside k (flags_of at.reference.here) at.reference.here.stored.datum s.memory))
    (λ there. same-given s.resources)

pub fetched-given : (loading : Bool) (found : Option Found) (s : Managers)
    → ((at : Found) → found ≡ Some at → Stands s.resources.chain at)
    → OnlyGivesHandles s.resources (fetched_as loading found s).after.resources
fetched-given loading found s stands =
    found-keeps (λ m. OnlyGivesHandles s.resources m.resources) found s _ (same-given s.resources)
    (λ at e. fetch-given loading at s (stands at e) at.reference.here.handle refl)
