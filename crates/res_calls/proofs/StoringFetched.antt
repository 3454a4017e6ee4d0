-- What is stored once a fetch is done, of the blocks that it purged.
use Rattle.res_calls.proofs.Cited.{◌≡◌, ℕ, ℤ, ◌≤◌, Bool, true, false, not, ◌&&◌, List, [], ◌∷◌, ◌++◌, map, length, Option, Some, None}
use Rattle.res_calls.proofs.Cited.{Result, Ok, Err, refl, sym, ◌∙◌, ap, subst, map-append, OsErr, Gone, Memory, filled-number}
use Rattle.res_calls.proofs.Cited.{emptied-number, new_inside, new_empty_inside, refill_inside, has_block, resource_role, told_of, Split}
use Rattle.res_calls.proofs.Cited.{replaced, Reference, with_handle, has_handle, is_resource, is_named, ResourceAsked, served, Managers}
use Rattle.res_calls.proofs.Cited.{Answer, done, flags_of, is_system, now_filled, now_empty, now_refilled, fetch_as, fetches}
use Rattle.res_calls.proofs.Cited.{without_handles, OpenFile, Resources, Found, holding, find_from_current, find_in_current, is_at}
use Rattle.res_calls.proofs.Cited.{gone_for, own_gone, find_own, fetch_own, Owns, heard, stored_gone, fetched_as, noting, nth_among}
use Rattle.res_calls.proofs.Cited.{resource_of, stored_by, stored_of, stored_first, file_stored, all_stored, after_purges, StoresJust}
use Rattle.res_calls.specs.Asked as asks
use Rattle.res_calls.specs.Rows as rows
use Rattle.res_calls.proofs.Keeping.{either-keeps, found-keeps}
use Rattle.res_calls.proofs.Owning.Laws.{owns-served}
use Rattle.res_calls.proofs.Owning.Places.{Stands, same-there, find-finds, among-stands}
use Rattle.res_calls.proofs.StoringAll.{stores-all, with_references}
use Rattle.res_calls.proofs.ToldGone.Calls.{fetched-none, own-none}
use Rattle.res_calls.proofs.Walks.Own.{own-owns}

-- an item in the place of one that looks the same
looks : {A B C : Type 0} (f : B → C) (g : A → B) (x y : A) (at : Split A) → f (g x) ≡ f (g y)
    → map f (map g (replaced x at)) ≡ map f (map g (replaced y at))
looks f g x y at same =
    ap (map f) (map-append g at.before (x ∷ at.after)) ∙ map-append f (map g at.before) (g x ∷ map g at.after)
    ∙ ap (λ z. map f (map g at.before) ++ (z ∷ map f (map g at.after))) same
    ∙ sym (ap (map f) (map-append g at.before (y ∷ at.after)) ∙ map-append f (map g at.before) (g y ∷ map g at.after))

-- a handle that is given, of which nothing is told
given-looks : (gone : List Gone) (x : Reference) (k : ℕ) → x.handle ≡ None → told_of k gone ≡ []
    → with_handle None (stored_by gone (with_handle (Some k) x)) ≡ with_handle None (stored_by gone x)
given-looks gone x k none untold =
    ap (λ (l : List (List ℕ)). with_handle None (stored_first l (with_handle (Some k) x))) untold
    ∙ sym (ap (λ (o : Option ℕ). with_handle None (stored_of gone o x)) none)

given-stores : (gone : List Gone) (r : Resources) (at : Found) (k : ℕ) → Stands r.chain at
    → at.reference.here.handle ≡ None → told_of k gone ≡ []
    → StoresJust gone r (all_stored gone (holding (Some k) at r))
given-stores gone r at k stands none untold = ap (λ (chain : List OpenFile). record r { chain = chain })
    (looks without_handles (file_stored gone)
    (with_references at.file.here (replaced (with_handle (Some k) at.reference.here) at.reference))
    (with_references at.file.here (replaced at.reference.here at.reference)) at.file
    (ap (with_references at.file.here) (looks (with_handle None) (stored_by gone)
    (with_handle (Some k) at.reference.here) at.reference.here at.reference
    (given-looks gone at.reference.here k none untold)))
    ∙ ap (λ (chain : List OpenFile). map without_handles (map (file_stored gone) chain)) (same-there r.chain at stands))

-- where the resources are as they were, but for a handle that is given to a reference without one
module _ (gone : List Gone) (s : Managers) (untold : (k : ℕ) → length s.memory.heap.names ≤ k → told_of k gone ≡ [])
  where
    abbrev Stores : Resources → Type 0
    Stores after = StoresJust gone s.resources (all_stored gone after)

    filled-stores : (at : Found) → Stands s.resources.chain at → at.reference.here.handle ≡ None
        → (x : Result ℕ OsErr × Memory) → ((k : ℕ) → x.0 ≡ Ok k → length s.memory.heap.names ≤ k)
        → Stores (now_filled at x s).after.resources
    filled-stores at stands none (Err code, m) next = refl
    filled-stores at stands none (Ok k, m) next =
        given-stores gone s.resources at k stands none (untold k (next k refl))

    emptied-stores : (at : Found) → Stands s.resources.chain at → at.reference.here.handle ≡ None
        → (x : Result ℕ OsErr × Memory) → ((k : ℕ) → x.0 ≡ Ok k → length s.memory.heap.names ≤ k)
        → Stores (now_empty at x s).after.resources
    emptied-stores at stands none (Err code, m) next = refl
    emptied-stores at stands none (Ok k, m) next =
        given-stores gone s.resources at k stands none (untold k (next k refl))

    refilled-stores : (at : Found) (k : ℕ) (x : Result (Unit {0}) OsErr × Memory)
        → Stores (now_refilled at k x s).after.resources
    refilled-stores at k (Err code, m) = refl
    refilled-stores at k (Ok value, m) = refl

    fetch-stores : (loading : Bool) (at : Found) → Stands s.resources.chain at → (o : Option ℕ)
        → at.reference.here.handle ≡ o → Stores (fetch_as loading at o s).after.resources
    fetch-stores true at stands None none =
        filled-stores at stands none (new_inside (resource_role (is_system at.file.here)) (flags_of at.reference.here)
        at.reference.here.stored.datum s.memory) (filled-number (resource_role (is_system at.file.here))
        (flags_of at.reference.here) at.reference.here.stored.datum s.memory.heap)
    fetch-stores false at stands None none =
        emptied-stores at stands none (new_empty_inside (resource_role (is_system at.file.here)) s.memory)
        (emptied-number (resource_role (is_system at.file.here)) s.memory.heap)
    fetch-stores loading at stands (Some k) is =
        either-keeps (λ m. Stores m.resources) (loading && not (has_block k s.memory.heap)) _
        (done (record { handle = k; read = 0 }) s)
        (λ again. refilled-stores at k
        (refill_inside k (flags_of at.reference.here) at.reference.here.stored.datum s.memory))
        (λ there. refl)

    fetched-stores : (loading : Bool) (found : Option Found)
        → ((at : Found) → found ≡ Some at → Stands s.resources.chain at)
        → Stores (fetched_as loading found s).after.resources
    fetched-stores loading found stands = found-keeps (λ m. Stores m.resources) found s _ refl
        (λ at e. fetch-stores loading at (stands at e) at.reference.here.handle refl)

    noted-stores : {T : Type 0} (call : Managers → Answer T) → Stores (call s).after.resources
        → Stores (noting call s).after.resources
    noted-stores call stores =
        ap (λ (r : Resources). record r { error = (noting call s).after.resources.error }) stores

    -- each call that fetches
    served-stores : (a : ResourceAsked) → fetches a ≡ true → Stores (served a s).after.resources
    served-stores (asks.GetResource kind id) is = noted-stores (rows.get_resource kind id) (fetched-stores s.resources.loading
        (find_from_current (is_resource kind id) s.resources) (λ at e. (find-finds _ _ s.resources.chain at e).0))
    served-stores (asks.Get1Resource kind id) is = noted-stores (rows.get1_resource kind id) (fetched-stores s.resources.loading
        (find_in_current (is_resource kind id) s.resources) (λ at e. (find-finds _ _ s.resources.chain at e).0))
    served-stores (asks.GetNamedResource kind name) is = noted-stores (rows.get_named_resource kind name) (fetched-stores
        s.resources.loading (find_from_current (is_named kind name) s.resources) (λ at e. (find-finds _ _ s.resources.chain at e).0))
    served-stores (asks.Get1NamedResource kind name) is = noted-stores (rows.get1_named_resource kind name) (fetched-stores
        s.resources.loading (find_in_current (is_named kind name) s.resources) (λ at e. (find-finds _ _ s.resources.chain at e).0))
    served-stores (asks.GetIndResource among kind index) is =
        noted-stores (rows.get_ind_resource among kind index) (fetched-stores s.resources.loading
        (nth_among among kind index s.resources)
        (λ at e. among-stands among kind index s.resources at e))
    served-stores (asks.LoadResource handle) is = noted-stores (rows.load_resource handle) (fetched-stores true
        (resource_of handle s.resources) (λ at e. of-handle handle at e))
      where
        of-handle : (handle : Option ℕ) (at : Found) → resource_of handle s.resources ≡ Some at
            → Stands s.resources.chain at
        of-handle None at e = cc
        of-handle (Some h) at e = (find-finds (λ f. true) (has_handle h) s.resources.chain at e).0
    served-stores a is = let no : false ≡ true = is in cc

-- what is told of a block of which nothing is
heard-none : (on : Bool) (k : ℕ) (gone : List Gone) → told_of k gone ≡ [] → told_of k (heard on gone) ≡ []
heard-none true k gone none = none
heard-none false k gone none = refl

pub fetch-stores-just : (a : ResourceAsked) (s : Managers) → fetches a ≡ true → Owns s
    → StoresJust (heard s.resources.purging (gone_for a s)) s.resources (after_purges a s)
fetch-stores-just a s is owns =
    let gone : List Gone = heard s.resources.purging (gone_for a s) in
    subst (λ (r : Resources). StoresJust gone s.resources r)
    (sym (stores-all gone (served a s).after.resources (λ h. (owns-served a s owns).apart h)))
    (served-stores gone s (λ k high. heard-none s.resources.purging k (gone_for a s) (fetched-none a s is k high)) a is)

-- and of the fetch from the application's own fork
pub own-stores-just : (kind : ℕ) (id : ℤ) (s : Managers) → Owns s
    → StoresJust (heard s.resources.purging (own_gone kind id s)) s.resources
    (stored_gone (heard s.resources.purging (own_gone kind id s)) (fetch_own kind id s).after.resources)
own-stores-just kind id s owns =
    let gone : List Gone = heard s.resources.purging (own_gone kind id s) in
    subst (λ (r : Resources). StoresJust gone s.resources r)
    (sym (stores-all gone (fetch_own kind id s).after.resources (λ h. (own-owns kind id s owns).apart h)))
    (fetched-stores gone s (λ k high. heard-none s.resources.purging k (own_gone kind id s) (own-none kind id s k high))
    true (find_own kind id s.resources)
    (λ at e. (find-finds (λ f. is_at 0 f.file) (is_resource kind id) s.resources.chain at e).0))
