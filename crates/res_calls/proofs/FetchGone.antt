use Rattle.res_calls.proofs.Cited.{◌≡◌, ℕ, Bool, true, List, Option, Some, None, refl, sym, subst, is_some, Gone, Tells, Memory, Resources}
use Rattle.res_calls.proofs.Cited.{Found, find, Managers, managers, fetch_gone_as, fetch_gone, is_searched, is_wanted, found_at, found_from}
use Rattle.res_calls.proofs.Cited.{Spot, Within, Wanted}
use Rattle.res_calls.proofs.Fetches.{filed}

-- What a sink is told of a fetch.

-- with a handle, or without one
pub told_by : {A : Type 0} (told : A → List Gone → Type 0) (old new : A) (loading : Bool) (f : Found) (o : Option ℕ)
    (s : Managers) → f.reference.here.handle ≡ o → Tells told (fetch_gone_as loading f o s) old new
    → Tells told (fetch_gone_as loading f f.reference.here.handle s) old new
told_by told old new loading f o s is tells =
    subst (λ (p : Option ℕ). Tells told (fetch_gone_as loading f p s) old new) (sym is) tells

-- what was found, if anything
pub told_found : {A : Type 0} (told : A → List Gone → Type 0) (old new : A) (loading : Bool) (o : Option Found)
    (s : Managers) → is_some o ≡ true
    → ((f : Found) → o ≡ Some f → Tells told (fetch_gone_as loading f f.reference.here.handle s) old new)
    → Tells told (fetch_gone loading o s) old new
told_found told old new loading None s some each = cc
told_found told old new loading (Some f) s some each = each f refl

-- what is at the place that was found
pub told_at : {A : Type 0} (told : A → List Gone → Type 0) (old new : A) (loading : Bool) (found : Option Spot)
    (at : Spot) (v r : Resources) (m : Memory) → found ≡ Some at → v ≡ r → is_some (found_at at r.chain) ≡ true
    → ((u : Resources) (f : Found) → found_at at v.chain ≡ Some f → Tells told
    (fetch_gone_as loading f f.reference.here.handle (managers (filed v.chain u) m)) old new)
    → Tells told (fetch_gone loading (found_from found r.chain) (managers r m)) old new
told_at told old new loading found at v r m is same placed each =
    let there = subst (λ (u : Resources). is_some (found_at at u.chain) ≡ true) (sym same) placed in
    let tells = told_found told old new loading (found_at at v.chain) (managers v m) there (each v) in
    subst (λ (u : Resources). Tells told (fetch_gone loading (found_from found u.chain) (managers u m)) old new) same
    (subst (λ (o : Option Spot). Tells told (fetch_gone loading (found_from o v.chain) (managers v m)) old new)
    (sym is) tells)

-- what is found from the current file, as loading is set
pub told_current : {A : Type 0} (told : A → List Gone → Type 0) (old new : A) (within : ℕ → Within) (x : Wanted)
    (v r : Resources) (m : Memory) → v ≡ r
    → Tells told (fetch_gone v.loading (find (is_searched (within v.current)) (is_wanted x) r.chain) (managers r m))
    old new
    → Tells told (fetch_gone r.loading (find (is_searched (within r.current)) (is_wanted x) r.chain) (managers r m))
    old new
told_current told old new within x v r m same tells = subst (λ (u : Resources). Tells told
    (fetch_gone u.loading (find (is_searched (within u.current)) (is_wanted x) r.chain) (managers r m)) old new) same
    tells
