-- What a sink of resources hears of a try, and what is stored of it.
use Rattle.applications.proofs.Cited.{◌≡◌, Bool, true, false, List, [], Result, Ok, Err, refl, ap, ◌∙◌, OnOk, OnErr, IsOk, Gone, Tells}
use Rattle.applications.proofs.Cited.{IsIdle, Hears, hears-none, Resources, PurgesValue, heard, stored_gone, Running, storing}

-- a try that purges nothing tells nothing
pub hears_nothing : {A : Type 0} (told waits : A → List Gone → Type 0) (listens : A → Bool) (done : Type 0) (sink : A)
    → IsIdle told waits sink → Hears told waits listens done [] sink sink
hears_nothing told waits listens done sink idle = hears-none told waits listens done [] sink idle refl

-- a try whose call was done tells what the call purges
pub hears_tried : {A T E : Type 0} (told waits : A → List Gone → Type 0) (listens : A → Bool) (result : Result T E)
    (done : Type 0) (blocks : List Gone) (sink heard : A) → OnOk result done
    → Hears told waits listens done blocks sink heard → Hears told waits listens (IsOk result) blocks sink heard
hears_tried told waits listens (Ok value) done blocks sink heard was hears =
    record { tells = λ ok. hears.tells was; rests = hears.rests }
hears_tried told waits listens (Err fault) done blocks sink heard was hears =
    record { tells = λ ok. let not : false ≡ true = ok in cc; rests = hears.rests }

-- what a sink of resources was told
abbrev pub HasHeard : PurgesValue → List Gone → Type 0
HasHeard p gone = p.on ≡ true → p.told ≡ gone

-- what is heard of what was told is heard of what was purged
heard-told : (on : Bool) (gone told : List Gone) → (on ≡ true → told ≡ gone) → heard on told ≡ heard on gone
heard-told true gone told same = same refl
heard-told false gone told same = refl

-- what a sink tells that was new is stored
pub stores-purged : (on : Bool) (gone stored : List Gone) (old new : PurgesValue) (r after : Resources)
    → old ≡ record { on = on; told = []; offered = [] } → new.on ≡ old.on
    → (old.on ≡ true → Tells HasHeard gone old new) → stored ≡ heard new.on new.told
    → after ≡ stored_gone stored r → after ≡ stored_gone (heard on gone) r
stores-purged on gone stored old new r after begins listens told stored_is after_is =
    let same : new.on ≡ on = listens ∙ ap (λ (p : PurgesValue). p.on) begins in
    let none : HasHeard old [] = λ is. ap (λ (p : PurgesValue). p.told) begins in
    after_is ∙ ap (λ l. stored_gone l r) (stored_is ∙ ap (λ t. heard t new.told) same
    ∙ heard-told on gone new.told (λ is. told (ap (λ (p : PurgesValue). p.on) begins ∙ is) [] none (same ∙ is)))

-- so it is with a try, whose outcome is stored
pub stores-tried : {T E : Type 0} (result : Result T E) (on : Bool) (gone stored : List Gone) (old new : PurgesValue)
    (left after : Running) → old ≡ record { on = on; told = []; offered = [] } → new.on ≡ old.on
    → (IsOk result → old.on ≡ true → Tells HasHeard gone old new) → stored ≡ heard new.on new.told
    → OnOk result (left ≡ after)
    → OnOk result (record left { resources = stored_gone stored left.resources } ≡ storing on gone after)
stores-tried (Err e) on gone stored old new left after begins listens told stored_is went = tt
stores-tried (Ok x) on gone stored old new left after begins listens told stored_is went =
    ap (λ (q : Resources). record left { resources = q })
    (stores-purged on gone stored old new left.resources (stored_gone stored left.resources) begins listens (told refl) stored_is refl)
    ∙ ap (storing on gone) went

-- what holds where a try was done, and where it was not, of something else
pub on_ok-ap : {T E A B : Type 0} (result : Result T E) (f : A → B) (x y : A) → OnOk result (x ≡ y)
    → OnOk result (f x ≡ f y)
on_ok-ap (Ok t) f x y same = ap f same
on_ok-ap (Err e) f x y same = tt

pub on_err-ap : {T E P Q : Type 0} (result : Result T E) → (P → Q) → OnErr result P → OnErr result Q
on_err-ap (Ok t) f p = tt
on_err-ap (Err e) f p = f p
