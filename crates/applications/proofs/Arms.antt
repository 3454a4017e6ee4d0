use Rattle.applications.proofs.Cited.{◌≡◌, ◌∙◌, Bool, true, false, Result, Ok, Err, List, sym, ap, subst, IfOk, OnOk, IsOk, AllocError}
use Rattle.applications.proofs.Cited.{Told, ResourceCall, Managers, Answer, Served, telling, fetches, Gone, Hears, hears-as, gone_for}
use Rattle.applications.proofs.Cited.{resource_asked, Bindings, TellsServed}
use Rattle.res_calls.specs.Asked.{served}
use Rattle.applications.specs.declared.tried.Tried.{Tried}

-- How one call of the Resource Manager's table is tried: what its method answers is what the table tells.

-- what is given by two things, by two equal ones
pub by_both : {A B C : Type 0} (f : A → B → C) {a c : A} {b d : B} → a ≡ c → b ≡ d → f a b ≡ f c d
by_both f first second = cc

-- the same by three
pub by_three : {A B C D : Type 0} (f : A → B → C → D) {a p : A} {b q : B} {c r : C} → a ≡ p → b ≡ q → c ≡ r
    → f a b c ≡ f p q r
by_three f first second third = cc

-- a try that tells what a call came to, where its method answered so
told-so : {T : Type 0} (tell : T → Told) (again : Bool) (result : Result Tried AllocError)
    (P : Answer T → Managers → Type 0) (a : Answer T) (after : Managers)
    → IfOk result (λ tried. (a : Answer T) (after : Managers) → P a after → TellsServed tried (telling tell a) again)
    → P a after → IfOk result (λ tried. TellsServed tried (telling tell a) again)
told-so tell again (Ok tried) P a after says is = says a after is
told-so tell again (Err e) P a after says is = tt

pub arm_told : {T : Type 0} (tell : T → Told) (again : Bool) (result : Result Tried AllocError)
    (P : Answer T → Managers → Type 0) (a : Answer T) (after : Managers) (call x : ResourceCall) (names : Bindings)
    (s : Managers)
    → IfOk result (λ tried. (a : Answer T) (after : Managers) → P a after → TellsServed tried (telling tell a) again)
    → P a after → telling tell a ≡ served (resource_asked x names) s → again ≡ fetches (resource_asked x names) → call ≡ x
    → IfOk result (λ tried. TellsServed tried (served (resource_asked call names) s)
    (fetches (resource_asked call names)))
arm_told tell again result P a after call x names s says is table fetching called =
    subst (λ (c : ResourceCall). IfOk result (λ tried.
    TellsServed tried (served (resource_asked c names) s)
    (fetches (resource_asked c names)))) (sym called)
    (subst (λ (f : Bool). IfOk result (λ tried. TellsServed tried (served (resource_asked x names) s) f))
    fetching
    (subst (λ (s : Served). IfOk result (λ tried. TellsServed tried s again)) table
    (told-so tell again result P a after says is)))

-- and the managers after it
pub arm_after : {T : Type 0} (tell : T → Told) (result : Result Tried AllocError)
    (P : Answer T → Managers → Type 0) (a : Answer T) (after : Managers) (call x : ResourceCall) (names : Bindings)
    (s : Managers)
    → OnOk result ((a : Answer T) (after : Managers) → P a after → a.after ≡ after)
    → P a after → telling tell a ≡ served (resource_asked x names) s → call ≡ x
    → OnOk result (after ≡ (served (resource_asked call names) s).after)
arm_after tell (Err e) P a after call x names s says is table called = tt
arm_after tell (Ok tried) P a after call x names s says is table called =
    sym (says a after is) ∙ ap (λ (s : Served). s.after) table
    ∙ ap (λ (c : ResourceCall). (served (resource_asked c names) s).after) (sym called)

-- and what the sink is told of it
pub arm_hears : {K W : Type 0} (result : Result Tried AllocError) (call x : ResourceCall) (names : Bindings)
    (s : Managers) (told waits : K → List Gone → Type 0) (listens : K → Bool) (old new : K) (gone : List Gone)
    → OnOk result (W → ⊥) → Hears told waits listens (W → ⊥) gone old new
    → gone ≡ gone_for (resource_asked x names) s → call ≡ x
    → Hears told waits listens (IsOk result) (gone_for (resource_asked call names) s) old new
arm_hears (Err e) call x names s told waits listens old new gone host hears table called =
    record { tells = λ ok on. let not : false ≡ true = ok in cc; rests = hears.rests }
arm_hears (Ok tried) call x names s told waits listens old new gone host hears table called =
    hears-as told waits listens _ _ gone _ old new (λ ok. host)
    (table ∙ ap (λ (c : ResourceCall). gone_for (resource_asked c names) s) (sym called)) hears
