use Rattle.res_calls.proofs.Cited.{◌≡◌, Result, Ok, Err, ◌∙◌, ap, Option, None, Some, true, refl, subst, is_some, IsOk, OsErr, NO_ERR}
use Rattle.res_calls.proofs.Cited.{Memory, code_of, Refusal, Code, HostMemory, Resources, Found, Managers, Answer, keep_error, noting}
use Rattle.res_calls.proofs.Cited.{on_found, IsAnswered, IsAnsweredUnseen, managers, noted}

-- A call on what was found; a call whose code is noted.

-- what is answered on what was found, if anything was
pub found_so : {T V : Type 0} (seen : V → T) (answer : Found → Answer T) (o p : Option Found) (s : Managers)
    (result : Result V Refusal) (after : Managers) → is_some o ≡ true → o ≡ p
    → ((f : Found) → o ≡ Some f → IsAnswered seen (answer f) result after)
    → IsAnswered seen (on_found p s answer) result after
found_so seen answer None p s result after e same each = cc
found_so seen answer (Some f) p s result after e same each =
    subst (λ (q : Option Found). IsAnswered seen (on_found q s answer) result after) same (each f refl)

-- a call that gives what is answered, with its code noted
noted_so : {T V : Type 0} (seen : V → T) (call : Managers → Answer T) (s : Managers) (answer : Result V Refusal)
    (r : Resources) (m : Memory) → IsAnswered seen (call s) answer (managers r m)
    → IsAnswered seen (noting call s) answer (managers (noted answer r) m)
noted_so seen call s (Ok value) r m (reply, after) =
    (reply, ap (λ (c : OsErr). keep_error c (call s).after) (ap code_of reply) ∙ ap (keep_error NO_ERR) after)
noted_so seen call s (Err (Code code)) r m (reply, after) =
    (reply, ap (λ (c : OsErr). keep_error c (call s).after) (ap code_of reply) ∙ ap (keep_error code) after)
noted_so seen call s (Err HostMemory) r m h = tt

pub is_noted : {T V : Type 0} (seen : V → T) (call : Managers → Answer T) (s : Managers)
    (answer result : Result V Refusal) (r after : Resources) (m : Memory)
    → IsAnswered seen (call s) answer (managers r m) → result ≡ answer → after ≡ noted answer r
    → IsAnswered seen (noting call s) result (managers after m)
is_noted seen call s answer result r after m h same is =
    rw (same, is) (noted_so seen call s answer r m h)
