use Rattle.res_calls.proofs.Cited.{◌≡◌, Bool, true, false, cond, refl, subst, Option, Some, None, Result, Ok, Err, ℕ, OsErr}
use Rattle.res_calls.proofs.Cited.{WRITE_PERMISSION, RES_ATTR, fits, State, Known, Split, content, is_protected, OpenFile, Resources, Found}
use Rattle.res_calls.proofs.Cited.{Managers, Answer, refused, is_system, on_found, on_open, on_resource, resource_of, on_updated}
use Rattle.res_calls.proofs.Cited.{if_updated, update, updated_map, rewritten, on_known, on_removable, if_changeable}

-- What holds of the managers after each answer that a call may give holds after the call.

module _ {T : Type 0} (P : Managers → Type 0)
  where
    pub either-keeps : (t : Bool) (one other : Answer T) → (t ≡ true → P one.after) → (t ≡ false → P other.after)
        → P (cond t one other).after
    either-keeps true one other first second = first refl
    either-keeps false one other first second = second refl

    pub found-keeps : (found : Option Found) (s : Managers) (answer : Found → Answer T) → P s
        → ((at : Found) → found ≡ Some at → P (answer at).after) → P (on_found found s answer).after
    found-keeps None s answer same each = same
    found-keeps (Some at) s answer same each = each at refl

    pub open-keeps : (o : Option (Split OpenFile)) (s : Managers) (answer : Split OpenFile → Answer T) → P s
        → ((at : Split OpenFile) → o ≡ Some at → P (answer at).after) → P (on_open o s answer).after
    open-keeps None s answer same each = same
    open-keeps (Some at) s answer same each = each at refl

    pub known-keeps : (o : Result Known OsErr) (s : Managers) (answer : Known → Answer T) → P s
        → ((k : Known) → o ≡ Ok k → P (answer k).after) → P (on_known o s answer).after
    known-keeps (Err code) s answer same each = same
    known-keeps (Ok k) s answer same each = each k refl

    pub removable-keeps : (found : Option Found) (s : Managers) (answer : Found → Answer T) → P s
        → ((at : Found) → found ≡ Some at → P (answer at).after) → P (on_removable found s answer).after
    removable-keeps None s answer same each = same
    removable-keeps (Some at) s answer same each = each at refl

    -- a resource that is neither the System's nor protected
    pub free-keeps : (answer : Found → Answer T) (s : Managers) (at : Found) → P s
        → (is_system at.file.here ≡ false → P (answer at).after) → P (if_changeable answer s at).after
    free-keeps answer s at same each =
        either-keeps (is_system at.file.here) (refused WRITE_PERMISSION s) _ (λ system. same)
        (λ own. either-keeps (is_protected at.reference.here) (refused RES_ATTR s) (answer at) (λ protected. same)
        (λ free. each own))

    pub changeable-keeps : (handle : Option ℕ) (s : Managers) (answer : Found → Answer T) → P s
        → ((at : Found) → resource_of handle s.resources ≡ Some at → is_system at.file.here ≡ false
        → P (answer at).after)
        → P (on_resource handle s (if_changeable answer s)).after
    changeable-keeps handle s answer same each =
        found-keeps (resource_of handle s.resources) s (if_changeable answer s) same
        (λ at e. free-keeps answer s at same (each at e))

    -- an update that there was room for
    pub updated-keeps : (at : Split OpenFile) (s : Managers) (answer : Resources → Answer T) → P s
        → ((r : Resources) → update s.memory.heap at s.resources ≡ Some r → P (answer r).after)
        → P (on_updated at s answer).after
    updated-keeps at s answer same each = by_update (update s.memory.heap at s.resources) each
      where
        by_update : (o : Option Resources) → ((r : Resources) → o ≡ Some r → P (answer r).after)
            → P (if_updated o s answer).after
        by_update None each = same
        by_update (Some r) each = each r refl

-- an update leaves an untouched file as it is, and writes a touched one
pub update-comes : (Q : Resources → Type 0) (heap : State) (at : Split OpenFile) (r new : Resources)
    → Q r → Q (rewritten heap at r) → update heap at r ≡ Some new → Q new
update-comes Q heap at r new same written e =
    by_tests at.here.touched (fits (content (updated_map heap at.here.map))) e
  where
    is : (q : Resources) → Q q → Some q ≡ Some new → Q new
    is q h e = let same : q ≡ new = cc in subst Q same h

    by_tests : (touched fitting : Bool)
        → cond touched (cond fitting (Some (rewritten heap at r)) None) (Some r) ≡ Some new → Q new
    by_tests true true e = is (rewritten heap at r) written e
    by_tests true false e = cc
    by_tests false fitting e = is r same e

-- where the first test of a list of refusals passed, and none of them refuses, it did not hold
pub own-first : (t : Bool) (code : OsErr) (rest : Option OsErr) → cond t (Some code) rest ≡ None → t ≡ false
own-first true code rest e = cc
own-first false code rest e = refl
