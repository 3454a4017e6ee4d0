use Rattle.res_calls.proofs.Cited.{◌≡◌, ℕ, ◌==◌, List, [], ◌∷◌, ◌++◌, refl, sym, ◌∙◌, ap, cond, arith, Option, Some, None, Ok, Decides-eqb}
use Rattle.res_calls.proofs.Cited.{option_to_list, State, Role, Asked, resource_role_at, served-roles, MakesHandle, resource-role}
use Rattle.res_calls.proofs.Cited.{is_handle, OpenFile, Found, with_reference, Managers, is_system, role_in}
use Rattle.heap_calls.specs.Table as heap
use Rattle.res_calls.proofs.Owning.Owners.{owners, OneOwnerEach, OneOwner}
use Rattle.res_calls.proofs.Owning.Lists.{lost, won}
use Rattle.res_calls.proofs.Owning.Places.{Stands, front, back, owners-at, owners-stand}

-- What is done to one reference's handle.

-- that each handle has its one owner hangs on the open files, on which numbers are resources' handles, and on the next
-- number
pub one-owner-same : (s after : Managers) → OneOwner s → after.resources.chain ≡ s.resources.chain
    → after.resources.next ≡ s.resources.next
    → ((h : ℕ) → resource_role_at h after.memory.heap ≡ resource_role_at h s.memory.heap) → OneOwner after
one-owner-same s after owns chain next same = record {
  one = λ h. ap (owners h) chain ∙ owns.one h ∙ ap option_to_list (sym (same h));
  numbered = let n = owns.numbered in omega (arith, next);
}

-- a call of the Memory Manager
pub one-owner-heap : (a : Asked) (s : Managers) → OneOwner s
    → OneOwner (record s { memory = (heap.served a s.memory).1 })
one-owner-heap a s owns =
    one-owner-same s (record s { memory = (heap.served a s.memory).1 }) owns refl refl (served-roles a s.memory)

-- a reference without a handle gets one that was no resource's
pub one-held : (chain : List OpenFile) (s after : State) (at : Found) (n : ℕ) → Stands chain at
    → at.reference.here.handle ≡ None → OneOwnerEach chain s
    → MakesHandle (role_in at.file.here) s (Ok n, after)
    → OneOwnerEach (with_reference (record at.reference.here { handle = Some n }) at) after
one-held chain s after at n stands bare one made h =
    owners-at h at (record at.reference.here { handle = Some n })
    ∙ won (n == h) (front h at) (back h at) (role_in at.file.here) (resource_role_at h s)
    (λ e. ap (λ (j : ℕ). resource_role_at j s) (sym ((Decides-eqb n h).0 e)) ∙ made.0)
    (ap (λ (o : Option ℕ). front h at ++ (cond (is_handle h o) (role_in at.file.here ∷ []) [] ++ back h at)) (sym bare)
    ∙ sym (owners-stand h chain at stands) ∙ one h)
    ∙ ap (λ (o : Option Role). option_to_list (cond (n == h) o (resource_role_at h s)))
    (sym (resource-role (is_system at.file.here)))
    ∙ ap option_to_list (sym (made.1 h))

-- a reference's handle goes, and is no resource's any more
pub one-gone : (chain : List OpenFile) (s after : State) (at : Found) (k : ℕ) → Stands chain at
    → at.reference.here.handle ≡ Some k → OneOwnerEach chain s
    → ((h : ℕ) → resource_role_at h after ≡ cond (k == h) None (resource_role_at h s))
    → OneOwnerEach (with_reference (record at.reference.here { handle = None }) at) after
one-gone chain s after at k stands held one gone h =
    owners-at h at (record at.reference.here { handle = None })
    ∙ lost (k == h) (front h at) (back h at) (role_in at.file.here) (resource_role_at h s)
    (ap (λ (o : Option ℕ). front h at ++ (cond (is_handle h o) (role_in at.file.here ∷ []) [] ++ back h at)) (sym held)
    ∙ sym (owners-stand h chain at stands) ∙ one h)
    ∙ ap option_to_list (sym (gone h))
