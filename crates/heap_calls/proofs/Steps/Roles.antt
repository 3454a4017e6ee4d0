use Rattle.heap_calls.proofs.Cited.{◌≡◌, ℕ, Bool, true, false, ◌==◌, List, [], ◌∷◌, ◌++◌, length, refl, sym, ◌∙◌, ap, cond, Option, Some}
use Rattle.heap_calls.proofs.Cited.{None, Ok, Err, slice_get, Decides-eqb, Flags, State, Meaning, Role, Plain, Handle, Pointer, Disposed}
use Rattle.heap_calls.proofs.Cited.{Answer, nothing, known_as, refill, reply_of, did, Sought, answer_made, heap_after, new_filled}
use Rattle.heap_calls.proofs.Cited.{new_empty, released, released_as, cast, cast_as, owned_as, resource_role, resource_only, resource_meant}
use Rattle.heap_calls.proofs.Cited.{resource_role_at, Relocatable, Put, seek, if_fits, seek_slot, then_seek, is_unused}
use Rattle.heap_calls.specs.Rows.{given}
use Rattle.heap_calls.proofs.Promises.Knowing.{next-none}
use Rattle.heap_calls.proofs.Steps.Ways.{refill-goes}
use Rattle.heap_calls.proofs.Tries.Roles.{role-gone, role-new}

-- Which numbers are resources' handles after a step of the Resource Manager.

-- a resource's role is one of its own
pub resource-role : (guarded : Bool) → resource_only (resource_role guarded) ≡ Some (resource_role guarded)
resource-role true = refl
resource-role false = refl

-- a new handle has a number that was no handle, and its role; where none was made all stand for what they did
abbrev pub MakesHandle : Role → State → Answer ℕ → Type 0
MakesHandle role s (Err code, after) = (h : ℕ) → resource_role_at h after ≡ resource_role_at h s
MakesHandle role s (Ok n, after) =
    (resource_role_at n s ≡ None)
    × ((h : ℕ) → resource_role_at h after ≡ cond (n == h) (resource_only role) (resource_role_at h s))

-- whatever was sought for it
given-makes : (role : Role) (r : Sought) (s : State) → MakesHandle role s (answer_made (given (Handle role) nothing r) s)
given-makes role r s = cases r.found
  where
    cases : (t : Bool) → MakesHandle role s (
      reply_of t (length s.names),
      record {
        zone = (did nothing r.path s.zone).zone;
        names = cond t (s.names ++ Handle role ∷ []) s.names;
      },
    )
    cases true = (ap resource_meant (next-none s.names), λ h. role-new s.names h (Handle role))
    cases false = λ h. refl

pub filled-makes : (role : Role) (flags : Flags) (bytes : List ℕ) (s : State)
    → MakesHandle role s (answer_made (new_filled role flags bytes) s)
filled-makes role flags bytes s = given-makes role (then_seek nothing s.zone (seek_slot (is_unused s) nothing s.zone)
    (λ z. if_fits (length bytes) (seek (Put (Relocatable (length s.names) flags bytes)) nothing z))) s

pub emptied-makes : (role : Role) (s : State) → MakesHandle role s (answer_made (new_empty role) s)
emptied-makes role s = given-makes role (seek_slot (is_unused s) nothing s.zone) s

-- a handle that is filled stays whose it is
pub refilled-roles : (k : ℕ) (flags : Flags) (bytes : List ℕ) (s : State) (h : ℕ)
    → resource_role_at h (heap_after (refill k flags bytes s) s) ≡ resource_role_at h s
refilled-roles k flags bytes s h = refill-goes (λ d. resource_role_at h (heap_after d s) ≡ resource_role_at h s) k flags
    bytes s (λ code. refl) (λ is. refl)

-- what isn't a resource's handle isn't one without it
none-gone : (k h : ℕ) (s : State) → resource_role_at k s ≡ None
    → resource_role_at h s ≡ cond (k == h) None (resource_role_at h s)
none-gone k h s none = cases (k == h) refl
  where
    cases : (t : Bool) → (k == h) ≡ t → resource_role_at h s ≡ cond t None (resource_role_at h s)
    cases true e = ap (λ (j : ℕ). resource_role_at j s) (sym ((Decides-eqb k h).0 e)) ∙ none
    cases false e = refl

-- a handle that is released, or made an application's own, is no resource's any more
pub released-roles : (k : ℕ) (s : State) (h : ℕ)
    → resource_role_at h (released k s) ≡ cond (k == h) None (resource_role_at h s)
released-roles k s h = by_name (slice_get s.names k) refl
  where
    by_name : (o : Option Meaning) → slice_get s.names k ≡ o
        → resource_role_at h (released_as (known_as k o) s) ≡ cond (k == h) None (resource_role_at h s)
    by_name None is = none-gone k h s (ap resource_meant is)
    by_name (Some (Handle role)) is = role-gone s.names k h Disposed refl
    by_name (Some Pointer) is = none-gone k h s (ap resource_meant is)
    by_name (Some Disposed) is = none-gone k h s (ap resource_meant is)

pub own-roles : (k : ℕ) (s : State) (h : ℕ)
    → resource_role_at h (cast (owned_as false) k s) ≡ cond (k == h) None (resource_role_at h s)
own-roles k s h = by_name (slice_get s.names k) refl
  where
    by_name : (o : Option Meaning) → slice_get s.names k ≡ o
        → resource_role_at h (cast_as (owned_as false) (known_as k o) s) ≡ cond (k == h) None (resource_role_at h s)
    by_name None is = none-gone k h s (ap resource_meant is)
    by_name (Some (Handle role)) is = role-gone s.names k h (Handle Plain) refl
    by_name (Some Pointer) is = none-gone k h s (ap resource_meant is)
    by_name (Some Disposed) is = none-gone k h s (ap resource_meant is)
