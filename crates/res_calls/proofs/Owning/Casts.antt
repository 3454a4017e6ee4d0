use Rattle.res_calls.proofs.Cited.{◌≡◌, ℕ, zero, suc, Bool, true, false, ◌==◌, List, [], ◌∷◌, refl, sym, ◌∙◌, ap, cond, Option, Some, None}
use Rattle.res_calls.proofs.Cited.{Ok, Decides-eqb, State, Role, Plain, Resource, SystemResource, Meaning, Handle, Pointer, Disposed, Known}
use Rattle.res_calls.proofs.Cited.{known_as, handle_at, cast, cast_as, owned_as, resource_meant, resource_role_at, set-other}
use Rattle.std.proofs.Common.{slice_get, slice_set}
use Rattle.heap_calls.specs.Purging.{is_resource}

-- A handle that becomes a resource's.

-- a name that is set anew
set-there : (ns : List Meaning) (k : ℕ) (old new : Meaning) → slice_get ns k ≡ Some old
    → slice_get (slice_set ns k new) k ≡ Some new
set-there [] k old new is = cc
set-there (m ∷ ns) zero old new is = refl
set-there (m ∷ ns) (suc k) old new is = set-there ns k old new is

role-set : (ns : List Meaning) (k h : ℕ) (old new : Meaning) → slice_get ns k ≡ Some old
    → resource_meant (slice_get (slice_set ns k new) h)
    ≡ cond (k == h) (resource_meant (Some new)) (resource_meant (slice_get ns h))
role-set ns k h old new is = cases (k == h) refl
  where
    cases : (t : Bool) → (k == h) ≡ t
        → resource_meant (slice_get (slice_set ns k new) h)
        ≡ cond t (resource_meant (Some new)) (resource_meant (slice_get ns h))
    cases true e =
        ap (λ (j : ℕ). resource_meant (slice_get (slice_set ns k new) j)) (sym ((Decides-eqb k h).0 e))
        ∙ ap resource_meant (set-there ns k old new is)
    cases false e = ap resource_meant (set-other ns k h new
        (λ same. let f : true ≡ false = sym ((Decides-eqb k h).1 same) ∙ e in cc))

-- the handle that a name is bound to
pub known-name : (handle : Option ℕ) (s : State) (k : Known) → handle_at handle s ≡ Ok k
    → (handle ≡ Some k.number) × (slice_get s.names k.number ≡ Some (Handle k.role))
known-name None s k e = cc
known-name (Some h) s k e = by_name (slice_get s.names h) refl e
  where
    by_name : (o : Option Meaning) → slice_get s.names h ≡ o → known_as h o ≡ Ok k
        → (Some h ≡ Some k.number) × (slice_get s.names k.number ≡ Some (Handle k.role))
    by_name None is e = cc
    by_name (Some (Handle role)) is e =
        let same : (let known : Known = record { number = h; role = role } in known) ≡ k = cc in (
          ap (λ (x : Known). Some x.number) same,
          ap (λ (x : Known). slice_get s.names x.number) (sym same) ∙ is
              ∙ ap (λ (x : Known). Some (Handle x.role)) same,
        )
    by_name (Some Pointer) is e = cc
    by_name (Some Disposed) is e = cc

-- a handle of an application's own, before it becomes a resource's and after
pub own-role : (s : State) (k : Known) → slice_get s.names k.number ≡ Some (Handle k.role)
    → is_resource k.role ≡ false → resource_role_at k.number s ≡ None
own-role s k is own = ap resource_meant is ∙ by_role k.role own
  where
    by_role : (role : Role) → is_resource role ≡ false → resource_meant (Some (Handle role)) ≡ None
    by_role Plain own = refl
    by_role Resource own = cc
    by_role SystemResource own = cc

pub added-roles : (s : State) (k : Known) → slice_get s.names k.number ≡ Some (Handle k.role) → (h : ℕ)
    → resource_role_at h (cast (owned_as true) k.number s)
    ≡ cond (k.number == h) (Some Resource) (resource_role_at h s)
added-roles s k is h =
    ap (λ (o : Option Meaning). resource_role_at h (cast_as (owned_as true) (known_as k.number o) s)) is
    ∙ role-set s.names k.number h (Handle k.role) (Handle Resource) is
