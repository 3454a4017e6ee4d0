use Rattle.heap_calls.proofs.Cited.{◌≡◌, ℕ, zero, suc, Bool, true, false, List, [], ◌∷◌, ◌++◌, length, refl, sym, ◌∙◌, ap, cond, Option}
use Rattle.heap_calls.proofs.Cited.{Some, None, Result, Ok, Err, slice_get, slice_set, none-some, OsErr, Flags, Relocatable, Put, Did, did}
use Rattle.heap_calls.proofs.Cited.{Sought, seek, if_fits, seek_slot, then_seek, counted, Role, Plain, Meaning, Handle, Pointer, Disposed}
use Rattle.heap_calls.proofs.Cited.{State, Memory, Answer, nothing, known_as, is_unused, doing_silently, reply_of, new_inside}
use Rattle.heap_calls.proofs.Cited.{new_empty_inside, inside, cast, cast_as, resource_role, owned_as, guarded_as, owned_by, IsAnswer}
use Rattle.heap_calls.proofs.Cited.{Refusal, Code, HostMemory}
use Rattle.heap_calls.specs.Rows.{given}

-- A new handle gets its role after it was made.

-- the last element
pub get-last : {A : Type 0} (xs : List A) (a : A) → slice_get (xs ++ a ∷ []) (length xs) ≡ Some a
get-last [] a = refl
get-last (x ∷ xs) a = get-last xs a

pub set-last : {A : Type 0} (xs : List A) (a b : A) → slice_set (xs ++ a ∷ []) (length xs) b ≡ xs ++ b ∷ []
set-last [] a b = refl
set-last (x ∷ xs) a b = ap (λ l. x ∷ l) (set-last xs a b)

-- an element that was changed
get-changed : {A : Type 0} (xs : List A) (i : ℕ) (a b : A) → slice_get xs i ≡ Some a
    → slice_get (slice_set xs i b) i ≡ Some b
get-changed [] i a b at = absurd (none-some _ at)
get-changed (x ∷ xs) zero a b at = refl
get-changed (x ∷ xs) (suc i) a b at = get-changed xs i a b at

set-twice : {A : Type 0} (xs : List A) (i : ℕ) (a b : A) → slice_set (slice_set xs i a) i b ≡ slice_set xs i b
set-twice [] i a b = refl
set-twice (x ∷ xs) zero a b = refl
set-twice (x ∷ xs) (suc i) a b = ap (λ l. x ∷ l) (set-twice xs i a b)

-- one role after another
cast-twice : (f g : Role → Role) (n : ℕ) (s : State) → cast f n (cast g n s) ≡ cast (λ r. f (g r)) n s
cast-twice f g n s = cases (slice_get s.names n) refl
  where
    cases : (o : Option Meaning) → slice_get s.names n ≡ o
        → cast f n (cast_as g (known_as n o) s) ≡ cast_as (λ r. f (g r)) (known_as n o) s
    cases None at = ap (λ o. cast_as f (known_as n o) s) at
    cases (Some (Handle role)) at =
        let mid : State = record s { names = slice_set s.names n (Handle (g role)) } in
        ap (λ o. cast_as f (known_as n o) mid) (get-changed s.names n (Handle role) (Handle (g role)) at)
        ∙ ap (λ l. let t : State = record s { names = l } in t)
        (set-twice s.names n (Handle (g role)) (Handle (f (g role))))
    cases (Some Pointer) at = ap (λ o. cast_as f (known_as n o) s) at
    cases (Some Disposed) at = ap (λ o. cast_as f (known_as n o) s) at

-- a handle becomes a resource's, guarded or not
pub own-done : (guarded : Bool) (number : ℕ) (old mid new : Memory) → mid ≡ inside (cast (owned_as true) number) old
    → new ≡ inside (cast (guarded_as guarded) number) mid
    → new ≡ inside (cast (λ _. resource_role guarded) number) old
own-done guarded number old mid new one two =
    two ∙ ap (inside (cast (guarded_as guarded) number)) one
    ∙ ap (λ s. let m : Memory = record old { heap = s } in m)
    (cast-twice (guarded_as guarded) (owned_as true) number old.heap)

-- the heap in which the new handle, if one was made, is in this role
abbrev recast : Role → Result ℕ OsErr → State → State
recast role (Ok n) s = cast (λ _. role) n s
recast role (Err code) s = s

-- the same in a memory
abbrev recast_inside : Role → Result ℕ OsErr × Memory → Result ℕ OsErr × Memory
recast_inside role a = (a.0, inside (recast role a.0) a.1)

given-role : (role : Role) (r : Sought) (m : Memory) → doing_silently (given (Handle role) nothing r) m
    ≡ recast_inside role (doing_silently (given (Handle Plain) nothing r) m)
given-role role r m = ap (λ (a : Answer ℕ). (
  a.0,
  record m {
    heap = a.1;
    log = record m.log { searches = counted m.log.searches d.searches };
    moves = counted m.moves d.lowered;
  },
)) (cases r.found)
  where
    s : State
    s = m.heap

    d : Did
    d = did nothing r.path s.zone

    after : Role → Bool → State
    after role t = record { zone = d.zone; names = cond t (s.names ++ Handle role ∷ []) s.names }

    answer : Bool → State → Answer ℕ
    answer t now = (reply_of t (length s.names), now)

    cases : (t : Bool) → answer t (after role t) ≡ answer t (recast role (reply_of t (length s.names)) (after Plain t))
    cases true =
        sym (ap (λ o. answer true (cast_as (λ _. role) (known_as (length s.names) o) (after Plain true)))
        (get-last s.names (Handle Plain))
        ∙ ap (λ l. answer true (record { zone = d.zone; names = l })) (set-last s.names (Handle Plain) (Handle role)))
    cases false = refl

-- what is given back of a handle that was made and became a resource's
recast-answer : (guarded : Bool) (a b : Result ℕ OsErr × Memory) (r : Result ℕ Refusal) (mid new : Memory)
    → b ≡ recast_inside (resource_role guarded) a → IsAnswer a r mid → new ≡ inside (owned_by guarded r) mid
    → IsAnswer b r new
recast-answer guarded a b (Ok n) mid new role is now = role ∙ ap (recast_inside (resource_role guarded)) is
    ∙ ap (λ (m : Memory). (Ok n, m)) (sym now)
recast-answer guarded a b (Err (Code code)) mid new role is now = role ∙ ap (recast_inside (resource_role guarded)) is
    ∙ ap (λ (m : Memory). (Err code, m)) (sym now)
recast-answer guarded a b (Err HostMemory) mid new role is now = tt

pub owned-answer : (guarded : Bool) (flags : Flags) (x : List ℕ) (old mid new : Memory) (r : Result ℕ Refusal)
    → IsAnswer (new_inside Plain flags x old) r mid → new ≡ inside (owned_by guarded r) mid
    → IsAnswer (new_inside (resource_role guarded) flags x old) r new
owned-answer guarded flags x old mid new r is now =
    let s = old.heap in
    let role = resource_role guarded in
    recast-answer guarded (new_inside Plain flags x old) (new_inside role flags x old) r mid new
    (given-role role (then_seek nothing s.zone (seek_slot (is_unused s) nothing s.zone)
    (λ z. if_fits (length x) (seek (Put (Relocatable (length s.names) flags x)) nothing z))) old) is now

pub owned-emptied : (guarded : Bool) (old mid new : Memory) (r : Result ℕ Refusal)
    → IsAnswer (new_empty_inside Plain old) r mid → new ≡ inside (owned_by guarded r) mid
    → IsAnswer (new_empty_inside (resource_role guarded) old) r new
owned-emptied guarded old mid new r is now =
    let role = resource_role guarded in
    recast-answer guarded (new_empty_inside Plain old) (new_empty_inside role old) r mid new
    (given-role role (seek_slot (is_unused old.heap) nothing old.heap.zone) old) is now
