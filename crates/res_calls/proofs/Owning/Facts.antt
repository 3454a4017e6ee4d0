use Rattle.res_calls.proofs.Cited.{◌≡◌, ℕ, ◌≤◌, ◌+◌, Bool, true, false, List, [], ◌∷◌, ◌++◌, refl, sym, ◌∙◌, ap, cond, arith, length}
use Rattle.res_calls.proofs.Cited.{Option, Some, None, count_by, length-append, sum_by-cons, sum_by-append, option_to_list, flat_map}
use Rattle.res_calls.proofs.Cited.{option_or, Role, resource_role_at, Split, split, behind, Reference, has_handle, OpenFile, Found, find}
use Rattle.res_calls.proofs.Cited.{find_open, found_in, found_behind, Managers, references, role_in, role_for, Owns}
use Rattle.std.specs.Option.{option_map}
use Rattle.res_calls.proofs.Owning.Owners.{owner, owners_in, owners, OneOwner}
use Rattle.res_calls.proofs.Owning.Lists.{alone}
use Rattle.res_calls.proofs.Owning.Places.{Stands, find-finds, front, back, owners-stand}

-- Each resource has its own handle just where each handle has its one owner.

-- as many references have a handle as it has owners
abbrev one : ℕ → Reference → ℕ
one h x = cond {A = ℕ} (has_handle h x) 1 0

counted-in : (h : ℕ) (role : Role) (xs : List Reference)
    → count_by (has_handle h) xs ≡ length (flat_map (owner h role) xs)
counted-in h role [] = refl
counted-in h role (x ∷ xs) = sum_by-cons (one h) x xs ∙ by_test (has_handle h x) (counted-in h role xs)
  where
    by_test : (t : Bool) → count_by (has_handle h) xs ≡ length (flat_map (owner h role) xs)
        → cond {A = ℕ} t 1 0 + count_by (has_handle h) xs
        ≡ length (cond t (role ∷ []) [] ++ flat_map (owner h role) xs)
    by_test true e = omega (arith, e)
    by_test false e = omega (arith, e)

counted : (h : ℕ) (chain : List OpenFile) → count_by (has_handle h) (references chain) ≡ length (owners h chain)
counted h [] = refl
counted h (f ∷ older) =
    let first = counted-in h (role_in f) f.map.references in
    let later = counted h older in
    let both = length-append (owners_in h f) (owners h older) in
    sum_by-append (one h) f.map.references (references older) ∙ omega (arith, first, later, both)

-- no two references have the same handle
one-apart : (s : Managers) → OneOwner s → (h : ℕ) → count_by (has_handle h) (references s.resources.chain) ≤ 1
one-apart s owns h = by_role (resource_role_at h s.memory.heap) (owns.one h)
  where
    by_role : (o : Option Role) → owners h s.resources.chain ≡ option_to_list o
        → count_by (has_handle h) (references s.resources.chain) ≤ 1
    by_role None e = omega (arith, counted h s.resources.chain, ap length e)
    by_role (Some role) e = omega (arith, counted h s.resources.chain, ap length e)

-- the owner that a reference with the handle is, between the others
owner-there : (h : ℕ) (chain : List OpenFile) (at : Found) → Stands chain at → has_handle h at.reference.here ≡ true
    → owners h chain ≡ front h at ++ role_in at.file.here ∷ back h at
owner-there h chain at stands has =
    owners-stand h chain at stands
    ∙ ap (λ (t : Bool). front h at ++ (cond t (role_in at.file.here ∷ []) [] ++ back h at)) has

-- a reference with a handle gives it its role
pub role-there : (s : Managers) → OneOwner s → (at : Found) (h : ℕ) → Stands s.resources.chain at
    → has_handle h at.reference.here ≡ true → resource_role_at h s.memory.heap ≡ Some (role_in at.file.here)
role-there s owns at h stands has =
    (alone (front h at) (back h at) (role_in at.file.here) (resource_role_at h s.memory.heap)
    (sym (owner-there h s.resources.chain at stands has) ∙ owns.one h)).2

-- a handle that no search finds has no owner
none-in : (h : ℕ) (role : Role) (xs : List Reference) → split (has_handle h) xs ≡ None
    → flat_map (owner h role) xs ≡ []
none-in h role [] e = refl
none-in h role (x ∷ xs) e = by_test (has_handle h x) (split (has_handle h) xs) (none-in h role xs) e
  where
    by_test : (t : Bool) (o : Option (Split Reference)) → (o ≡ None → flat_map (owner h role) xs ≡ [])
        → cond t (Some (record { before = []; here = x; after = xs })) (option_map (behind x) o) ≡ None
        → cond t (role ∷ []) [] ++ flat_map (owner h role) xs ≡ []
    by_test true o again e = cc
    by_test false None again e = again refl
    by_test false (Some at) again e = cc

none-owned : (h : ℕ) (chain : List OpenFile) → find (λ f. true) (has_handle h) chain ≡ None → owners h chain ≡ []
none-owned h [] e = refl
none-owned h (f ∷ older) e =
    by_found (split (has_handle h) f.map.references) (find (λ g. true) (has_handle h) older)
    (none-in h (role_in f) f.map.references) (none-owned h older) e
  where
    by_found : (o : Option (Split Reference)) (p : Option Found)
        → (o ≡ None → owners_in h f ≡ []) → (p ≡ None → owners h older ≡ [])
        → option_or (option_map (found_in f older) o) (option_map (found_behind f) p) ≡ None
        → owners_in h f ++ owners h older ≡ []
    by_found (Some at) p first later e = cc
    by_found None (Some at) first later e = cc
    by_found None None first later e = ap (λ (l : List Role). l ++ owners h older) (first refl) ∙ later refl

-- the role of what a search by a handle finds
one-owned : (s : Managers) → OneOwner s → (h : ℕ)
    → role_for (find_open (has_handle h) s.resources) ≡ resource_role_at h s.memory.heap
one-owned s owns h = by_found (find_open (has_handle h) s.resources) refl
  where
    none-listed : (o : Option Role) → [] ≡ option_to_list o → None ≡ o
    none-listed None e = refl
    none-listed (Some role) e = cc

    by_found : (o : Option Found) → find_open (has_handle h) s.resources ≡ o
        → role_for o ≡ resource_role_at h s.memory.heap
    by_found None e = none-listed (resource_role_at h s.memory.heap)
        (sym (none-owned h s.resources.chain e) ∙ owns.one h)
    by_found (Some at) e =
        let found = find-finds (λ f. true) (has_handle h) s.resources.chain at e in
        sym (role-there s owns at h found.0 found.1)

pub owns-one : (s : Managers) → OneOwner s → Owns s
owns-one s owns = record { apart = one-apart s owns; owned = one-owned s owns; numbered = owns.numbered }

-- an item of a list that is no longer than one is the only one
only : {A : Type 0} (before behind : List A) (x : A) → length (before ++ x ∷ behind) ≤ 1
    → before ++ x ∷ behind ≡ x ∷ []
only [] [] x few = refl
only [] (y ∷ behind) x few = absurd (let f : length (x ∷ y ∷ behind) ≤ 1 = few in omega arith)
only (z ∷ before) behind x few =
    let both = length-append before (x ∷ behind) in
    absurd (let f : length (z ∷ (before ++ x ∷ behind)) ≤ 1 = few in omega arith)

pub one-owns : (s : Managers) → Owns s → OneOwner s
one-owns s owns = record { one = one; numbered = owns.numbered }
  where
    one : (h : ℕ) → owners h s.resources.chain ≡ option_to_list (resource_role_at h s.memory.heap)
    one h = by_found (find_open (has_handle h) s.resources) refl
        ∙ ap option_to_list (owns.owned h)
      where
        by_found : (o : Option Found) → find_open (has_handle h) s.resources ≡ o
            → owners h s.resources.chain ≡ option_to_list (role_for o)
        by_found None e = none-owned h s.resources.chain e
        by_found (Some at) e =
            let found = find-finds (λ f. true) (has_handle h) s.resources.chain at e in
            let there = owner-there h s.resources.chain at found.0 found.1 in
            let few : length (front h at ++ role_in at.file.here ∷ back h at) ≤ 1 = omega (
              arith,
              owns.apart h,
              counted h s.resources.chain,
              ap length there,
            ) in
            there ∙ only (front h at) (back h at) (role_in at.file.here) few
