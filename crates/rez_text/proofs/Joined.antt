-- Resources that are put where they belong, group by group, make the groups again.
use Rattle.rez_text.proofs.Cited.{◌≡◌, ◌==◌, not, ℕ, true, false, cond, List, [], ◌∷◌, ◌++◌, map, length, nat_le, refl, ap, ◌∙◌, sym}
use Rattle.rez_text.proofs.Cited.{append_assoc, append-nil, arith, rules, AllByRecursion, list_all, and_parts, not-true, eq-eqb, Ref, Group}
use Rattle.rez_text.proofs.Cited.{are_distinct, has_refs, with_ref}
use Rattle.rez_text.proofs.Statements.{with_all, with_groups}

-- none of the groups is of the type
abbrev IsNew : ℕ → List Group → Type 0
IsNew kind groups = AllByRecursion (λ (g : Group). (g.kind == kind) ≡ false) groups

-- a group
abbrev group : ℕ → List Ref → Group
group kind refs = record { kind = kind; refs = refs }

first_ref : (kind : ℕ) (r : Ref) (groups : List Group) → IsNew kind groups
    → with_ref kind r groups ≡ groups ++ group kind (r ∷ []) ∷ []
first_ref kind r [] new = refl
first_ref kind r (g ∷ groups) new =
    ap (λ v. cond v (group g.kind (g.refs ++ r ∷ []) ∷ groups) (g ∷ with_ref kind r groups)) new.0
    ∙ ap (λ l. g ∷ l) (first_ref kind r groups new.1)

next_ref : (kind : ℕ) (r : Ref) (refs : List Ref) (groups : List Group) → IsNew kind groups
    → with_ref kind r (groups ++ group kind refs ∷ []) ≡ groups ++ group kind (refs ++ r ∷ []) ∷ []
next_ref kind r refs [] new =
    ap (λ v. cond v (group kind (refs ++ r ∷ []) ∷ []) (group kind refs ∷ with_ref kind r [])) (eq-eqb kind kind refl)
next_ref kind r refs (g ∷ groups) new =
    ap (λ v. cond v (group g.kind (g.refs ++ r ∷ []) ∷ (groups ++ group kind refs ∷ []))
    (g ∷ with_ref kind r (groups ++ group kind refs ∷ []))) new.0
    ∙ ap (λ l. g ∷ l) (next_ref kind r refs groups new.1)

later_refs : (more refs : List Ref) (kind : ℕ) (groups : List Group) → IsNew kind groups
    → with_all kind more (groups ++ group kind refs ∷ []) ≡ groups ++ group kind (refs ++ more) ∷ []
later_refs [] refs kind groups new = ap (λ l. groups ++ group kind l ∷ []) (sym (append-nil refs))
later_refs (r ∷ more) refs kind groups new =
    ap (with_all kind more) (next_ref kind r refs groups new) ∙ later_refs more (refs ++ r ∷ []) kind groups new
    ∙ ap (λ l. groups ++ group kind l ∷ []) (append_assoc refs (r ∷ []) more)

whole_group : (refs : List Ref) (kind : ℕ) (groups : List Group) → nat_le 1 (length refs) ≡ true → IsNew kind groups
    → with_all kind refs groups ≡ groups ++ group kind refs ∷ []
whole_group [] kind groups some new = absurd (cc)
whole_group (r ∷ refs) kind groups some new =
    ap (with_all kind refs) (first_ref kind r groups new) ∙ later_refs refs (r ∷ []) kind groups new

-- each of the types is new to the groups
abbrev AreNew : List Group → List Group → Type 0
AreNew more groups = AllByRecursion (λ (g : Group). IsNew g.kind groups) more

new_behind : (kind : ℕ) (g : Group) (groups : List Group) → IsNew kind groups → (g.kind == kind) ≡ false
    → IsNew kind (groups ++ g ∷ [])
new_behind kind g [] new other = (other, tt)
new_behind kind g (h ∷ groups) new other = (new.0, new_behind kind g groups new.1 other)

other_way : (m n : ℕ) → (m == n) ≡ false → (n == m) ≡ false
other_way m n h = search (rules, arith)

are_new_behind : (more groups : List Group) (g : Group) → AreNew more groups
    → list_all (λ m. not (m == g.kind)) (map (λ (h : Group). h.kind) more) ≡ true → AreNew more (groups ++ g ∷ [])
are_new_behind [] groups g new others = tt
are_new_behind (h ∷ more) groups g new others =
    let parts = and_parts (not (h.kind == g.kind)) _ others in (
      new_behind h.kind g groups new.0 (other_way h.kind g.kind (not-true (h.kind == g.kind) parts.0)),
      are_new_behind more groups g new.1 parts.1,
    )

groups_on : (more groups : List Group) → list_all has_refs more ≡ true
    → are_distinct (map (λ (g : Group). g.kind) more) ≡ true → AreNew more groups
    → with_groups more groups ≡ groups ++ more
groups_on [] groups some distinct new = sym (append-nil groups)
groups_on (g ∷ more) groups some distinct new =
    let filled = and_parts (has_refs g) (list_all has_refs more) some in
    let apart = and_parts (list_all (λ m. not (m == g.kind)) (map (λ (h : Group). h.kind) more))
    (are_distinct (map (λ (h : Group). h.kind) more)) distinct in
    ap (with_groups more) (whole_group g.refs g.kind groups filled.0 new.0)
    ∙ groups_on more (groups ++ g ∷ []) filled.1 apart.1 (are_new_behind more groups g new.1 apart.0)
    ∙ append_assoc groups (g ∷ []) more

none_new : (more : List Group) → AreNew more []
none_new [] = tt
none_new (g ∷ more) = (tt, none_new more)

-- groups of different types, none of them empty, are made again
pub groups_again : (groups : List Group) → list_all has_refs groups ≡ true
    → are_distinct (map (λ (g : Group). g.kind) groups) ≡ true → with_groups groups [] ≡ groups
groups_again groups some distinct = groups_on groups [] some distinct (none_new groups)
