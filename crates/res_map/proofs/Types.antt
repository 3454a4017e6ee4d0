use Rattle.res_map.proofs.Cited.{◌≡◌, ℕ, true, not, cond, List, [], ◌∷◌, ◌++◌, length, map, refl, ◌∙◌, ap, ◌==◌, filter, nat_le, list_all}
use Rattle.res_map.proofs.Cited.{and_parts, Ref, Group, has_refs, are_distinct, same_self, left_apart, filter-all, Reference, types}
use Rattle.res_map.proofs.Cited.{read_reference, of_groups}

-- The types of references.

abbrev others : ℕ → List ℕ → List ℕ
others n ms = filter (λ m. not (m == n)) ms

-- a group's references have its type once
types-group : (k : ℕ) (r : Ref) (refs : List Ref) (rest : List Reference)
    → types (map (read_reference k) (r ∷ refs) ++ rest) ≡ k ∷ others k (types rest)
types-group k r [] rest = refl
types-group k r (s ∷ refs) rest =
    ap (λ l. k ∷ others k l) (types-group k s refs rest)
    ∙ ap (λ t. k ∷ cond (not t) (k ∷ others k (others k (types rest))) (others k (others k (types rest)))) (same_self k)
    ∙ ap (λ l. k ∷ l) (filter-all (λ m. not (m == k)) (others k (types rest)) (left_apart k (types rest)))

-- the references of groups have the groups' types, where these are different and no group is empty
pub types-groups : (groups : List Group) → are_distinct (map (λ g. g.kind) groups) ≡ true
    → list_all has_refs groups ≡ true → types (of_groups groups) ≡ map (λ g. g.kind) groups
types-groups [] apart some = refl
types-groups (g ∷ groups) apart some =
    let ks : List ℕ = map (λ (x : Group). x.kind) groups in
    let one : (list_all (λ m. not (m == g.kind)) ks ≡ true) × (are_distinct ks ≡ true) =
    and_parts (list_all (λ m. not (m == g.kind)) ks) (are_distinct ks) apart in
    let two : (has_refs g ≡ true) × (list_all has_refs groups ≡ true) =
    and_parts (has_refs g) (list_all has_refs groups) some in
    cases g.refs two.0 (ap (λ l. g.kind ∷ others g.kind l) (types-groups groups one.1 two.1)
    ∙ ap (λ l. g.kind ∷ l) (filter-all (λ m. not (m == g.kind)) ks one.0))
  where
    cases : (refs : List Ref) → nat_le 1 (length refs) ≡ true
        → g.kind ∷ others g.kind (types (of_groups groups)) ≡ g.kind ∷ map (λ (x : Group). x.kind) groups
        → types (map (read_reference g.kind) refs ++ of_groups groups) ≡ g.kind ∷ map (λ (x : Group). x.kind) groups
    cases [] h e = cc
    cases (r ∷ refs) h e = types-group g.kind r refs (of_groups groups) ∙ e
