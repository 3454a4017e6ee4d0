use Rattle.fork_edits.proofs.Cited.{◌≡◌, ℕ, Bool, true, false, cond, List, [], ◌∷◌, Option, Some, None, refl, sym, ◌∙◌, ap, map, Decides}
use Rattle.fork_edits.proofs.Cited.{◌↔◌, bytes_eq, pointwise, false≢true, Decides-eqb, Decides-int_eq, Decides-and, slice_eq-Decides}
use Rattle.fork_edits.proofs.Cited.{bytes_eq-Decides, Ref, Group, Content, Difference, same_name, same_ref, same_group, same_content}
use Rattle.fork_edits.proofs.Cited.{or_order, found_differences, differences}

-- What the tests of names, resources, groups and contents decide: whether the two are equal.

-- a test that decides a fact decides another that says the same
decides_as : {P Q : Type 0} (r : Bool) → (P → Q) → (Q → P) → Decides r P → Decides r Q
decides_as r f g d = (λ h. f (d.0 h), λ q. d.1 (g q))

name_decides : (a b : Option (List ℕ)) → Decides (same_name a b) (a ≡ b)
name_decides None None = (λ h. refl, λ h. refl)
name_decides None (Some b) = (λ h. cc, λ h. cc)
name_decides (Some a) None = (λ h. cc, λ h. cc)
name_decides (Some a) (Some b) =
    decides_as (bytes_eq a b) (λ (h : a ≡ b). ap Some h) (λ (h : Some a ≡ Some b). cc) (bytes_eq-Decides a b)

ref_decides : (r s : Ref) → Decides (same_ref r s) (r ≡ s)
ref_decides r s = decides_as (same_ref r s) (λ (h : ((r.id ≡ s.id × r.name ≡ s.name) × r.attrs ≡ s.attrs) × r.datum ≡ s.datum).
    let e : r ≡ s = λ i. record { id = h.0.0.0 i; name = h.0.0.1 i; attrs = h.0.1 i; datum = h.1 i } in e)
    (λ (e : r ≡ s). (((ap (λ (x : Ref). x.id) e, ap (λ (x : Ref). x.name) e), ap (λ (x : Ref). x.attrs) e), ap (λ (x : Ref). x.datum) e))
    (Decides-and _ _ (Decides-and _ _ (Decides-and _ _ (Decides-int_eq r.id s.id) (name_decides r.name s.name))
    (Decides-eqb r.attrs s.attrs)) (bytes_eq-Decides r.datum s.datum))

group_decides : (g h : Group) → Decides (same_group g h) (g ≡ h)
group_decides g h = decides_as (same_group g h) (λ (e : g.kind ≡ h.kind × g.refs ≡ h.refs). let same : g ≡ h =
    λ i. record { kind = e.0 i; refs = e.1 i } in same) (λ (e : g ≡ h). (ap (λ (x : Group). x.kind) e, ap (λ (x : Group). x.refs) e))
    (Decides-and _ _ (Decides-eqb g.kind h.kind) (slice_eq-Decides ref_decides g.refs h.refs (pointwise same_ref g.refs h.refs) refl))

pub content_decides : (c d : Content) → Decides (same_content c d) (c ≡ d)
content_decides c d = decides_as (same_content c d) (λ (e : (c.area ≡ d.area × c.attrs ≡ d.attrs) × c.groups ≡ d.groups).
    let same : c ≡ d = λ i. record { area = e.0.0 i; attrs = e.0.1 i; groups = e.1 i } in same)
    (λ (e : c ≡ d). ((ap (λ (x : Content). x.area) e, ap (λ (x : Content). x.attrs) e), ap (λ (x : Content). x.groups) e))
    (Decides-and _ _ (Decides-and _ _ (bytes_eq-Decides c.area d.area) (Decides-eqb c.attrs d.attrs))
    (slice_eq-Decides group_decides c.groups d.groups (pointwise same_group c.groups d.groups) refl))

-- there is some difference
some_difference : (ds : List Difference) → or_order ds ≡ [] → ⊥
some_difference [] e = cc
some_difference (d ∷ ds) e = cc

-- contents are the same just where there is no difference
pub alike : (c d : Content) → (differences c d ≡ []) ↔ (c ≡ d)
alike c d = cases (same_content c d) (content_decides c d)
  where
    cases : (t : Bool) → Decides t (c ≡ d) → (cond t [] (or_order (found_differences c d)) ≡ []) ↔ (c ≡ d)
    cases true h = (λ e. h.0 refl, λ e. refl)
    cases false h = (λ e. absurd (some_difference (found_differences c d) e), λ e. absurd (false≢true (h.1 e)))

-- no items are seen just where there are none
pub none_seen : {A B : Type 0} (v : A → B) (xs : List A) → (map v xs ≡ []) ↔ (xs ≡ [])
none_seen v [] = (λ e. refl, λ e. refl)
none_seen v (x ∷ xs) = (λ e. cc, λ e. cc)

-- so it is where the differences are seen by a view
pub alike_seen : {A : Type 0} (v : A → Difference) (xs : List A) (c d : Content) → map v xs ≡ differences c d
    → (xs ≡ []) ↔ (c ≡ d)
alike_seen v xs c d e = (λ h. (alike c d).0 (sym e ∙ (none_seen v xs).1 h), λ h. (none_seen v xs).0 (e ∙ (alike c d).1 h))
