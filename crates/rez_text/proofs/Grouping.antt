-- The groups of a source: where a resource is put.
use Rattle.rez_text.proofs.Cited.{◌≡◌, ℕ, zero, suc, ◌+◌, ◌≤◌, Bool, true, false, cond, Some, None, List, [], ◌∷◌, ◌++◌, map, set, get_or}
use Rattle.rez_text.proofs.Cited.{refl, sym, ap, ◌∙◌, subst, arith, position, position_from, map-append, position_from-zero, big_number}
use Rattle.rez_text.proofs.Cited.{SourceGroup, SourceRef, is_of, ref_said, group_said, with_ref}

-- where a group is found
found_above : (p : SourceGroup → Bool) (i n : ℕ) (gs : List SourceGroup) → Some n ≡ position_from p i gs → i ≤ n
found_above p i n [] h = absurd (cc)
found_above p i n (g ∷ gs) h =
    let go : (b : Bool) → Some n ≡ cond b (Some i) (position_from p (i + 1) gs) → i ≤ n =
    λ b. elim b as (λ v. Some n ≡ cond v (Some i) (position_from p (i + 1) gs) → i ≤ n) [
      | true ↦ λ k. let e : n ≡ i = cc in omega arith
      | false ↦ λ k. let above = found_above p (i + 1) n gs k in omega arith
    ] in
    go (p g) h

-- a resource is put into the first group of its type
found_from : (kind : ℕ) (r : SourceRef) (gs : List SourceGroup) (i m : ℕ) (x y : SourceGroup)
    → Some (i + m) ≡ position_from (is_of kind) i gs → x ≡ get_or gs m x → y.ty ≡ x.ty
    → y.refs.items ≡ x.refs.items ++ r ∷ []
    → map group_said (set gs m y) ≡ with_ref kind (ref_said r) (map group_said gs)
found_from kind r [] i m x y h e t w = absurd (cc)
found_from kind r (g ∷ gs) i zero x y h e t w =
    let same : group_said y ≡ record { kind = big_number 4 g.ty.0; refs = map ref_said g.refs.items ++ ref_said r ∷ [] } =
    rw (t, w, e, map-append) refl in
    let go : (b : Bool) → Some (i + 0) ≡ cond b (Some i) (position_from (is_of kind) (i + 1) gs)
    → group_said y ∷ map group_said gs ≡ cond b
    (record { kind = big_number 4 g.ty.0; refs = map ref_said g.refs.items ++ ref_said r ∷ [] } ∷ map group_said gs)
    (group_said g ∷ with_ref kind (ref_said r) (map group_said gs)) =
    λ b. elim b as (λ v. Some (i + 0) ≡ cond v (Some i) (position_from (is_of kind) (i + 1) gs)
    → group_said y ∷ map group_said gs ≡ cond v
    (record { kind = big_number 4 g.ty.0; refs = map ref_said g.refs.items ++ ref_said r ∷ [] } ∷ map group_said gs)
    (group_said g ∷ with_ref kind (ref_said r) (map group_said gs))) [
      | true ↦ λ k. ap (λ l. l ∷ map group_said gs) same
      | false ↦ λ k. let above = found_above (is_of kind) (i + 1) (i + 0) gs k in absurd (omega arith)
    ] in
    go (is_of kind g) h
found_from kind r (g ∷ gs) i (suc m) x y h e t w =
    let go : (b : Bool) → Some (i + suc m) ≡ cond b (Some i) (position_from (is_of kind) (i + 1) gs)
    → group_said g ∷ map group_said (set gs m y) ≡ cond b
    (record { kind = big_number 4 g.ty.0; refs = map ref_said g.refs.items ++ ref_said r ∷ [] } ∷ map group_said gs)
    (group_said g ∷ with_ref kind (ref_said r) (map group_said gs)) =
    λ b. elim b as (λ v. Some (i + suc m) ≡ cond v (Some i) (position_from (is_of kind) (i + 1) gs)
    → group_said g ∷ map group_said (set gs m y) ≡ cond v
    (record { kind = big_number 4 g.ty.0; refs = map ref_said g.refs.items ++ ref_said r ∷ [] } ∷ map group_said gs)
    (group_said g ∷ with_ref kind (ref_said r) (map group_said gs))) [
      | true ↦ λ k. let e : i + suc m ≡ i = cc in absurd (omega arith)
      | false ↦ λ k.
          let next : i + suc m ≡ i + 1 + m = omega arith in
          ap (λ l. group_said g ∷ l)
          (found_from kind r gs (i + 1) m x y (ap Some (sym next) ∙ k) e t w)
    ] in
    go (is_of kind g) h

-- a resource of a type that has no group yet
absent_from : (kind : ℕ) (r : SourceRef) (gs : List SourceGroup) (i : ℕ) → None ≡ position_from (is_of kind) i gs
    → with_ref kind (ref_said r) (map group_said gs)
    ≡ map group_said gs ++ record { kind = kind; refs = ref_said r ∷ [] } ∷ []
absent_from kind r [] i h = refl
absent_from kind r (g ∷ gs) i h =
    let go : (b : Bool) → None ≡ cond b (Some i) (position_from (is_of kind) (i + 1) gs)
    → cond b
    (record { kind = big_number 4 g.ty.0; refs = map ref_said g.refs.items ++ ref_said r ∷ [] } ∷ map group_said gs)
    (group_said g ∷ with_ref kind (ref_said r) (map group_said gs))
    ≡ group_said g ∷ (map group_said gs ++ record { kind = kind; refs = ref_said r ∷ [] } ∷ []) =
    λ b. elim b as (λ v. None ≡ cond v (Some i) (position_from (is_of kind) (i + 1) gs)
    → cond v
    (record { kind = big_number 4 g.ty.0; refs = map ref_said g.refs.items ++ ref_said r ∷ [] } ∷ map group_said gs)
    (group_said g ∷ with_ref kind (ref_said r) (map group_said gs))
    ≡ group_said g ∷ (map group_said gs ++ record { kind = kind; refs = ref_said r ∷ [] } ∷ [])) [
      | true ↦ λ k. absurd (cc)
      | false ↦ λ k. ap (λ l. group_said g ∷ l) (absent_from kind r gs (i + 1) k)
    ] in
    go (is_of kind g) h

pub put_found : (kind other : ℕ) (r : SourceRef) (gs : List SourceGroup) (m : ℕ) (x y : SourceGroup) → other ≡ kind
    → Some m ≡ position (is_of other) gs → x ≡ get_or gs m x → y.ty ≡ x.ty → y.refs.items ≡ x.refs.items ++ r ∷ []
    → map group_said (set gs m y) ≡ with_ref kind (ref_said r) (map group_said gs)
put_found kind other r gs m x y o h e t w =
    let begun : 0 + m ≡ m = omega arith in
    let here : Some (0 + m) ≡ position_from (is_of other) 0 gs
    = ap Some begun ∙ h ∙ position_from-zero (is_of other) gs in
    found_from other r gs 0 m x y here e t w ∙ ap (λ k. with_ref k (ref_said r) (map group_said gs)) o

pub put_new : (kind other : ℕ) (r : SourceRef) (gs : List SourceGroup) (y : SourceGroup) → other ≡ kind
    → None ≡ position (is_of other) gs → big_number 4 y.ty.0 ≡ kind → y.refs.items ≡ r ∷ []
    → map group_said (gs ++ y ∷ []) ≡ with_ref kind (ref_said r) (map group_said gs)
put_new kind other r gs y o h t w =
    let here : None ≡ position_from (is_of kind) 0 gs
    = subst (λ k. None ≡ position (is_of k) gs) o h ∙ position_from-zero (is_of kind) gs in
    let said : group_said y ≡ record { kind = kind; refs = ref_said r ∷ [] } = rw (t, w) refl in
    map-append group_said gs (y ∷ []) ∙ ap (λ g. map group_said gs ++ g ∷ []) said ∙ sym (absent_from kind r gs 0 here)
