use Rattle.fork_format.proofs.Cited.{◌≡◌, ℕ, ◌<◌, Bool, true, false, cond, List, [], ◌∷◌, ◌++◌, length, refl, sym, ◌∙◌, ap, Option, Some}
use Rattle.fork_format.proofs.Cited.{None, suc, zero, ◌⊎◌, inl, inr, ◌≢◌, set, get_or, map, arith, ◌==◌, nat_cmp, is_eq, append-nil}
use Rattle.fork_format.proofs.Cited.{map-set, map_push, eqb_tells, nat_tests, big_number, Ref, Group, view_ref, view_group, put, empty}
use Rattle.fork_format.proofs.Cited.{opened, place}
use Rattle.std.specs.Prelude.{option_map}
use Rattle.fork_format.specs.declared.content.Group.{Group as StoredGroup}
use Rattle.fork_format.proofs.Bools.{same_self}

-- an answer that is Some is none of None
some_rest : (o : Option ℕ) (i : ℕ) → option_map suc o ≡ Some (suc i) → o ≡ Some i
some_rest (Some n) i h = cc
some_rest None i h = cc

none_rest : (o : Option ℕ) → option_map suc o ≡ None → o ≡ None
none_rest (Some n) h = cc
none_rest None h = refl

-- where a type has a group, nothing is opened
pub opened-known : (k : ℕ) (groups : List Group) (i : ℕ) → place k groups ≡ Some i → opened k groups ≡ groups
opened-known k [] i h = cc
opened-known k (g ∷ groups) i h = cases (g.kind == k) i h (opened-known k groups)
  where
    cases : (t : Bool) (i : ℕ) → cond t (Some 0) (option_map suc (place k groups)) ≡ Some i
        → ((i : ℕ) → place k groups ≡ Some i → opened k groups ≡ groups)
        → cond t (record g { refs = g.refs ++ [] } ∷ groups) (g ∷ opened k groups) ≡ g ∷ groups
    cases true i h again = ap (λ (refs : List Ref). record g { refs = refs } ∷ groups) (append-nil g.refs)
    cases false zero h again = some (place k groups) h
      where
        some : (o : Option ℕ) → option_map suc o ≡ Some zero → g ∷ opened k groups ≡ g ∷ groups
        some (Some n) h = cc
        some None h = cc
    cases false (suc i) h again = ap (λ l. g ∷ l) (again i (some_rest (place k groups) i h))

-- a new type's group is the last
pub opened-new : (k : ℕ) (groups : List Group) → place k groups ≡ None → opened k groups ≡ groups ++ empty k ∷ []
opened-new k [] h = refl
opened-new k (g ∷ groups) h = cases (g.kind == k) h (opened-new k groups)
  where
    cases : (t : Bool) → cond t (Some 0) (option_map suc (place k groups)) ≡ None
        → (place k groups ≡ None → opened k groups ≡ groups ++ empty k ∷ [])
        → cond t (record g { refs = g.refs ++ [] } ∷ groups) (g ∷ opened k groups) ≡ g ∷ (groups ++ empty k ∷ [])
    cases true h again = cc
    cases false h again = ap (λ l. g ∷ l) (again (none_rest (place k groups) h))

-- what the order of two numbers tells of their equality
pub is_eq-nat_cmp : (k q : ℕ) → is_eq (nat_cmp k q) ≡ (k == q)
is_eq-nat_cmp k q = grind (arith, nat_tests)

-- the places with a new type's group
pub place-new : (q k : ℕ) (groups : List Group) → place k groups ≡ None
    → place q (groups ++ empty k ∷ []) ≡ cond (is_eq (nat_cmp k q)) (Some (length groups)) (place q groups)
place-new q k groups h = rest groups h ∙ ap (λ t. cond t (Some (length groups)) (place q groups))
    (sym (is_eq-nat_cmp k q))
  where
    apart : (t : Bool) (o : Option ℕ) → cond t (Some 0) (option_map suc o) ≡ None → (t ≡ false) × (o ≡ None)
    apart true o h = cc
    apart false o h = (refl, none_rest o h)

    rest : (gs : List Group) → place k gs ≡ None → place q (gs ++ empty k ∷ [])
        ≡ cond (k == q) (Some (length gs)) (place q gs)
    rest [] h = refl
    rest (g ∷ gs) h =
        let other : ((g.kind == k) ≡ false) × (place k gs ≡ None) = apart (g.kind == k) (place k gs) h in
        cases (eqb_tells k q) other.0 (rest gs other.1)
      where
        cases : ((k == q ≡ true) × (k ≡ q)) ⊎ ((k == q ≡ false) × (k ≢ q)) → (g.kind == k) ≡ false
            → place q (gs ++ empty k ∷ []) ≡ cond (k == q) (Some (length gs)) (place q gs)
            → cond (g.kind == q) (Some 0) (option_map suc (place q (gs ++ empty k ∷ [])))
            ≡ cond (k == q) (Some (suc (length gs))) (cond (g.kind == q) (Some 0) (option_map suc (place q gs)))
        cases (inl e) other again =
            let not_here : (g.kind == q) ≡ false = ap (λ n. g.kind == n) (sym e.1) ∙ other in
            let behind : place q (gs ++ empty k ∷ []) ≡ Some (length gs) =
            again ∙ ap (λ t. cond t (Some (length gs)) (place q gs)) e.0 in
            rw (not_here, behind, e.0) refl
        cases (inr e) other again =
            let same : place q (gs ++ empty k ∷ []) ≡ place q gs =
            again ∙ ap (λ t. cond t (Some (length gs)) (place q gs)) e.0 in
            rw (same, e.0) refl

-- a type's place is one of the groups'
pub place-inside : (k : ℕ) (groups : List Group) (i : ℕ) → place k groups ≡ Some i → i < length groups
place-inside k [] i h = cc
place-inside k (g ∷ groups) i h = cases (g.kind == k) i h (place-inside k groups)
  where
    cases : (t : Bool) (i : ℕ) → cond t (Some 0) (option_map suc (place k groups)) ≡ Some i
        → ((i : ℕ) → place k groups ≡ Some i → i < length groups) → i < suc (length groups)
    cases t zero h again = omega arith
    cases true (suc i) h again = cc
    cases false (suc i) h again = let less : i < length groups = again i (some_rest (place k groups) i h) in omega arith

-- the group at its type's place takes the resources
pub put-at : (g : Group) (groups : List Group) (i : ℕ) (h d : Group) → place g.kind groups ≡ Some i
    → get_or groups i d ≡ h → set groups i (record h { refs = h.refs ++ g.refs }) ≡ put g groups
put-at g [] i h d p s = cc
put-at g (x ∷ groups) i h d p s = cases (x.kind == g.kind) i p s (λ i. put-at g groups i h d)
  where
    cases : (t : Bool) (i : ℕ) → cond t (Some 0) (option_map suc (place g.kind groups)) ≡ Some i
        → get_or (x ∷ groups) i d ≡ h
        → ((i : ℕ) → place g.kind groups ≡ Some i → get_or groups i d ≡ h
        → set groups i (record h { refs = h.refs ++ g.refs }) ≡ put g groups)
        → set (x ∷ groups) i (record h { refs = h.refs ++ g.refs })
        ≡ cond t (record x { refs = x.refs ++ g.refs } ∷ groups) (x ∷ put g groups)
    cases true zero p s again = ap (λ (y : Group). record y { refs = y.refs ++ g.refs } ∷ groups) (sym s)
    cases true (suc i) p s again = cc
    cases false zero p s again = none (place g.kind groups) p
      where
        none : (o : Option ℕ) → option_map suc o ≡ Some zero
            → record h { refs = h.refs ++ g.refs } ∷ groups ≡ x ∷ put g groups
        none (Some n) p = cc
        none None p = cc
    cases false (suc i) p s again = ap (λ l. x ∷ l) (again i (some_rest (place g.kind groups) i p) s)

-- its group may be opened before
pub put-opened : (g : Group) (groups : List Group) → put g (opened g.kind groups) ≡ put g groups
put-opened g [] = rw (same_self g.kind) refl
put-opened g (x ∷ groups) = cases (x.kind == g.kind) refl (put-opened g groups)
  where
    cases : (t : Bool) → (x.kind == g.kind) ≡ t → put g (opened g.kind groups) ≡ put g groups
        → put g (cond t (record x { refs = x.refs ++ [] } ∷ groups) (x ∷ opened g.kind groups))
        ≡ cond t (record x { refs = x.refs ++ g.refs } ∷ groups) (x ∷ put g groups)
    cases true is again = rw is (ap (λ (refs : List Ref). record x { refs = refs ++ g.refs } ∷ groups)
        (append-nil x.refs))
    cases false is again = rw is (ap (λ l. x ∷ l) again)

-- what resources a group has doesn't change the places
pub place-put : (q : ℕ) (g : Group) (groups : List Group) → place q (put g groups) ≡ place q (opened g.kind groups)
place-put q g [] = refl
place-put q g (x ∷ groups) = cases (x.kind == g.kind) (place-put q g groups)
  where
    cases : (t : Bool) → place q (put g groups) ≡ place q (opened g.kind groups)
        → place q (cond t (record x { refs = x.refs ++ g.refs } ∷ groups) (x ∷ put g groups))
        ≡ place q (cond t (record x { refs = x.refs ++ [] } ∷ groups) (x ∷ opened g.kind groups))
    cases true again = refl
    cases false again = ap (λ o. cond (x.kind == q) (Some 0) (option_map suc o)) again

get_or-map : {X Y : Type 0} (f : X → Y) (xs : List X) (i : ℕ) (d : X) → get_or (map f xs) i (f d) ≡ f (get_or xs i d)
get_or-map f [] i d = refl
get_or-map f (x ∷ xs) zero d = refl
get_or-map f (x ∷ xs) (suc i) d = get_or-map f xs i d

-- groups as they are stored, one of which took the resources of an entry
pub put-filled : {X : Type 0} (view : X → Group) (g : Group) (groups : List Group) (items : List X) (i : ℕ) (x x' : X)
    → map view items ≡ opened g.kind groups → place g.kind (map view items) ≡ Some i
    → x ≡ get_or items i x → view x' ≡ record (view x) { refs = (view x).refs ++ g.refs }
    → map view (set items i x') ≡ put g groups
put-filled view g groups items i x x' opens at old new =
    let here : get_or (map view items) i (view x) ≡ view x = get_or-map view items i x ∙ ap view (sym old) in
    map-set view items i x' ∙ ap (set (map view items) i) new ∙ put-at g (map view items) i (view x) (view x) at here
    ∙ ap (put g) opens ∙ put-opened g groups

pub place-filled : {X : Type 0} (view : X → Group) (g : Group) (groups : List Group) (items : List X) (i : ℕ)
    (x x' : X) → map view items ≡ opened g.kind groups → place g.kind (map view items) ≡ Some i
    → x ≡ get_or items i x → view x' ≡ record (view x) { refs = (view x).refs ++ g.refs } → (q : ℕ)
    → place q (map view (set items i x')) ≡ place q (map view items)
place-filled view g groups items i x x' opens at old new q =
    ap (place q) (put-filled view g groups items i x x' opens at old new) ∙ place-put q g groups
    ∙ ap (place q) (sym opens)

-- a new type's group behind the groups that are stored
pub view_new : (items items' : List StoredGroup) (g : StoredGroup) (k : ℕ) → items' ≡ items ++ g ∷ []
    → big_number 4 g.ty.0 ≡ k → g.refs.items ≡ [] → map view_group items' ≡ map view_group items ++ empty k ∷ []
view_new items items' g k pushed kind none = ap (map view_group) pushed ∙ map_push view_group items g
    ∙ ap (λ x. map view_group items ++ x ∷ []) (same (view_group g).kind k (view_group g).refs [] kind
    (ap (map view_ref) none))
  where
    same : (k k' : ℕ) (r r' : List Ref) → k ≡ k' → r ≡ r'
        → (let x : Group = record { kind = k; refs = r } in x) ≡ record { kind = k'; refs = r' }
    same k k' r r' p q = cc

-- it stands at its place
pub place-own : (k : ℕ) (groups : List Group) → place k groups ≡ None
    → place k (groups ++ empty k ∷ []) ≡ Some (length groups)
place-own k [] h = rw (same_self k) refl
place-own k (g ∷ groups) h = cases (g.kind == k) h (place-own k groups)
  where
    cases : (t : Bool) → cond t (Some 0) (option_map suc (place k groups)) ≡ None
        → (place k groups ≡ None → place k (groups ++ empty k ∷ []) ≡ Some (length groups))
        → cond t (Some 0) (option_map suc (place k (groups ++ empty k ∷ []))) ≡ Some (suc (length groups))
    cases true h again = cc
    cases false h again = ap (option_map suc) (again (none_rest (place k groups) h))
