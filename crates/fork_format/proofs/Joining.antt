use Rattle.fork_format.proofs.Cited.{◌≡◌, ℕ, ◌+◌, ◌*◌, Bool, true, false, cond, not, ◌||◌, List, [], ◌∷◌, ◌++◌, map, refl, sym, ◌∙◌, ap}
use Rattle.fork_format.proofs.Cited.{◌⊎◌, inl, inr, ◌≢◌, append_assoc, filter, ◌==◌, flat_map, list_all, list_any, append-nil, map_push}
use Rattle.fork_format.proofs.Cited.{eqb_tells, and_parts, filter-append, Ref, Group, distinct, joined, is_of, are_distinct, put, offsets}
use Rattle.fork_format.proofs.Loops.{offsets-push}
use Rattle.fork_format.proofs.Bools.{not_same}

-- a number added behind others, where it isn't among them
abbrev add : ℕ → List ℕ → List ℕ
add k [] = k ∷ []
add k (m ∷ ms) = cond (m == k) (m ∷ ms) (m ∷ add k ms)

abbrev others : ℕ → List ℕ → List ℕ
others n ms = filter (λ m. not (m == n)) ms

-- a number that is left out may be added before or not at all
others-same : (n : ℕ) (ms : List ℕ) → others n (add n ms) ≡ others n ms
others-same n [] = cases (eqb_tells n n)
  where
    cases : ((n == n ≡ true) × (n ≡ n)) ⊎ ((n == n ≡ false) × (n ≢ n)) → cond (not (n == n)) (n ∷ []) [] ≡ []
    cases (inl e) = rw e.0 refl
    cases (inr e) = absurd (e.1 refl)
others-same n (m ∷ ms) = cases (m == n) (others-same n ms)
  where
    cases : (t : Bool) → others n (add n ms) ≡ others n ms
        → others n (cond t (m ∷ ms) (m ∷ add n ms)) ≡ others n (m ∷ ms)
    cases true e = refl
    cases false e = more (not (m == n))
      where
        more : (u : Bool) → cond u (m ∷ others n (add n ms)) (others n (add n ms))
            ≡ cond u (m ∷ others n ms) (others n ms)
        more u = ap (λ l. cond u (m ∷ l) l) e

-- another number may be added before or after
others-add : (n k : ℕ) (ms : List ℕ) → (k == n) ≡ false → others n (add k ms) ≡ add k (others n ms)
others-add n k [] h = rw h refl
others-add n k (m ∷ ms) h = cases (eqb_tells m k) (others-add n k ms h)
  where
    cases : ((m == k ≡ true) × (m ≡ k)) ⊎ ((m == k ≡ false) × (m ≢ k)) → others n (add k ms) ≡ add k (others n ms)
        → others n (cond (m == k) (m ∷ ms) (m ∷ add k ms)) ≡ add k (others n (m ∷ ms))
    cases (inl e) ih =
        let g : (m == n) ≡ false = ap (λ x. x == n) e.1 ∙ h in
        rw (e.0, g, e.0) refl
    cases (inr e) ih = rw e.0 (more (not (m == n)))
      where
        more : (u : Bool) → cond u (m ∷ others n (add k ms)) (others n (add k ms))
            ≡ add k (cond u (m ∷ others n ms) (others n ms))
        more true = rw e.0 (ap (λ l. m ∷ l) ih)
        more false = ih

-- the different numbers of a list with one more
distinct-push : (ns : List ℕ) (k : ℕ) → distinct (ns ++ k ∷ []) ≡ add k (distinct ns)
distinct-push [] k = refl
distinct-push (n ∷ ns) k = ap (λ l. n ∷ others n l) (distinct-push ns k) ∙ cases (eqb_tells n k)
  where
    cases : ((n == k ≡ true) × (n ≡ k)) ⊎ ((n == k ≡ false) × (n ≢ k))
        → n ∷ others n (add k (distinct ns)) ≡ cond (n == k) (n ∷ others n (distinct ns))
        (n ∷ add k (others n (distinct ns)))
    cases (inl e) = rw e.0 (ap (λ l. n ∷ l) (ap (λ j. others n (add j (distinct ns))) (sym e.1)
        ∙ others-same n (distinct ns)))
    cases (inr e) = rw e.0 (ap (λ l. n ∷ l) (others-add n k (distinct ns) (flip (eqb_tells k n))))
      where
        flip : ((k == n ≡ true) × (k ≡ n)) ⊎ ((k == n ≡ false) × (k ≢ n)) → (k == n) ≡ false
        flip (inl f) = absurd (e.1 (sym f.1))
        flip (inr f) = f.0

abbrev group_of : List Group → ℕ → Group
group_of groups k = record { kind = k; refs = flat_map (λ g. g.refs) (filter (is_of k) groups) }

refs-two : (xs ys : List Group) → flat_map (λ (g : Group). g.refs) (xs ++ ys) ≡ flat_map (λ (g : Group). g.refs) xs
    ++ flat_map (λ (g : Group). g.refs) ys
refs-two [] ys = refl
refs-two (x ∷ xs) ys = ap (λ l. x.refs ++ l) (refs-two xs ys)
    ∙ sym (append_assoc x.refs (flat_map (λ (g : Group). g.refs) xs) (flat_map (λ (g : Group). g.refs) ys))

-- the group of a type, where one group more is of the type or not
group_push : (groups : List Group) (g : Group) (m : ℕ)
    → (group_of (groups ++ g ∷ []) m).refs ≡ (group_of groups m).refs
    ++ flat_map (λ (x : Group). x.refs) (cond (g.kind == m) (g ∷ []) [])
group_push groups g m = ap (flat_map (λ (x : Group). x.refs)) (filter-append (is_of m) groups (g ∷ []))
    ∙ refs-two (filter (is_of m) groups) (cond (g.kind == m) (g ∷ []) [])

abbrev with_refs : ℕ → List Ref → Group
with_refs m refs = record { kind = m; refs = refs }

group_same : (groups : List Group) (g : Group) (m : ℕ) → (g.kind == m) ≡ true
    → group_of (groups ++ g ∷ []) m ≡ with_refs m ((group_of groups m).refs ++ g.refs)
group_same groups g m h = ap (with_refs m) (group_push groups g m
    ∙ ap (λ t. (group_of groups m).refs ++ flat_map (λ (x : Group). x.refs) (cond t (g ∷ []) [])) h
    ∙ ap (λ l. (group_of groups m).refs ++ l) (append-nil g.refs))

group_other : (groups : List Group) (g : Group) (m : ℕ) → (g.kind == m) ≡ false
    → group_of (groups ++ g ∷ []) m ≡ group_of groups m
group_other groups g m h = ap (with_refs m) (group_push groups g m
    ∙ ap (λ t. (group_of groups m).refs ++ flat_map (λ (x : Group). x.refs) (cond t (g ∷ []) [])) h
    ∙ append-nil (group_of groups m).refs)

-- the groups of other types stay
groups_stay : (groups : List Group) (g : Group) (ms : List ℕ) → list_all (λ m. not (m == g.kind)) ms ≡ true
    → map (group_of (groups ++ g ∷ [])) ms ≡ map (group_of groups) ms
groups_stay groups g [] h = refl
groups_stay groups g (m ∷ ms) h =
    let both : (not (m == g.kind) ≡ true) × (list_all (λ j. not (j == g.kind)) ms ≡ true) =
    and_parts (not (m == g.kind)) (list_all (λ j. not (j == g.kind)) ms) h in
    ap (λ x. x ∷ map (group_of (groups ++ g ∷ [])) ms) (group_other groups g m (not_same m g.kind both.0))
    ∙ ap (λ l. group_of groups m ∷ l) (groups_stay groups g ms both.1)

abbrev is_among : ℕ → List ℕ → Bool
is_among k ms = list_any (λ m. m == k) ms

put-map : (groups : List Group) (g : Group) (ms : List ℕ) → are_distinct ms ≡ true
    → (is_among g.kind ms ≡ true) ⊎ (filter (is_of g.kind) groups ≡ [])
    → map (group_of (groups ++ g ∷ [])) (add g.kind ms) ≡ put g (map (group_of groups) ms)
put-map groups g [] different (inl h) = cc
put-map groups g [] different (inr none) = cases (eqb_tells g.kind g.kind)
  where
    cases : ((g.kind == g.kind ≡ true) × (g.kind ≡ g.kind)) ⊎ ((g.kind == g.kind ≡ false) × (g.kind ≢ g.kind))
        → group_of (groups ++ g ∷ []) g.kind ∷ [] ≡ g ∷ []
    cases (inl e) = ap (λ x. x ∷ []) (group_same groups g g.kind e.0
        ∙ ap (λ l. with_refs g.kind (flat_map (λ (x : Group). x.refs) l ++ g.refs)) none)
    cases (inr e) = absurd (e.1 refl)
put-map groups g (m ∷ ms) different either =
    let both : (list_all (λ j. not (j == m)) ms ≡ true) × (are_distinct ms ≡ true) =
    and_parts (list_all (λ j. not (j == m)) ms) (are_distinct ms) different in
    cases (eqb_tells m g.kind) either (put-map groups g ms both.1) both.0
  where
    cases : ((m == g.kind ≡ true) × (m ≡ g.kind)) ⊎ ((m == g.kind ≡ false) × (m ≢ g.kind))
        → (((m == g.kind) || is_among g.kind ms) ≡ true) ⊎ (filter (is_of g.kind) groups ≡ [])
        → ((is_among g.kind ms ≡ true) ⊎ (filter (is_of g.kind) groups ≡ [])
        → map (group_of (groups ++ g ∷ [])) (add g.kind ms) ≡ put g (map (group_of groups) ms))
        → list_all (λ j. not (j == m)) ms ≡ true
        → map (group_of (groups ++ g ∷ [])) (cond (m == g.kind) (m ∷ ms) (m ∷ add g.kind ms))
        ≡ cond (m == g.kind) (with_refs m ((group_of groups m).refs ++ g.refs) ∷ map (group_of groups) ms)
        (group_of groups m ∷ put g (map (group_of groups) ms))
    cases (inl e) either again apart =
        let same : (g.kind == m) ≡ true = ap (λ n. n == m) (sym e.1) ∙ self m in
        let others_apart : list_all (λ j. not (j == g.kind)) ms ≡ true =
        ap (λ n. list_all (λ j. not (j == n)) ms) (sym e.1) ∙ apart in
        rw e.0 (ap (λ x. x ∷ map (group_of (groups ++ g ∷ [])) ms) (group_same groups g m same)
        ∙ ap (λ l. with_refs m ((group_of groups m).refs ++ g.refs) ∷ l) (groups_stay groups g ms others_apart))
      where
        self : (n : ℕ) → (n == n) ≡ true
        self n = pick (eqb_tells n n)
          where
            pick : ((n == n ≡ true) × (n ≡ n)) ⊎ ((n == n ≡ false) × (n ≢ n)) → (n == n) ≡ true
            pick (inl f) = f.0
            pick (inr f) = absurd (f.1 refl)
    cases (inr e) either again apart =
        rw e.0 (ap (λ x. x ∷ map (group_of (groups ++ g ∷ [])) (add g.kind ms))
        (group_other groups g m (not_same m g.kind (ap not e.0)))
        ∙ ap (λ l. group_of groups m ∷ l) (again (less (m == g.kind) e.0 either)))
      where
        less : (t : Bool) → t ≡ false → ((t || is_among g.kind ms) ≡ true) ⊎ (filter (is_of g.kind) groups ≡ [])
            → (is_among g.kind ms ≡ true) ⊎ (filter (is_of g.kind) groups ≡ [])
        less true h o = cc
        less false h o = o

-- a test that each number passes, each that is left passes too
pub all_others : (p : ℕ → Bool) (n : ℕ) (ms : List ℕ) → list_all p ms ≡ true → list_all p (others n ms) ≡ true
all_others p n [] h = refl
all_others p n (m ∷ ms) h = let both : (p m ≡ true) × (list_all p ms ≡ true) = and_parts (p m) (list_all p ms) h in
    cases (not (m == n)) both.0 (all_others p n ms both.1)
  where
    cases : (t : Bool) → p m ≡ true → list_all p (others n ms) ≡ true
        → list_all p (cond t (m ∷ others n ms) (others n ms)) ≡ true
    cases true here rest = rw here rest
    cases false here rest = rest

-- those that are left are others
pub left_apart : (n : ℕ) (ms : List ℕ) → list_all (λ m. not (m == n)) (others n ms) ≡ true
left_apart n [] = refl
left_apart n (m ∷ ms) = cases (not (m == n)) refl (left_apart n ms)
  where
    cases : (t : Bool) → not (m == n) ≡ t → list_all (λ j. not (j == n)) (others n ms) ≡ true
        → list_all (λ j. not (j == n)) (cond t (m ∷ others n ms) (others n ms)) ≡ true
    cases true is rest = rw is rest
    cases false is rest = rest

distinct_others : (n : ℕ) (ms : List ℕ) → are_distinct ms ≡ true → are_distinct (others n ms) ≡ true
distinct_others n [] h = refl
distinct_others n (m ∷ ms) h =
    let both : (list_all (λ j. not (j == m)) ms ≡ true) × (are_distinct ms ≡ true) =
    and_parts (list_all (λ j. not (j == m)) ms) (are_distinct ms) h in
    cases (not (m == n)) (all_others (λ j. not (j == m)) n ms both.0) (distinct_others n ms both.1)
  where
    cases : (t : Bool) → list_all (λ j. not (j == m)) (others n ms) ≡ true → are_distinct (others n ms) ≡ true
        → are_distinct (cond t (m ∷ others n ms) (others n ms)) ≡ true
    cases true here rest = rw here rest
    cases false here rest = rest

pub distinct-distinct : (ns : List ℕ) → are_distinct (distinct ns) ≡ true
distinct-distinct [] = refl
distinct-distinct (n ∷ ns) = rw (left_apart n (distinct ns)) (distinct_others n (distinct ns) (distinct-distinct ns))

among_others : (k n : ℕ) (ms : List ℕ) → (k == n) ≡ false → is_among k ms ≡ true → is_among k (others n ms) ≡ true
among_others k n [] h a = a
among_others k n (m ∷ ms) h a = cases (eqb_tells m k) a (among_others k n ms h)
  where
    keep : (t : Bool) → is_among k (others n ms) ≡ true → is_among k (cond t (m ∷ others n ms) (others n ms)) ≡ true
    keep true rest = either (m == k)
      where
        either : (u : Bool) → (u || is_among k (others n ms)) ≡ true
        either true = refl
        either false = rest
    keep false rest = rest

    cases : ((m == k ≡ true) × (m ≡ k)) ⊎ ((m == k ≡ false) × (m ≢ k)) → ((m == k) || is_among k ms) ≡ true
        → (is_among k ms ≡ true → is_among k (others n ms) ≡ true)
        → is_among k (cond (not (m == n)) (m ∷ others n ms) (others n ms)) ≡ true
    cases (inl e) a again = let other : (m == n) ≡ false = ap (λ x. x == n) e.1 ∙ h in rw (other, e.0) refl
    cases (inr e) a again = keep (not (m == n)) (again (less (m == k) e.0 a))
      where
        less : (t : Bool) → t ≡ false → (t || is_among k ms) ≡ true → is_among k ms ≡ true
        less true f o = cc
        less false f o = o

-- a type is among the types, or no group is of it
known : (groups : List Group) (k : ℕ) → (is_among k (distinct (map (λ (g : Group). g.kind) groups)) ≡ true)
    ⊎ (filter (is_of k) groups ≡ [])
known [] k = inr refl
known (g ∷ groups) k = cases (eqb_tells g.kind k) (known groups k)
  where
    ks : List ℕ
    ks = distinct (map (λ (x : Group). x.kind) groups)

    cases : ((g.kind == k ≡ true) × (g.kind ≡ k)) ⊎ ((g.kind == k ≡ false) × (g.kind ≢ k))
        → (is_among k ks ≡ true) ⊎ (filter (is_of k) groups ≡ [])
        → (((g.kind == k) || is_among k (others g.kind ks)) ≡ true)
        ⊎ (cond (g.kind == k) (g ∷ filter (is_of k) groups) (filter (is_of k) groups) ≡ [])
    cases (inl e) o = inl (rw e.0 refl)
    cases (inr e) (inl a) = inl (rw e.0 (among_others k g.kind ks (flip (eqb_tells k g.kind)) a))
      where
        flip : ((k == g.kind ≡ true) × (k ≡ g.kind)) ⊎ ((k == g.kind ≡ false) × (k ≢ g.kind)) → (k == g.kind) ≡ false
        flip (inl f) = absurd (e.1 (sym f.1))
        flip (inr f) = f.0
    cases (inr e) (inr none) = inr (rw e.0 none)

kinds-push : (groups : List Group) (g : Group) → map (λ (x : Group). x.kind) (groups ++ g ∷ [])
    ≡ map (λ (x : Group). x.kind) groups ++ g.kind ∷ []
kinds-push [] g = refl
kinds-push (h ∷ groups) g = ap (λ l. h.kind ∷ l) (kinds-push groups g)

-- groups joined with one more
pub joined-push : (groups : List Group) (g : Group) → joined (groups ++ g ∷ []) ≡ put g (joined groups)
joined-push groups g =
    let ks : List ℕ = map (λ (x : Group). x.kind) groups in
    ap (λ l. map (group_of (groups ++ g ∷ [])) (distinct l)) (kinds-push groups g)
    ∙ ap (map (group_of (groups ++ g ∷ []))) (distinct-push ks g.kind)
    ∙ put-map groups g (distinct ks) (distinct-distinct ks) (known groups g.kind)

-- the joined groups of offsets with one more
pub joined-offsets : (f : ℕ → Group) (first k at : ℕ) → at ≡ first + 8 * k
    → joined (map f (offsets first 8 (k + 1))) ≡ put (f at) (joined (map f (offsets first 8 k)))
joined-offsets f first k at e =
    ap (λ l. joined (map f l)) (offsets-push first k) ∙ ap joined (map_push f (offsets first 8 k) (first + 8 * k))
    ∙ joined-push (map f (offsets first 8 k)) (f (first + 8 * k))
    ∙ ap (λ n. put (f n) (joined (map f (offsets first 8 k)))) (sym e)
