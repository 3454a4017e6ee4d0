use Rattle.res_map.proofs.Cited.{◌≡◌, ◌∙◌, ℕ, zero, suc, Bool, true, false, not, cond, ◌||◌, ◌&&◌, List, [], ◌∷◌, ◌++◌, refl, sym, ap}
use Rattle.res_map.proofs.Cited.{subst, Some, ◌⊎◌, inl, inr, ◌==◌, filter, slice_get, list_all, list_any, remove, and_parts, or_parts}
use Rattle.res_map.proofs.Cited.{or_cases, or_left, or_right, or_from, not_from_false, not-true, both_ways, eqb-true, filter-append}
use Rattle.res_map.proofs.Cited.{distinct, same_self, and_both, not_same, left_apart, filter-all, distinct-all, starts_with, stand_together}

-- Lists of types: which of them are different, and which stand together.

abbrev pub others : ℕ → List ℕ → List ℕ
others n ms = filter (λ m. not (m == n)) ms

abbrev pub is_among : ℕ → List ℕ → Bool
is_among k ks = list_any (λ m. m == k) ks

abbrev pub is_apart : ℕ → List ℕ → Bool
is_apart k ks = list_all (λ m. not (m == k)) ks

among-apart : (k : ℕ) (ks : List ℕ) → is_among k ks ≡ false → is_apart k ks ≡ true
among-apart k [] h = refl
among-apart k (m ∷ ks) h =
    let both : ((m == k) ≡ false) × (is_among k ks ≡ false) = or_parts (m == k) (is_among k ks) h in
    and_both (not (m == k)) (is_apart k ks) (not_from_false (m == k) both.0) (among-apart k ks both.1)

apart-among : (k : ℕ) (ks : List ℕ) → is_apart k ks ≡ true → is_among k ks ≡ false
apart-among k [] h = refl
apart-among k (m ∷ ks) h =
    let both : (not (m == k) ≡ true) × (is_apart k ks ≡ true) = and_parts (not (m == k)) (is_apart k ks) h in
    or_from (m == k) (is_among k ks) (not-true (m == k) both.0) (apart-among k ks both.1)

-- a type that is left out

others-twice : (n : ℕ) (ms : List ℕ) → others n (others n ms) ≡ others n ms
others-twice n ms = filter-all (λ m. not (m == n)) (others n ms) (left_apart n ms)

others-apart : (n : ℕ) (ks : List ℕ) → is_apart n ks ≡ true → others n (distinct ks) ≡ distinct ks
others-apart n ks h = filter-all (λ m. not (m == n)) (distinct ks) (distinct-all (λ m. not (m == n)) ks h)

others-swap : (m n : ℕ) (ks : List ℕ) → others m (others n ks) ≡ others n (others m ks)
others-swap m n [] = refl
others-swap m n (k ∷ ks) = cases (not (k == m)) (not (k == n)) refl refl (others-swap m n ks)
  where
    cases : (t u : Bool) → not (k == m) ≡ t → not (k == n) ≡ u → others m (others n ks) ≡ others n (others m ks)
        → others m (cond u (k ∷ others n ks) (others n ks)) ≡ others n (cond t (k ∷ others m ks) (others m ks))
    cases true true p q e = rw (p, q) (ap (λ l. k ∷ l) e)
    cases true false p q e = rw q e
    cases false true p q e = rw p e
    cases false false p q e = e

-- a type once more in front of itself
distinct-again : (k : ℕ) (ks : List ℕ) → distinct (k ∷ k ∷ ks) ≡ distinct (k ∷ ks)
distinct-again k ks =
    ap (λ t. k ∷ cond (not t) (k ∷ others k (others k (distinct ks))) (others k (others k (distinct ks)))) (same_self k)
    ∙ ap (λ l. k ∷ l) (others-twice k (distinct ks))

-- One is taken away.

-- it was the only one of its type
others-first : (k : ℕ) (ks : List ℕ) → is_apart k ks ≡ true → others k (distinct (k ∷ ks)) ≡ distinct ks
others-first k ks h =
    ap (λ t. cond (not t) (k ∷ others k (others k (distinct ks))) (others k (others k (distinct ks)))) (same_self k)
    ∙ others-twice k (distinct ks) ∙ others-apart k ks h

pub distinct-gone : (x : ℕ) (ks : List ℕ) (i : ℕ) → slice_get ks i ≡ Some x → is_among x (remove ks i) ≡ false
    → distinct (remove ks i) ≡ others x (distinct ks)
distinct-gone x [] zero e h = cc
distinct-gone x [] (suc i) e h = cc
distinct-gone x (k ∷ ks) zero e h =
    let is : k ≡ x = cc in
    sym (ap (λ y. others x (distinct (y ∷ ks))) is ∙ others-first x ks (among-apart x ks h))
distinct-gone x (k ∷ ks) (suc i) e h =
    let both : ((k == x) ≡ false) × (is_among x (remove ks i) ≡ false) =
    or_parts (k == x) (is_among x (remove ks i)) h in
    ap (λ l. k ∷ others k l) (distinct-gone x ks i e both.1)
    ∙ ap (λ l. k ∷ l) (others-swap k x (distinct ks))
    ∙ sym (ap (λ t. cond (not t) (k ∷ others x (others k (distinct ks))) (others x (others k (distinct ks)))) both.0)

-- another one of its type stays
distinct-first : (k : ℕ) (ks : List ℕ) → is_among k ks ≡ true → stand_together (k ∷ ks) ≡ true
    → distinct ks ≡ distinct (k ∷ ks)
distinct-first k [] among stand = cc
distinct-first k (m ∷ ms) among stand =
    let parts : ((m == k || is_apart k (m ∷ ms)) ≡ true) × (stand_together (m ∷ ms) ≡ true) =
    and_parts (m == k || is_apart k (m ∷ ms)) (stand_together (m ∷ ms)) stand in
    cases (or_cases (m == k) (is_apart k (m ∷ ms)) parts.0)
  where
    cases : ((m == k) ≡ true) ⊎ (is_apart k (m ∷ ms) ≡ true) → distinct (m ∷ ms) ≡ distinct (k ∷ m ∷ ms)
    cases (inl e) = sym (distinct-again m ms) ∙ ap (λ j. distinct (j ∷ m ∷ ms)) (eqb-true m k e)
    cases (inr e) = absurd (both_ways (is_among k (m ∷ ms)) (apart-among k (m ∷ ms) e) among)

pub distinct-left : (x : ℕ) (ks : List ℕ) (i : ℕ) → slice_get ks i ≡ Some x → is_among x (remove ks i) ≡ true
    → stand_together ks ≡ true → distinct (remove ks i) ≡ distinct ks
distinct-left x [] zero e among stand = cc
distinct-left x [] (suc i) e among stand = cc
distinct-left x (k ∷ ks) zero e among stand =
    let is : x ≡ k = cc in distinct-first k ks (ap (λ y. is_among y ks) (sym is) ∙ among) stand
distinct-left x (k ∷ ks) (suc i) e among stand =
    let parts : ((starts_with k ks || is_apart k ks) ≡ true) × (stand_together ks ≡ true) =
    and_parts (starts_with k ks || is_apart k ks) (stand_together ks) stand in
    cases (is_among x (remove ks i)) refl among (λ h. distinct-left x ks i e h parts.1)
  where
    cases : (t : Bool) → is_among x (remove ks i) ≡ t → (k == x || t) ≡ true
        → (is_among x (remove ks i) ≡ true → distinct (remove ks i) ≡ distinct ks)
        → distinct (k ∷ remove ks i) ≡ distinct (k ∷ ks)
    cases true h or again = ap (λ l. k ∷ others k l) (again h)
    cases false h or again = last (or_cases (k == x) false or)
      where
        last : ((k == x) ≡ true) ⊎ (false ≡ true) → distinct (k ∷ remove ks i) ≡ distinct (k ∷ ks)
        last (inl p) = ap (λ l. k ∷ others k l) (distinct-gone x ks i e h)
            ∙ ap (λ y. k ∷ others k (others y (distinct ks))) (sym (eqb-true k x p))
            ∙ ap (λ l. k ∷ l) (others-twice k (distinct ks))
        last (inr p) = cc

all-removed : (p : ℕ → Bool) (ks : List ℕ) (i : ℕ) → list_all p ks ≡ true → list_all p (remove ks i) ≡ true
all-removed p [] zero h = refl
all-removed p [] (suc i) h = refl
all-removed p (k ∷ ks) zero h = (and_parts (p k) (list_all p ks) h).1
all-removed p (k ∷ ks) (suc i) h =
    let both : (p k ≡ true) × (list_all p ks ≡ true) = and_parts (p k) (list_all p ks) h in
    and_both (p k) (list_all p (remove ks i)) both.0 (all-removed p ks i both.1)

front-removed : (k : ℕ) (ks : List ℕ) (i : ℕ) → (starts_with k ks || is_apart k ks) ≡ true → stand_together ks ≡ true
    → (starts_with k (remove ks i) || is_apart k (remove ks i)) ≡ true
front-removed k [] zero h stand = refl
front-removed k [] (suc i) h stand = refl
front-removed k (m ∷ ms) i h stand = cases i (or_cases (m == k) (is_apart k (m ∷ ms)) h)
  where
    parts : ((starts_with m ms || is_apart m ms) ≡ true) × (stand_together ms ≡ true)
    parts = and_parts (starts_with m ms || is_apart m ms) (stand_together ms) stand

    apart : is_apart k (m ∷ ms) ≡ true → (not (m == k) ≡ true) × (is_apart k ms ≡ true)
    apart e = and_parts (not (m == k)) (is_apart k ms) e

    cases : (i : ℕ) → ((m == k) ≡ true) ⊎ (is_apart k (m ∷ ms) ≡ true)
        → (starts_with k (remove (m ∷ ms) i) || is_apart k (remove (m ∷ ms) i)) ≡ true
    cases zero (inl e) = subst (λ y. (starts_with y ms || is_apart y ms) ≡ true) (eqb-true m k e) parts.0
    cases zero (inr e) = or_right (starts_with k ms) (is_apart k ms) (apart e).1
    cases (suc i) (inl e) = or_left (m == k) (is_apart k (m ∷ remove ms i)) e
    cases (suc i) (inr e) = or_right (m == k) (is_apart k (m ∷ remove ms i))
        (and_both (not (m == k)) (is_apart k (remove ms i)) (apart e).0
        (all-removed (λ j. not (j == k)) ms i (apart e).1))

pub together-removed : (ks : List ℕ) (i : ℕ) → stand_together ks ≡ true → stand_together (remove ks i) ≡ true
together-removed [] zero h = refl
together-removed [] (suc i) h = refl
together-removed (k ∷ ks) zero h = (and_parts (starts_with k ks || is_apart k ks) (stand_together ks) h).1
together-removed (k ∷ ks) (suc i) h =
    let parts : ((starts_with k ks || is_apart k ks) ≡ true) × (stand_together ks ≡ true) =
    and_parts (starts_with k ks || is_apart k ks) (stand_together ks) h in
    and_both (starts_with k (remove ks i) || is_apart k (remove ks i)) (stand_together (remove ks i))
    (front-removed k ks i parts.0 parts.1) (together-removed ks i parts.1)

-- One is added: behind the last of its type, or at the end.

abbrev pub added_kind : ℕ → List ℕ → List ℕ
added_kind k [] = k ∷ []
added_kind k (m ∷ ms) = cond (m == k && not (is_among k ms)) (m ∷ k ∷ ms) (m ∷ added_kind k ms)

pub distinct-among : (k : ℕ) (ks : List ℕ) → is_among k ks ≡ true → distinct (added_kind k ks) ≡ distinct ks
distinct-among k [] h = cc
distinct-among k (m ∷ ms) h = cases (m == k) (is_among k ms) refl refl h (distinct-among k ms)
  where
    cases : (t u : Bool) → (m == k) ≡ t → is_among k ms ≡ u → (t || u) ≡ true
        → (is_among k ms ≡ true → distinct (added_kind k ms) ≡ distinct ms)
        → distinct (cond (t && not u) (m ∷ k ∷ ms) (m ∷ added_kind k ms)) ≡ distinct (m ∷ ms)
    cases true true p q h again = ap (λ l. m ∷ others m l) (again q)
    cases true false p q h again = ap (λ j. distinct (m ∷ j ∷ ms)) (sym (eqb-true m k p)) ∙ distinct-again m ms
    cases false true p q h again = ap (λ l. m ∷ others m l) (again q)
    cases false false p q h again = cc

pub distinct-new : (k : ℕ) (ks : List ℕ) → is_among k ks ≡ false → distinct (added_kind k ks) ≡ distinct ks ++ k ∷ []
distinct-new k [] h = refl
distinct-new k (m ∷ ms) h =
    let both : ((m == k) ≡ false) × (is_among k ms ≡ false) = or_parts (m == k) (is_among k ms) h in
    ap (λ t. distinct (cond (t && not (is_among k ms)) (m ∷ k ∷ ms) (m ∷ added_kind k ms))) both.0
    ∙ ap (λ l. m ∷ others m l) (distinct-new k ms both.1)
    ∙ ap (λ l. m ∷ l) (filter-append (λ j. not (j == m)) (distinct ms) (k ∷ []))
    ∙ ap (λ t. m ∷ others m (distinct ms) ++ cond (not t) (k ∷ []) [])
    (not_same m k (not_from_false (m == k) both.0))

all-added : (p : ℕ → Bool) (k : ℕ) (ks : List ℕ) → p k ≡ true → list_all p ks ≡ true
    → list_all p (added_kind k ks) ≡ true
all-added p k [] new h = and_both (p k) true new refl
all-added p k (m ∷ ms) new h =
    let both : (p m ≡ true) × (list_all p ms ≡ true) = and_parts (p m) (list_all p ms) h in
    cases (m == k && not (is_among k ms)) both.0 both.1 (all-added p k ms new both.1)
  where
    cases : (t : Bool) → p m ≡ true → list_all p ms ≡ true → list_all p (added_kind k ms) ≡ true
        → list_all p (cond t (m ∷ k ∷ ms) (m ∷ added_kind k ms)) ≡ true
    cases true here rest again =
        and_both (p m) (list_all p (k ∷ ms)) here (and_both (p k) (list_all p ms) new rest)
    cases false here rest again = and_both (p m) (list_all p (added_kind k ms)) here again

-- what stands in front of them is of the first one's type, or of none of theirs
front-added : (m k : ℕ) (ms : List ℕ) → (starts_with m ms || is_apart m ms) ≡ true
    → ((m == k) ≡ true → is_among k ms ≡ true)
    → (starts_with m (added_kind k ms) || is_apart m (added_kind k ms)) ≡ true
front-added m k [] h among = either (k == m)
  where
    either : (t : Bool) → (t || (not t && true)) ≡ true
    either true = refl
    either false = refl
front-added m k (j ∷ js) h among = cases (or_cases (j == m) (is_apart m (j ∷ js)) h)
  where
    first : (t : Bool) → (j == m) ≡ true → starts_with m (cond t (j ∷ k ∷ js) (j ∷ added_kind k js)) ≡ true
    first true e = e
    first false e = e

    other : (t : Bool) → (k == m) ≡ t → is_apart m (j ∷ js) ≡ true → not t ≡ true
    other false e apart = refl
    other true e apart =
        let is : k ≡ m = eqb-true k m e in
        let found : is_among k (j ∷ js) ≡ true = among (ap (λ y. m == y) is ∙ same_self m) in
        absurd (both_ways (is_among m (j ∷ js)) (apart-among m (j ∷ js) apart)
        (ap (λ y. is_among y (j ∷ js)) (sym is) ∙ found))

    cases : ((j == m) ≡ true) ⊎ (is_apart m (j ∷ js) ≡ true)
        → (starts_with m (added_kind k (j ∷ js)) || is_apart m (added_kind k (j ∷ js))) ≡ true
    cases (inl e) = or_left (starts_with m (added_kind k (j ∷ js))) (is_apart m (added_kind k (j ∷ js)))
        (first (j == k && not (is_among k js)) e)
    cases (inr e) = or_right (starts_with m (added_kind k (j ∷ js))) (is_apart m (added_kind k (j ∷ js)))
        (all-added (λ y. not (y == m)) k (j ∷ js) (other (k == m) refl e) e)

pub together-added : (k : ℕ) (ks : List ℕ) → stand_together ks ≡ true → stand_together (added_kind k ks) ≡ true
together-added k [] h = refl
together-added k (m ∷ ms) h =
    let parts : ((starts_with m ms || is_apart m ms) ≡ true) × (stand_together ms ≡ true) =
    and_parts (starts_with m ms || is_apart m ms) (stand_together ms) h in
    cases (m == k) (is_among k ms) refl refl parts.0 parts.1 (together-added k ms parts.1)
  where
    behind : ((m == k) ≡ true → is_among k ms ≡ true) → (starts_with m ms || is_apart m ms) ≡ true
        → stand_together (added_kind k ms) ≡ true → stand_together (m ∷ added_kind k ms) ≡ true
    behind among front again =
        and_both (starts_with m (added_kind k ms) || is_apart m (added_kind k ms)) (stand_together (added_kind k ms))
        (front-added m k ms front among) again

    cases : (t u : Bool) → (m == k) ≡ t → is_among k ms ≡ u → (starts_with m ms || is_apart m ms) ≡ true
        → stand_together ms ≡ true → stand_together (added_kind k ms) ≡ true
        → stand_together (cond (t && not u) (m ∷ k ∷ ms) (m ∷ added_kind k ms)) ≡ true
    cases true false p q front stand again =
        let is : m ≡ k = eqb-true m k p in
        and_both (k == m || is_apart m (k ∷ ms)) (stand_together (k ∷ ms))
        (or_left (k == m) (is_apart m (k ∷ ms)) (ap (λ y. k == y) is ∙ same_self k))
        (and_both (starts_with k ms || is_apart k ms) (stand_together ms)
        (or_right (starts_with k ms) (is_apart k ms) (among-apart k ms q)) stand)
    cases true true p q front stand again = behind (λ e. q) front again
    cases false u p q front stand again = behind (λ e. absurd (both_ways (m == k) p e)) front again
