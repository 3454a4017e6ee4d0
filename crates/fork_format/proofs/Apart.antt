use Rattle.fork_format.proofs.Cited.{◌≡◌, ℕ, Bool, true, false, not, List, [], ◌∷◌, map, refl, sym, ◌∙◌, ap, ◌==◌, ◌↔◌, IsTrue, IsSorted}
use Rattle.fork_format.proofs.Cited.{IsPermutation, IsDistinct, AllByRecursion, list_all, IsStrictlyIncreasing, nat_cmp, is_eq, eqb}
use Rattle.fork_format.proofs.Cited.{IsPermutation-sym, IsNonDecreasingBy-from_sort, IsDistinct-IsPermutation, IsDistinct-from_sorted}
use Rattle.fork_format.proofs.Cited.{IsStrictlyIncreasing-from_distinct, sorted_from_strictly_increasing, Group, joined, are_distinct}
use Rattle.fork_format.proofs.Cited.{kind_in, group_at, and_parts}
use Rattle.fork_format.proofs.Bools.{and_both, not_same, flips}
use Rattle.fork_format.proofs.Placing.{is_eq-nat_cmp}
use Rattle.fork_format.proofs.Whole.{joined-same}

-- Numbers that are all different, as a sort shows it.

order_flips : (m n : ℕ) → is_eq (nat_cmp m n) ≡ is_eq (nat_cmp n m)
order_flips m n = is_eq-nat_cmp m n ∙ flips m n ∙ sym (is_eq-nat_cmp n m)

-- a number is none of others, by the test and by what each of them is
none_tested : (n : ℕ) (ms : List ℕ) → list_all (λ m. not (m == n)) ms ≡ true → AllByRecursion (λ m. (n == m) ≡ false) ms
none_tested n [] h = tt
none_tested n (m ∷ ms) h =
    let both : (not (m == n) ≡ true) × (list_all (λ k. not (k == n)) ms ≡ true) =
    and_parts (not (m == n)) (list_all (λ k. not (k == n)) ms) h in
    (not_same m n both.0, none_tested n ms both.1)

tested_none : (n : ℕ) (ms : List ℕ) → AllByRecursion (λ m. is_eq (nat_cmp n m) ≡ false) ms
    → list_all (λ m. not (m == n)) ms ≡ true
tested_none n [] h = refl
tested_none n (m ∷ ms) h =
    let other : (m == n) ≡ false = flips m n ∙ sym (is_eq-nat_cmp n m) ∙ h.0 in
    and_both (not (m == n)) (list_all (λ k. not (k == n)) ms) (ap not other) (tested_none n ms h.1)

distinct_tested : (ns : List ℕ) → are_distinct ns ≡ true → IsDistinct eqb ns
unfolding IsDistinct
distinct_tested [] h = tt
distinct_tested (n ∷ ns) h =
    let both : (list_all (λ m. not (m == n)) ns ≡ true) × (are_distinct ns ≡ true) =
    and_parts (list_all (λ m. not (m == n)) ns) (are_distinct ns) h in
    (none_tested n ns both.0, distinct_tested ns both.1)

tested_distinct : (ns : List ℕ) → IsDistinct (λ m n. is_eq (nat_cmp m n)) ns → are_distinct ns ≡ true
unfolding IsDistinct
tested_distinct [] h = refl
tested_distinct (n ∷ ns) h = and_both (list_all (λ m. not (m == n)) ns) (are_distinct ns) (tested_none n ns h.0)
    (tested_distinct ns h.1)

-- numbers that rise once they are sorted are all different, and the other way round
pub rise_apart : (xs ys : List ℕ) → IsPermutation xs ys → IsStrictlyIncreasing ys → are_distinct xs ≡ true
rise_apart xs ys p up =
    tested_distinct xs (IsDistinct-IsPermutation (λ m n. is_eq (nat_cmp m n)) order_flips ys xs
    (IsPermutation-sym xs ys p) (IsDistinct-from_sorted nat_cmp ys (sorted_from_strictly_increasing ys up)))

pub apart_rise : (xs ys : List ℕ) → IsPermutation xs ys → IsSorted nat_cmp ys → are_distinct xs ≡ true
    → IsStrictlyIncreasing ys
apart_rise xs ys p sorted h =
    IsStrictlyIncreasing-from_distinct ys (IsNonDecreasingBy-from_sort (λ (n : ℕ). n) ys sorted)
    (IsDistinct-IsPermutation eqb flips xs ys p (distinct_tested xs h))

pub told_apart : (xs ys : List ℕ) (b : Bool) → IsPermutation xs ys → IsSorted nat_cmp ys
    → (IsTrue b ↔ IsStrictlyIncreasing ys) → b ≡ are_distinct xs
told_apart xs ys true p sorted h = sym (rise_apart xs ys p (h.0 refl))
told_apart xs ys false p sorted h = cases (are_distinct xs) refl
  where
    cases : (t : Bool) → are_distinct xs ≡ t → false ≡ t
    cases true is = h.1 (apart_rise xs ys p sorted is)
    cases false is = refl

kinds-at : (bytes ats : List ℕ) → map (λ (g : Group). g.kind) (map (group_at bytes) ats) ≡ map (kind_in bytes) ats
kinds-at bytes [] = refl
kinds-at bytes (at ∷ ats) = ap (λ l. kind_in bytes at ∷ l) (kinds-at bytes ats)

-- groups of entries whose types are all different are joined already
pub joined-apart : (bytes ats : List ℕ) → are_distinct (map (kind_in bytes) ats) ≡ true
    → joined (map (group_at bytes) ats) ≡ map (group_at bytes) ats
joined-apart bytes ats h = joined-same (map (group_at bytes) ats) (ap are_distinct (kinds-at bytes ats) ∙ h)
