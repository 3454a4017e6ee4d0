use Rattle.block_store.proofs.Cited.{◌≡◌, ℕ, ◌≤◌, ◌<◌, ◌⊎◌, inl, inr, zero, suc, Bool, true, false, nat_lt, Option, Some, None, refl, sym}
use Rattle.block_store.proofs.Cited.{◌∙◌, ap, cond, arith, min, nat_le, ◌||◌, true≢false, false_from_ne_true, nat_tests, option_map}
use Rattle.block_store.proofs.Cited.{option_or, least, least_or_last, smaller, IsFewest}
use Rattle.std.proofs.Common.{MatchOption}

-- The least of 0 .. n that passes, or has an answer.

-- where none passes the last is taken
pub least_or_last-none : (n : ℕ) → least_or_last (λ k. false) n ≡ n
least_or_last-none zero = refl
least_or_last-none (suc n) = ap suc (least_or_last-none n)

-- no more than there are
pub least_or_last-le : (test : ℕ → Bool) (n : ℕ) → least_or_last test n ≤ n
least_or_last-le test zero = omega arith
least_or_last-le test (suc n) = cases (test 0) (least_or_last-le (λ k. test (suc k)) n)
  where
    cases : (t : Bool) → least_or_last (λ k. test (suc k)) n ≤ n
        → cond {A = ℕ} t 0 (suc (least_or_last (λ k. test (suc k)) n)) ≤ suc n
    cases true le = omega arith
    cases false le = omega (arith, le)

-- the least of 0 .. n with an answer
pub least-map : {A B : Type 0} (f : A → B) (answer : ℕ → Option A) (n : ℕ)
    → least (λ k. option_map f (answer k)) n ≡ option_map f (least answer n)
least-map f answer zero = refl
least-map f answer (suc n) = ap (option_or (option_map f (answer 0))) (least-map f (λ k. answer (suc k)) n)
    ∙ both f (answer 0) (least (λ k. answer (suc k)) n)
  where
    both : {A B : Type 0} (f : A → B) (a b : Option A) → option_or (option_map f a) (option_map f b)
        ≡ option_map f (option_or a b)
    both f None b = refl
    both f (Some x) b = refl

-- what is found is an answer
pub least-found : {A : Type 0} (answer : ℕ → Option A) (n : ℕ) (y : A) → least answer n ≡ Some y → (k : ℕ)
    × (answer k ≡ Some y)
least-found answer zero y e = (0, e)
least-found {A = A} answer (suc n) y e = cases (answer 0) refl e (λ e. least-found (λ k. answer (suc k)) n y e)
  where
    cases : (o : Option A) → answer 0 ≡ o → option_or o (least (λ k. answer (suc k)) n) ≡ Some y
        → (least (λ k. answer (suc k)) n ≡ Some y → (k : ℕ) × (answer (suc k) ≡ Some y)) → (k : ℕ) × (answer k ≡ Some y)
    cases None is e more = let r = more e in (suc r.0, r.1)
    cases (Some x) is e more = (0, is ∙ e)

-- and has what each answer has
pub least-some : {A : Type 0} (P : A → Type 0) (answer : ℕ → Option A) (n : ℕ) (x : A)
    → ((k : ℕ) (y : A) → answer k ≡ Some y → P y) → least answer n ≡ Some x → P x
least-some P answer n x each e = let r = least-found answer n x e in each r.0 x r.1

-- the least that passes, or the last
pub least_or_last-at : (test : ℕ → Bool) (n k : ℕ) → k ≤ n → ((j : ℕ) → j < k → test j ≡ false)
    → (test k ≡ true) ⊎ (k ≡ n) → least_or_last test n ≡ k
least_or_last-at test zero k le before here = omega arith
least_or_last-at test (suc n) zero le before (inl is) = rw is refl
least_or_last-at test (suc n) zero le before (inr e) = absurd (omega (arith, e))
least_or_last-at test (suc n) (suc k) le before here =
    let more = least_or_last-at (λ j. test (suc j)) n k (omega arith) (λ j l. before (suc j) (omega arith))
    (next here) in
    rw (before 0 (omega arith)) (ap suc more)
  where
    next : (test (suc k) ≡ true) ⊎ (suc k ≡ suc n) → (test (suc k) ≡ true) ⊎ (k ≡ n)
    next (inl is) = inl is
    next (inr e) = inr (omega (arith, e))

-- where each number above one that passes does, none below one that fails does
pub none-before : (test : ℕ → Bool) → ((k m : ℕ) → k ≤ m → test k ≡ true → test m ≡ true) → (n k : ℕ) → k ≤ n
    → test n ≡ false → test k ≡ false
none-before test rises n k le none = false_from_ne_true (test k) (λ is. true≢false (sym (rises k n le is) ∙ none))

-- the least number that passes is the least of 0 .. n, where those above n answer as n does
pub fewest-last : (test : ℕ → Bool) (n k : ℕ) → ((j : ℕ) → n ≤ j → test j ≡ test n) → IsFewest test k
    → k ≡ least_or_last test n
fewest-last test n k ends fewest = sym (least_or_last-at test n k (le (nat_lt n k) refl) fewest.below
    (inl fewest.there))
  where
    le : (t : Bool) → nat_lt n k ≡ t → k ≤ n
    le true e =
        let less : n < k = grind (arith, nat_tests, e) in
        absurd (true≢false (sym fewest.there ∙ ends k (omega (arith, less)) ∙ fewest.below n less))
    le false e = grind (arith, nat_tests, e)

-- the last, where one that is no less fails
pub least_or_last-fails : (test : ℕ → Bool) → ((k m : ℕ) → k ≤ m → test k ≡ true → test m ≡ true) → (n most : ℕ)
    → n ≤ most → test most ≡ false → least_or_last test n ≡ n
least_or_last-fails test rises n most le none = least_or_last-at test n n (omega arith)
    (λ j less. none-before test rises most j (omega (arith, le, less)) none) (inr refl)

-- the least number that passes one of two tests is the smaller of the least that pass each
pub fewest-either : (f g h : ℕ → Bool) → ((k : ℕ) → h k ≡ (f k || g k)) → (one other : Option ℕ)
    → MatchOption one ((k : ℕ) → f k ≡ false) (IsFewest f) → MatchOption other ((k : ℕ) → g k ≡ false) (IsFewest g)
    → MatchOption (smaller one other) ((k : ℕ) → h k ≡ false) (IsFewest h)
fewest-either f g h is None None a b = λ k. is k ∙ rw (a k, b k) refl
fewest-either f g h is None (Some m) a b = record {
  there = is m ∙ rw (a m, b.there) refl;
  below = λ k less. is k ∙ rw (a k, b.below k less) refl;
}
fewest-either f g h is (Some n) None a b = record {
  there = is n ∙ ap (λ t. t || g n) a.there;
  below = λ k less. is k ∙ rw (a.below k less, b k) refl;
}
fewest-either f g h is (Some n) (Some m) a b = record {
  there = cases (nat_le n m) refl;
  below = λ k less. is k ∙ rw (a.below k (omega (arith, less)), b.below k (omega (arith, less))) refl;
}
  where
    right : (t : Bool) → (t || true) ≡ true
    right true = refl
    right false = refl

    cases : (t : Bool) → nat_le n m ≡ t → h (min n m) ≡ true
    cases true e =
        let same : min n m ≡ n = grind (arith, nat_tests, e) in
        ap h same ∙ is n ∙ ap (λ t. t || g n) a.there
    cases false e =
        let same : min n m ≡ m = grind (arith, nat_tests, e) in
        ap h same ∙ is m ∙ ap (λ t. f m || t) b.there ∙ right (f m)
