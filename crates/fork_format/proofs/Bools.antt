use Rattle.fork_format.proofs.Cited.{◌≡◌, ℕ, Bool, true, false, not, ◌&&◌, refl, sym, ap, ◌⊎◌, inl, inr, ◌≢◌, arith, ◌==◌, eqb_tells}
use Rattle.fork_format.proofs.Cited.{nat_tests}

pub and_both : (a b : Bool) → a ≡ true → b ≡ true → (a && b) ≡ true
and_both true b p q = q
and_both false b p q = cc

-- a number is itself, and no other
pub same_self : (n : ℕ) → (n == n) ≡ true
same_self n = cases (eqb_tells n n)
  where
    cases : ((n == n ≡ true) × (n ≡ n)) ⊎ ((n == n ≡ false) × (n ≢ n)) → (n == n) ≡ true
    cases (inl e) = e.0
    cases (inr e) = absurd (e.1 refl)

pub not_same : (m n : ℕ) → not (m == n) ≡ true → (n == m) ≡ false
not_same m n h = cases (eqb_tells m n) (eqb_tells n m)
  where
    cases : ((m == n ≡ true) × (m ≡ n)) ⊎ ((m == n ≡ false) × (m ≢ n))
        → ((n == m ≡ true) × (n ≡ m)) ⊎ ((n == m ≡ false) × (n ≢ m)) → (n == m) ≡ false
    cases (inl e) other = let f : not (m == n) ≡ false = ap not e.0 in cc
    cases (inr e) (inl f) = absurd (e.1 (sym f.1))
    cases (inr e) (inr f) = f.0

-- the order of two numbers doesn't matter to whether they are the same
pub flips : (m n : ℕ) → (m == n) ≡ (n == m)
flips m n = grind (arith, nat_tests)
