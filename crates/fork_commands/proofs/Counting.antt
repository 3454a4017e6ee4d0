use Rattle.fork_commands.proofs.Cited.{◌≡◌, ℕ, ◌+◌, ◌-◌, ◌<◌, ◌≤◌, Bool, true, false, refl, sym, ◌∙◌, ap, arith, suc, zero, ltb-true}
use Rattle.fork_commands.proofs.Cited.{ltb-false, nat_lt, if◌then◌else◌, DayIn, day_in, days_of}

-- Years, and months, that are passed one after another.

-- one period, and those after it
step : (days : ℕ → ℕ) (k n period day : ℕ) (t : Bool) → k < n → nat_lt day (days period) ≡ t
    → day_in days (n - k) period day ≡ (if t then record { period = period; day = day }
    else day_in days (n - (k + 1)) (period + 1) (day - days period))
unfolding day_in
step days k n period day t h is =
    let left : n - k ≡ suc (n - (k + 1)) = omega arith in
    ap (λ m. day_in days m period day) left
    ∙ ap (λ t. if t then record { period = period; day = day }
    else day_in days (n - (k + 1)) (period + 1) (day - days period)) is

-- the day lies in this period
pub here : (days : ℕ → ℕ) (k n period day : ℕ) (total : DayIn) → k < n → nat_lt day (days period) ≡ true
    → day_in days (n - k) period day ≡ total → record { period = period; day = day } ≡ total
here days k n period day total h is e = sym (step days k n period day true h is) ∙ e

-- it lies in a later one
pub later : (days : ℕ → ℕ) (k n period day len : ℕ) (total : DayIn) → k < n → len ≡ days period → nat_lt day len ≡ false
    → day_in days (n - k) period day ≡ total → day_in days (n - (k + 1)) (period + 1) (day - len) ≡ total
later days k n period day len total h size is e =
    ap (λ l. day_in days (n - (k + 1)) (period + 1) (day - l)) size
    ∙ (sym (step days k n period day false h (ap (nat_lt day) (sym size) ∙ is)) ∙ e)

-- no period is left
pub none_more : (days : ℕ → ℕ) (k n period day : ℕ) (total : DayIn) → n ≤ k → day_in days (n - k) period day ≡ total
    → record { period = period; day = day } ≡ total
unfolding day_in
none_more days k n period day total h e = let left : n - k ≡ zero = omega arith in
    ap (λ m. day_in days m period day) (sym left) ∙ e

-- The period of a day, by the days before it.
pub record IsDayIn (days : ℕ → ℕ) (n period day : ℕ) (found : DayIn) : Type 0 where
  pub from : period ≤ found.period
  pub sum : days_of days (found.period - period) period + found.day ≡ day
  pub among : day < days_of days n period → found.period < period + n
  pub inside : day < days_of days n period → found.day < days found.period

-- no days before
none-before : (days : ℕ → ℕ) (period day : ℕ) → days_of days (period - period) period + day ≡ day
unfolding days_of
none-before days period day =
    let none : period - period ≡ 0 = omega arith in
    let itself : 0 + day ≡ day = omega arith in
    ap (λ n. days_of days n period + day) none ∙ itself

no-days : (days : ℕ → ℕ) (period day : ℕ) {P : Type 0} → day < days_of days zero period → P
unfolding days_of
no-days days period day h = absurd (let no : ⊥ = omega (arith, h) in no)

one-more : (days : ℕ → ℕ) (n period : ℕ) → days_of days (suc n) period ≡ days period + days_of days n (period + 1)
unfolding days_of
one-more days n period = refl

-- the day lies in the first period
in-first : (days : ℕ → ℕ) (n period day : ℕ) → nat_lt day (days period) ≡ true
    → IsDayIn days (suc n) period day (record { period = period; day = day })
in-first days n period day e = record {
  from = omega arith;
  sum = none-before days period day;
  among = λ h. omega arith;
  inside = λ h. ltb-true day (days period) e;
}

-- it lies in a later one
in-later : (days : ℕ → ℕ) (n period day : ℕ) (found : DayIn) → nat_lt day (days period) ≡ false
    → IsDayIn days n (period + 1) (day - days period) found → IsDayIn days (suc n) period day found
in-later days n period day found e rest = record {
  from = let f = rest.from in omega (arith, f);
  sum = let f = rest.from in
      let s = rest.sum in
      let passed = ltb-false day (days period) e in
      let gap : found.period - period ≡ suc (found.period - (period + 1)) = omega (arith, f) in
      let whole = one-more days (found.period - (period + 1)) period in
      ap (λ k. days_of days k period + found.day) gap ∙ omega (arith, s, passed, whole);
  among = λ h. let a = rest.among (less h) in omega (arith, a);
  inside = λ h. rest.inside (less h);
}
  where
    less : day < days_of days (suc n) period → day - days period < days_of days n (period + 1)
    less h = let whole = one-more days n period in let passed = ltb-false day (days period) e in omega (arith, h, passed, whole)

pub is_day_in : (days : ℕ → ℕ) (n period day : ℕ) → IsDayIn days n period day (day_in days n period day)
unfolding day_in
is_day_in days zero period day = record {
  from = omega arith;
  sum = none-before days period day;
  among = no-days days period day;
  inside = no-days days period day;
}
is_day_in days (suc n) period day =
    by-test (nat_lt day (days period)) refl (is_day_in days n (period + 1) (day - days period))
  where
    by-test : (t : Bool) → nat_lt day (days period) ≡ t
        → IsDayIn days n (period + 1) (day - days period) (day_in days n (period + 1) (day - days period))
        → IsDayIn days (suc n) period day (if t then record { period = period; day = day }
        else day_in days n (period + 1) (day - days period))
    by-test true e rest = in-first days n period day e
    by-test false e rest = in-later days n period day (day_in days n (period + 1) (day - days period)) e rest
