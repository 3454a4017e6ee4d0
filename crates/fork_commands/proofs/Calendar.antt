use Rattle.fork_commands.proofs.Cited.{◌≡◌, ℕ, ◌+◌, ◌-◌, ◌*◌, ◌/◌, ◌%◌, ◌<◌, ◌≤◌, Bool, true, false, refl, ◌∙◌, ap, arith, if◌then◌else◌}
use Rattle.fork_commands.proofs.Cited.{DayIn, is_leap, days_in_year, days_in_month, day_in, year_of, month_of, moment, days_of, moment_at}
use Rattle.fork_commands.proofs.Cited.{days_to, seconds_to, IsMoment}
use Rattle.fork_commands.proofs.Counting.{IsDayIn, is_day_in}

-- The dates of the calendar.

-- 400 years from 1904 on
era : days_of days_in_year 400 1904 ≡ 146097
unfolding days_of
era = refl

-- 400 years later the leap years are the same
leap-again : (y e : ℕ) → is_leap (400 * e + y) ≡ is_leap y
leap-again y e =
    let four : (400 * e + y) % 4 ≡ y % 4 = omega arith in
    let century : (400 * e + y) % 100 ≡ y % 100 = omega arith in
    let cycle : (400 * e + y) % 400 ≡ y % 400 = omega arith in
    rw four (rw century (rw cycle refl))

-- the twelve months of a year
months : (y : ℕ) → days_of (days_in_month y) 12 1 ≡ days_in_year y
unfolding days_of
months y = by-test (is_leap y)
  where
    by-test : (t : Bool) → 31 + ((if t then 29 else 28) + 306) ≡ (if t then 366 else 365)
    by-test true = refl
    by-test false = refl

-- The year of a day, by the days before it.
record IsYear (day : ℕ) (found : DayIn) : Type 0 where
  begun : 1904 ≤ found.period
  cycles : (found.period - 1904) / 400 ≡ day / 146097
  sum : 146097 * (day / 146097) + days_of days_in_year ((found.period - 1904) % 400) 1904 + found.day ≡ day
  inside : found.day < days_in_year found.period

-- a year of the first 400 years, some cycles later
in-cycle : (day e : ℕ) (y : DayIn) → e ≡ day / 146097 → IsDayIn days_in_year 400 1904 (day % 146097) y
    → day % 146097 < days_of days_in_year 400 1904
    → IsYear day (record { period = 400 * e + y.period; day = y.day })
in-cycle day e y is found part =
    let from = found.from in
    let among = found.among part in
    let sum = found.sum in
    let inside = found.inside part in
    let place : (400 * e + y.period - 1904) % 400 ≡ y.period - 1904 = omega (arith, from, among) in
    let same : days_in_year (400 * e + y.period) ≡ days_in_year y.period =
    ap (λ t. if t then 366 else 365) (leap-again y.period e) in
    record {
      begun = omega (arith, from);
      cycles = let cycle : (400 * e + y.period - 1904) / 400 ≡ e = omega (arith, from, among) in cycle ∙ is;
      sum = ap (λ n. 146097 * (day / 146097) + days_of days_in_year n 1904 + y.day) place ∙ omega (arith, sum);
      inside = omega (arith, inside, same);
    }

year-of : (day : ℕ) → IsYear day (year_of day)
year-of day =
    in-cycle day (day / 146097) (day_in days_in_year 400 1904 (day % 146097)) refl
    (is_day_in days_in_year 400 1904 (day % 146097)) (omega (arith, era))

-- the days to a date
days-to : (day second : ℕ) (y m : DayIn) → IsYear day y → IsDayIn (days_in_month y.period) 12 1 y.day m
    → days_to (moment_at y m second) ≡ day
days-to day second y m year month =
    let cycles = year.cycles in
    let before = year.sum in
    let rest = month.sum in
    omega (arith, cycles, before, rest)

-- the seconds to a date and a time
clock : (s d : ℕ) → d ≡ s / 86400
    → 86400 * d + 3600 * (s % 86400 / 3600) + 60 * (s % 86400 / 60 % 60) + s % 86400 % 60 ≡ s
clock s d e = omega (arith, e)

pub numbered : (seconds : ℕ) → seconds_to (moment seconds) ≡ seconds
numbered seconds =
    let y = year_of (seconds / 86400) in
    let month = is_day_in (days_in_month y.period) 12 1 y.day in
    clock seconds (days_to (moment_at y (month_of y) (seconds % 86400)))
    (days-to (seconds / 86400) (seconds % 86400) y (month_of y) (year-of (seconds / 86400)) month)

-- a date of the calendar
of-calendar : (day second : ℕ) (y m : DayIn) → second < 86400 → IsYear day y
    → IsDayIn (days_in_month y.period) 12 1 y.day m → IsMoment (moment_at y m second)
of-calendar day second y m late year month =
    let inside = year.inside in
    let whole = months y.period in
    let part : y.day < days_of (days_in_month y.period) 12 1 = omega (arith, inside, whole) in
    let last = month.inside part in
    let among = month.among part in
    record {
      begun = year.begun;
      first_month = month.from;
      last_month = omega (arith, among);
      first_day = omega arith;
      last_day = omega (arith, last);
      hours = omega (arith, late);
      minutes = omega arith;
      seconds = omega arith;
    }

pub is_moment : (seconds : ℕ) → IsMoment (moment seconds)
is_moment seconds =
    let y = year_of (seconds / 86400) in
    of-calendar (seconds / 86400) (seconds % 86400) y (month_of y) (omega arith) (year-of (seconds / 86400))
    (is_day_in (days_in_month y.period) 12 1 y.day)
