use Rattle.std.specs.Prelude.{◌≤◌, ◌<◌, ℕ, zero, suc, ◌+◌, ◌*◌, ◌-◌, ◌/◌, ◌%◌, Bool, ◌&&◌, ◌||◌, not, ◌==◌, nat_lt, List, [], ◌∷◌}
use Rattle.std.specs.Prelude.{◌++◌, if◌then◌else◌, codes, decimal}
use Rattle.fork_commands.specs.declared.dates.Moment.{Moment}
use Rattle.fork_commands.specs.declared.dates.DayIn.{DayIn}

-- Dates of the Gregorian calendar. The Macintosh counts the seconds from the midnight that begins 1 January 1904.
-- Inside Macintosh: Operating System Utilities, chapter 4, "Date, Time, and Measurement Utilities".

-- The year is a leap year: each fourth one is, but of those that begin a century only each fourth.
abbrev pub is_leap : ℕ → Bool
is_leap year = year % 4 == 0 && (not (year % 100 == 0) || year % 400 == 0)

-- The days of a year.
abbrev pub days_in_year : ℕ → ℕ
days_in_year year = if is_leap year then 366 else 365

-- The days of a month, of which January is 1.
abbrev pub days_in_month : ℕ → ℕ → ℕ
days_in_month year month =
    if month == 2 then (if is_leap year then 29 else 28)
    else if month == 4 || month == 6 || month == 9 || month == 11 then 30
    else 31

-- Among n periods from one on, of the lengths in days that are given: the one in which a day lies, and which day of it that
-- is. Days are counted from 0 at the first day of those periods.
unfoldable pub day_in : (ℕ → ℕ) → ℕ → ℕ → ℕ → DayIn
day_in days zero period day = record { period = period; day = day }
day_in days (suc n) period day =
    if nat_lt day (days period) then record { period = period; day = day }
    else day_in days n (period + 1) (day - days period)

-- The year of a day, counted from 0 at 1 January 1904, and which day of that year it is. 400 years have 146,097 days.
abbrev pub year_of : ℕ → DayIn
year_of day = record {
  period = 400 * (day / 146097) + (day_in days_in_year 400 1904 (day % 146097)).period;
  day = (day_in days_in_year 400 1904 (day % 146097)).day;
}

-- The month of a day of a year, and which day of that month it is.
abbrev pub month_of : DayIn → DayIn
month_of d = day_in (days_in_month d.period) 12 1 d.day

-- The date and the time of a number of seconds, by the day and the second of the day.
abbrev pub moment_at : DayIn → DayIn → ℕ → Moment
moment_at y m second = record {
  year = y.period;
  month = m.period;
  day = m.day + 1;
  hour = second / 3600;
  minute = second / 60 % 60;
  second = second % 60;
}

-- The date and the time that a number of seconds stands for.
abbrev pub moment : ℕ → Moment
moment seconds = moment_at (year_of (seconds / 86400)) (month_of (year_of (seconds / 86400))) (seconds % 86400)

-- The days of n periods from one on.
unfoldable pub days_of : (ℕ → ℕ) → ℕ → ℕ → ℕ
days_of days zero period = 0
days_of days (suc n) period = days period + days_of days n (period + 1)

-- The days from 1 January 1904 to a date.
abbrev pub days_to : Moment → ℕ
days_to m =
    146097 * ((m.year - 1904) / 400) + days_of days_in_year ((m.year - 1904) % 400) 1904
    + days_of (days_in_month m.year) (m.month - 1) 1 + (m.day - 1)

-- The seconds from the midnight that begins 1904 to a date and a time.
abbrev pub seconds_to : Moment → ℕ
seconds_to m = 86400 * days_to m + 3600 * m.hour + 60 * m.minute + m.second

-- The moment is one of the calendar and of the clock.
pub record IsMoment (m : Moment) : Type 0 where
  pub begun : 1904 ≤ m.year
  pub first_month : 1 ≤ m.month
  pub last_month : m.month ≤ 12
  pub first_day : 1 ≤ m.day
  pub last_day : m.day ≤ days_in_month m.year m.month
  pub hours : m.hour < 24
  pub minutes : m.minute < 60
  pub seconds : m.second < 60

-- The last two digits of a number.
abbrev pub two_digits : ℕ → List ℕ
two_digits n = (48 + n / 10 % 10) ∷ (48 + n % 10) ∷ []

-- A date by its year, month and day, and a time by its hour, minute and second. ISO 8601.
abbrev pub date_text : Moment → List ℕ
date_text m = decimal m.year ++ codes "-" ++ two_digits m.month ++ codes "-" ++ two_digits m.day

abbrev pub time_text : Moment → List ℕ
time_text m = two_digits m.hour ++ codes ":" ++ two_digits m.minute ++ codes ":" ++ two_digits m.second

abbrev pub moment_text : Moment → List ℕ
moment_text m = date_text m ++ codes "T" ++ time_text m
