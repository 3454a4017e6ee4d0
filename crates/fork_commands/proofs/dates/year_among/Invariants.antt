use Rattle.fork_commands.proofs.Cited.{◌≡◌, ◌+◌, ◌-◌, ◌≤◌, days_in_year, day_in}
use Rattle.fork_commands.proofs.dates.year_among.Given as goal

-- the year among those that are left is that among all
abbrev pub invariant-loop : goal.invariant-loop
invariant-loop l = record {
  place : l.year ≡ 1904 + l.counter;
  rest : day_in days_in_year (400 - l.counter) l.year l.left ≡ day_in days_in_year 400 1904 l.day;
  less : l.left ≤ l.day;
}
