use Rattle.fork_commands.proofs.Cited.{◌≡◌, ◌+◌, ◌-◌, ◌≤◌, days_in_month, day_in}
use Rattle.fork_commands.proofs.dates.month_at.Given as goal

-- the month among those that are left is that among all
abbrev pub invariant-loop : goal.invariant-loop
invariant-loop l = record {
  place : l.month ≡ 1 + l.counter;
  rest : day_in (days_in_month l.date.period) (12 - l.counter) l.month l.left
      ≡ day_in (days_in_month l.date.period) 12 1 l.date.day;
  less : l.left ≤ l.date.day;
}
