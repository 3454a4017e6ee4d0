use Rattle.fork_commands.proofs.Cited.{arith, rules, days_in_month}
use Rattle.fork_commands.proofs.Counting.{here, later}
use Rattle.fork_commands.proofs.dates.month_at.Goals as goal

pub returns-then-left-len-clause-month : goal.returns-then-left-len-clause-month
returns-then-left-len-clause-month c =
    here (days_in_month c.args.date.period) c.loop.counter 12 c.loop.month c.loop.left _ c.loop-test.true (search rules)
    c.loop.invariant.rest

pub loop-preserved : goal.loop-preserved
loop-preserved c = record {
  place = let p = c.loop.invariant.place in omega (arith, p);
  rest = later (days_in_month c.args.date.period) c.loop.counter 12 c.loop.month c.loop.left _ _ c.loop-test.true (search rules)
      (search rules) c.loop.invariant.rest;
  less = let l = c.loop.invariant.less in omega (arith, l);
}
