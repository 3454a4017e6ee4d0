use Rattle.fork_commands.proofs.Cited.{arith, rules, days_in_year}
use Rattle.fork_commands.proofs.Counting.{here, later}
use Rattle.fork_commands.proofs.dates.year_among.Goals as goal

pub returns-then-left-len-clause-year : goal.returns-then-left-len-clause-year
returns-then-left-len-clause-year c =
    here days_in_year c.loop.counter 400 c.loop.year c.loop.left _ c.loop-test.true (search rules) c.loop.invariant.rest

pub loop-preserved : goal.loop-preserved
loop-preserved c = record {
  place = let p = c.loop.invariant.place in omega (arith, p);
  rest = later days_in_year c.loop.counter 400 c.loop.year c.loop.left _ _ c.loop-test.true (search rules)
      (search rules) c.loop.invariant.rest;
  less = let l = c.loop.invariant.less in omega (arith, l);
}
