use Rattle.fork_wrappers.proofs.Cited.{arith, rules}
use Rattle.fork_wrappers.proofs.Firsts.{found_here, passed_by}
use Rattle.fork_wrappers.proofs.file_info.entry_with.Goals as goal

pub returns-then-word-id-clause-entry : goal.returns-then-word-id-clause-entry
returns-then-word-id-clause-entry c =
    found_here c.args.id c.args.bytes.now c.loop.at c.args.count c.loop.counter _ c.loop-test.true (search rules)
    c.loop.invariant.rest

pub loop-preserved : goal.loop-preserved
loop-preserved c = record {
  place = let p = c.loop.invariant.place in omega (arith, p);
  rest = passed_by c.args.id c.args.bytes.now c.loop.at c.args.count c.loop.counter _ c.loop-test.true (search rules)
      c.loop.invariant.rest;
}
