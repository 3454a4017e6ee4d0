use Rattle.heap_calls.proofs.ToldGone.Laws.{tells-what-goes, tells-of-purgeable, step-tells-what-goes}
use Rattle.heap_calls.proofs.laws.a_sink_is_told_of_what_goes.Goals as goal

pub returns-clause-goes : goal.returns-clause-goes
returns-clause-goes c asked m once small = tells-what-goes asked m (λ k within. once k) small

pub returns-clause-purgeable : goal.returns-clause-purgeable
returns-clause-purgeable c = tells-of-purgeable

pub returns-clause-steps : goal.returns-clause-steps
returns-clause-steps c step m once small = step-tells-what-goes step m (λ k within. once k) small
