use Rattle.lint.proofs.Cited.{with_line}
use Rattle.lint.proofs.Stepping.{said_on}
use Rattle.lint.proofs.job.judge.Goals as goal

pub returns-in-Err-clause-read : goal.returns-in-Err-clause-read
unfolding with_line
returns-in-Err-clause-read c =
    said_on c.in-Err.kind c.refused.result _ _ c.refused.ensures c.in-Err.ensures
