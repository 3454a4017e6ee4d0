use Rattle.lint.proofs.Stepping.{said_so, left_so}
use Rattle.lint.proofs.script.judge.Goals as goal

pub returns-in-Err-clause-read : goal.returns-in-Err-clause-read
returns-in-Err-clause-read c =
    said_so c.in-Err.kind c.refused.result _ c.refused.ensures c.in-Err.ensures.read

pub returns-in-Err-clause-unchanged : goal.returns-in-Err-clause-unchanged
returns-in-Err-clause-unchanged c =
    left_so (Unit {0}) (Unit {0}) _ c.in-Err.kind c.refused.result c.refused.ensures c.in-Err.ensures.unchanged
