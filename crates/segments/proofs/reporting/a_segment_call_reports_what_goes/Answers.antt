use Rattle.segments.proofs.ToldGone.{served-tells, told-loose, told-once}
use Rattle.segments.proofs.reporting.a_segment_call_reports_what_goes.Goals as goal

pub returns-clause-goes : goal.returns-clause-goes
returns-clause-goes c call p once small = served-tells p (λ h within. once h) small call

pub returns-clause-purgeable : goal.returns-clause-purgeable
returns-clause-purgeable c call p once small = told-loose p (λ h within. once h) small call

pub returns-clause-once : goal.returns-clause-once
returns-clause-once c call p once small = told-once p (λ h within. once h) small call
