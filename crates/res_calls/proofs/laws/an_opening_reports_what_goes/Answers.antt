use Rattle.res_calls.proofs.ToldGone.Calls.{opened-goes, opened-loses, opened-purgeable, opened-once}
use Rattle.res_calls.proofs.ToldGone.Loose.{opened-loose}
use Rattle.res_calls.proofs.laws.an_opening_reports_what_goes.Goals as goal

pub returns-clause-goes : goal.returns-clause-goes
returns-clause-goes c = opened-goes

pub returns-clause-preloads : goal.returns-clause-preloads
returns-clause-preloads c = opened-loses

pub returns-clause-purgeable : goal.returns-clause-purgeable
returns-clause-purgeable c name s h whole some within = opened-purgeable name s whole h some within

pub returns-clause-once : goal.returns-clause-once
returns-clause-once c = opened-once

pub returns-clause-loose : goal.returns-clause-loose
returns-clause-loose c = opened-loose
