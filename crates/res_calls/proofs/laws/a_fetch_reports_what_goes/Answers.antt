use Rattle.res_calls.proofs.ToldGone.Calls.{fetched-goes, fetched-purgeable, fetched-once, own-tells, own-loose, own-once}
use Rattle.res_calls.proofs.laws.a_fetch_reports_what_goes.Goals as goal

pub returns-clause-goes : goal.returns-clause-goes
returns-clause-goes c asked s is once small = fetched-goes asked s is (λ h within. once h) small

pub returns-clause-purgeable : goal.returns-clause-purgeable
returns-clause-purgeable c asked s is once small = fetched-purgeable asked s is (λ h within. once h) small

pub returns-clause-once : goal.returns-clause-once
returns-clause-once c asked s is once small = fetched-once asked s is (λ h within. once h) small

pub returns-clause-own_goes : goal.returns-clause-own_goes
returns-clause-own_goes c kind id s once small = own-tells kind id s (λ h within. once h) small

pub returns-clause-own_purgeable : goal.returns-clause-own_purgeable
returns-clause-own_purgeable c kind id s once small = own-loose kind id s (λ h within. once h) small

pub returns-clause-own_once : goal.returns-clause-own_once
returns-clause-own_once c kind id s once small = own-once kind id s (λ h within. once h) small
