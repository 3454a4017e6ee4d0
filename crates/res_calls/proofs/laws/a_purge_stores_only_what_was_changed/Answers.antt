use Rattle.res_calls.proofs.StoringAll.{stores-all}
use Rattle.res_calls.proofs.StoringChanged.{stores-changed, off-stores}
use Rattle.res_calls.proofs.laws.a_purge_stores_only_what_was_changed.Goals as goal

pub returns-clause-on : goal.returns-clause-on
returns-clause-on c = stores-changed

pub returns-clause-off : goal.returns-clause-off
returns-clause-off c = off-stores

pub returns-clause-just : goal.returns-clause-just
returns-clause-just c gone s owns = stores-all gone s.resources (λ h. owns.apart h)
