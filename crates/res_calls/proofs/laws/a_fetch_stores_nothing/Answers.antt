use Rattle.res_calls.proofs.Recorded.Laws.{served-given, own-given}
use Rattle.res_calls.proofs.Recorded.Loading.{launched-given, open-opens}
use Rattle.res_calls.proofs.laws.a_fetch_stores_nothing.Goals as goal

pub returns-clause-fetched : goal.returns-clause-fetched
returns-clause-fetched c = served-given

pub returns-clause-own : goal.returns-clause-own
returns-clause-own c = own-given

pub returns-clause-launched : goal.returns-clause-launched
returns-clause-launched c = launched-given

pub returns-clause-opened : goal.returns-clause-opened
returns-clause-opened c = open-opens
