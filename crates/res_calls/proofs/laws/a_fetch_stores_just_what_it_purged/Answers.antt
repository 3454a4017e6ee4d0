use Rattle.res_calls.proofs.StoringFetched.{fetch-stores-just, own-stores-just}
use Rattle.res_calls.proofs.laws.a_fetch_stores_just_what_it_purged.Goals as goal

pub returns-clause-fetched : goal.returns-clause-fetched
returns-clause-fetched c = fetch-stores-just

pub returns-clause-own : goal.returns-clause-own
returns-clause-own c = own-stores-just
