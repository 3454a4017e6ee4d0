use Rattle.res_calls.proofs.Recorded.Purging.{unpurged}
use Rattle.res_calls.proofs.laws.only_a_fetch_or_an_opening_purges.Goals as goal

pub returns : goal.returns
returns c = unpurged
