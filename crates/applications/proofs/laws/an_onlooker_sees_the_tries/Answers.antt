use Rattle.applications.proofs.Seeing.{tries_seen}
use Rattle.applications.proofs.laws.an_onlooker_sees_the_tries.Goals as goal

pub returns : goal.returns
returns c = record { seen = tries_seen }
