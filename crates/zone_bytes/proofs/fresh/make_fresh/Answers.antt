use Rattle.zone_bytes.proofs.Cited.{rules}
use Rattle.zone_bytes.proofs.FreshZones.FreshZone.{fresh-lays}
use Rattle.zone_bytes.proofs.fresh.make_fresh.Goals as goal

pub returns-clause-lays : goal.returns-clause-lays
returns-clause-lays c = search (rules, fresh-lays)
