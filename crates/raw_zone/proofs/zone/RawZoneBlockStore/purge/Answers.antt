use Rattle.raw_zone.proofs.Cited.{rules, ◌≡◌, true, sym, zone_of, zone-tidied}
use Rattle.raw_zone.proofs.zone.RawZoneBlockStore.purge.Goals as goal

pub returns-else-not-is_as_it_stands-clause-zone : goal.returns-else-not-is_as_it_stands-clause-zone
returns-else-not-is_as_it_stands-clause-zone c =
    let stands : c.is_as_it_stands.result ≡ true = search rules in
    sym (c.is_as_it_stands.ensures stands (zone_of c.args.self.now) (zone-tidied c.args.self.now))
