use Rattle.raw_zone.proofs.Cited.{lay_at}
use Rattle.raw_zone.proofs.zone.RawZone.pack.Given as goal

abbrev pub ghost-settle_run : goal.ghost-settle_run
ghost-settle_run a = lay_at a.part.now.bytes a.place
