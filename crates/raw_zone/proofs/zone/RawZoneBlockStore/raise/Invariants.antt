use Rattle.raw_zone.proofs.Cited.{lay_at}
use Rattle.raw_zone.proofs.zone.RawZoneBlockStore.raise.Given as goal

abbrev pub ghost-raise_run : goal.ghost-raise_run
ghost-raise_run a = lay_at a.part.now.bytes a.place
