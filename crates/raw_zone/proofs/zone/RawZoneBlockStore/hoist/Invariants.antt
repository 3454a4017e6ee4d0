use Rattle.raw_zone.proofs.Cited.{hoist_at}
use Rattle.raw_zone.proofs.zone.RawZoneBlockStore.hoist.Given as goal

abbrev pub ghost-hoist_block : goal.ghost-hoist_block
ghost-hoist_block a = hoist_at a.part.now.bytes a.place
