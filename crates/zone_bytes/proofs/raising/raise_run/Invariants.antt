use Rattle.zone_bytes.proofs.Cited.{cut, gone_to, rest_from}
use Rattle.zone_bytes.proofs.Runs.Raises.{upper}
use Rattle.zone_bytes.proofs.raising.raise_run.Given as goal

abbrev pub ghost-pack_until : goal.ghost-pack_until
ghost-pack_until g a = g.lay

abbrev pub ghost-lift_blocks : goal.ghost-lift_blocks
ghost-lift_blocks g a = cut g.lay (gone_to g.lay a.stop) (rest_from g.lay a.stop)

abbrev pub ghost-settle_above : goal.ghost-settle_above
ghost-settle_above g a = upper g.lay a.gap (gone_to g.lay a.packed.stop) (rest_from g.lay a.packed.stop)
    a.part.now.bytes
