use Rattle.zone_bytes.proofs.Cited.{hoisted_run}
use Rattle.zone_bytes.proofs.hoisting.hoist_block.Given as goal

abbrev pub ghost-lead_run : goal.ghost-lead_run
ghost-lead_run g a = record {
  resource = g.hoist.resource;
  below = g.hoist.below;
  run = hoisted_run g.hoist;
  above = g.hoist.above;
  bytes = a.part.now.bytes;
}
