use Rattle.fork_commands.proofs.Cited.{ap, Err, spelled}
use Rattle.fork_commands.proofs.states.content_of_whole.Goals as goal

pub unreachable-requires-in-Err-BadMap : goal.unreachable-requires-in-Err-BadMap
unreachable-requires-in-Err-BadMap c = spelled c.args.fork.now c.requires
    (c.in-Err-BadMap.ensures.bad_map.0 (ap Err c.in-Err-BadMap.field-0-is)).1
