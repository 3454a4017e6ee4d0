use Rattle.fork_rules.proofs.Cited.{ap, Err}
use Rattle.fork_rules.proofs.Reading.{spelled}
use Rattle.fork_rules.proofs.texts.content_of_whole.Goals as goal

pub unreachable-requires-in-Err-BadMap : goal.unreachable-requires-in-Err-BadMap
unreachable-requires-in-Err-BadMap c = spelled c.args.bytes.now c.requires
    (c.in-Err-BadMap.ensures.bad_map.0 (ap Err c.in-Err-BadMap.field-0-is)).1
