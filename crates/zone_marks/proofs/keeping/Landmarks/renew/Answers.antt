use Rattle.zone_marks.proofs.Cited.{zone_in}
use Rattle.zone_marks.proofs.keeping.Landmarks.renew.Goals as goal

pub lay-requires-clause-laid : goal.lay-requires-clause-laid
lay-requires-clause-laid c = c.next_at-next.ensures.laid (zone_in c.args.sound.now.part.bytes) c.requires
