use Rattle.real_zone.proofs.Walking.{passes}
use Rattle.real_zone.proofs.blocks.after.Goals as goal

pub physical_size-requires : goal.physical_size-requires
physical_size-requires c = (passes c.args.form c.args.bytes.now c.args.at c.requires).room
