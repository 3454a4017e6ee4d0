use Rattle.zone_bytes.proofs.Cited.{arith}
use Rattle.zone_bytes.proofs.Places.Stepped.{stepped-read, may-read, steps}
use Rattle.zone_bytes.proofs.raw_walk.step_at.Goals as goal

pub read_header-header-requires : goal.read_header-header-requires
read_header-header-requires c = may-read _ _ c.requires.way c.requires.some

pub overflow_add-result : goal.overflow_add-result
overflow_add-result c =
    let s = stepped-read _ _ c.requires.way c.requires.some _ c.read_header-header.ensures in
    omega arith

pub returns : goal.returns
returns c = steps _ _ c.requires.way c.requires.some _ c.read_header-header.ensures _ c.seen_of.ensures
