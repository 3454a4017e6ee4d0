use Rattle.zone_bytes.proofs.Cited.{arith}
use Rattle.zone_bytes.proofs.Places.Stepped.{may-read, next-header}
use Rattle.zone_bytes.proofs.flagging.flag_at.Goals as goal

pub read_header-header-requires : goal.read_header-header-requires
read_header-header-requires c = may-read _ _ c.requires.way c.requires.some

pub write_word-requires : goal.write_word-requires
write_word-requires c = let n = next-header _ _ c.requires.way c.requires.some in
    (omega arith, omega arith)
