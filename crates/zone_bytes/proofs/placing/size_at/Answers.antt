use Rattle.zone_bytes.proofs.Cited.{rules}
use Rattle.zone_bytes.proofs.Tiles.Tags.{tag-small}
use Rattle.zone_bytes.proofs.Places.Stepped.{may-read}
use Rattle.zone_bytes.proofs.Places.HeaderTells.{size-at}
use Rattle.zone_bytes.proofs.placing.size_at.Goals as goal

pub read_header-requires : goal.read_header-requires
read_header-requires c = may-read _ _ c.requires.way c.requires.some

pub returns : goal.returns
returns c = search (rules, size-at, tag-small)
