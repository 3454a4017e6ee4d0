use Rattle.partitions.proofs.Cited.{granted-zones}
use Rattle.partitions.proofs.laws.granted_windows_can_hold_zones.Goals as goal

pub returns : goal.returns
returns c = granted-zones
