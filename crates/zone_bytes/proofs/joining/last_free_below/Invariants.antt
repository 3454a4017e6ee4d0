use Rattle.zone_bytes.proofs.Cited.{◌-◌}
use Rattle.zone_bytes.proofs.Joined.Below.{Below}
use Rattle.zone_bytes.proofs.joining.last_free_below.Given as goal

abbrev pub invariant-loop-at : goal.invariant-loop-at
invariant-loop-at l = Below l.part.bytes l.place l.at l.start

abbrev pub decreases-loop-at : goal.decreases-loop-at
decreases-loop-at l = l.place - l.at
