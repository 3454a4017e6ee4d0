use Rattle.zone_bytes.proofs.Cited.{◌-◌, KeepsPlace, Pointing}
use Rattle.zone_bytes.proofs.pointing.lead_run.Given as goal

abbrev pub invariant-loop-from : goal.invariant-loop-from
invariant-loop-from g l = Pointing g.lay l.from l.part.bytes × KeepsPlace l.initial.part l.part

abbrev pub decreases-loop-from : goal.decreases-loop-from
decreases-loop-from g l = l.stop - l.from
