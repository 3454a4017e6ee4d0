use Rattle.zone_marks.proofs.Cited.{◌-◌, KeepsPlace, Purge, Purging}
use Rattle.zone_marks.proofs.purging.purge_from.Given as goal

abbrev pub invariant-loop-pass : goal.invariant-loop-pass
invariant-loop-pass l = record {
  same : KeepsPlace l.initial.part l.part;
  passing : (p : Purge) → Purging p l.sparing l.start l.at l.purges 0 l.initial.part.bytes
      → Purging p l.sparing l.pass.start l.pass.at l.pass.left l.pass.freed l.part.bytes;
}

abbrev pub decreases-loop-pass : goal.decreases-loop-pass
decreases-loop-pass l = l.end - l.pass.at
