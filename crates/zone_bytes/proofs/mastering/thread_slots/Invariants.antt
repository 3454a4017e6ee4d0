use Rattle.zone_bytes.proofs.Cited.{◌≡◌, Threading}
use Rattle.zone_bytes.proofs.mastering.thread_slots.Given as goal

abbrev pub invariant-loop-slot : goal.invariant-loop-slot
invariant-loop-slot l = Threading l.place l.first l.slot l.fn.part.bytes l.part.bytes ×
    (l.part.home ≡ l.fn.part.home) × (l.part.at ≡ l.fn.part.at)

abbrev pub decreases-loop-slot : goal.decreases-loop-slot
decreases-loop-slot l = l.slot
