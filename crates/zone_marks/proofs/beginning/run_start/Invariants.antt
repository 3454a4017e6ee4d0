use Rattle.zone_marks.proofs.Cited.{◌≡◌, ◌-◌, List, Block, Begins, left_in, IsPiece, begun_in}
use Rattle.zone_marks.proofs.beginning.run_start.Given as goal

abbrev pub invariant-loop-place : goal.invariant-loop-place
invariant-loop-place l = record {
  done : (done : List Block) × IsPiece l.from l.place l.sound.part.bytes done × l.start ≡ begun_in l.from l.from done;
  to : Begins l.to l.place (left_in l.place l.sound.part.bytes);
}

abbrev pub decreases-loop-place : goal.decreases-loop-place
decreases-loop-place l = l.to - l.place
