use Rattle.desk.proofs.Cited.{◌≡◌, drop, longest, longest_or, seen}
use Rattle.desk.proofs.turns.longest_script.Given as goal

-- the longest so far, or one of those that are left, is the longest
abbrev pub invariant-loop-seat : goal.invariant-loop-seat
invariant-loop-seat g l = longest_or l.most (seen (drop l.seat-index l.seats)) ≡ longest (seen l.seats)
