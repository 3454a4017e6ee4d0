use Rattle.real_zone.proofs.Cited.{◌≡◌, ◌+◌, ◌-◌, ◌≤◌, length, places_from, block_places}
use Rattle.real_zone.proofs.judging.reached_in.Given as goal

-- those that were counted, and those that are left, are all
abbrev pub invariant-loop-at : goal.invariant-loop-at
invariant-loop-at l = record {
  inside : l.at ≤ length l.bytes;
  small : l.count ≤ l.at;
  rest : l.count + length (places_from l.form l.bytes l.at) ≡ length (block_places l.form l.bytes);
}

abbrev pub decreases-loop-at : goal.decreases-loop-at
decreases-loop-at l = length l.bytes - l.at
