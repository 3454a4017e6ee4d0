use Rattle.real_zone.proofs.Cited.{◌≡◌, ◌+◌, ◌-◌, ◌≤◌, length, true, sum_by, list_all, is_passable, places_from, free_size, free_bytes}
use Rattle.real_zone.proofs.blocks.free_bytes_of.Given as goal

-- the blocks that are left tile the rest, and with what is counted their sum is that of all
abbrev pub invariant-loop-at : goal.invariant-loop-at
invariant-loop-at l = record {
  inside : l.at ≤ length l.bytes;
  small : l.sum ≤ l.at;
  tiled : list_all (is_passable l.form l.bytes) (places_from l.form l.bytes l.at) ≡ true;
  rest : l.sum + sum_by (free_size l.form l.bytes) (places_from l.form l.bytes l.at) ≡ free_bytes l.form l.bytes;
}

abbrev pub decreases-loop-at : goal.decreases-loop-at
decreases-loop-at l = length l.bytes - l.at
