use Rattle.real_zone.proofs.Cited.{◌≡◌, ◌-◌, ◌≤◌, ◌++◌, length, true, list_all, flat_map, is_passable, places_from, block_marks, zone_marks}
use Rattle.real_zone.proofs.masters.marks_of.Given as goal

-- the marks so far, with those of the blocks that are left, are all
abbrev pub invariant-loop-at : goal.invariant-loop-at
invariant-loop-at l = record {
  inside : l.at ≤ length l.bytes;
  tiled : list_all (is_passable l.form l.bytes) (places_from l.form l.bytes l.at) ≡ true;
  marked : l.marks.items ++ flat_map (block_marks l.form l.bytes) (places_from l.form l.bytes l.at)
      ≡ zone_marks l.form l.bytes;
}

abbrev pub decreases-loop-at : goal.decreases-loop-at
decreases-loop-at l = length l.bytes - l.at
