use Rattle.real_zone.proofs.Cited.{◌≡◌, ◌-◌, ◌≤◌, ◌++◌, length, list_all, is_passable, places_from, is_tiled, damages_of_blocks}
use Rattle.real_zone.proofs.Ruling.{damages_past}
use Rattle.real_zone.proofs.checking.push_blocks.Given as goal

-- what was found, with what is wrong with the blocks that are left, is all; and all blocks so far were passable
abbrev pub invariant-loop-at : goal.invariant-loop-at
invariant-loop-at l = record {
  inside : l.at ≤ length l.bytes;
  found : l.found.items ++ damages_past l.form l.zone l.bytes l.at
      ≡ l.fn.found.items ++ damages_of_blocks l.form l.zone l.bytes;
  tiled : list_all (is_passable l.form l.bytes) (places_from l.form l.bytes l.at) ≡ is_tiled l.form l.bytes;
}

abbrev pub decreases-loop-at : goal.decreases-loop-at
decreases-loop-at l = length l.bytes - l.at
