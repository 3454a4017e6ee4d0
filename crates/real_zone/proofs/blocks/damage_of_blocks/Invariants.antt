use Rattle.real_zone.proofs.Cited.{◌≡◌, ◌-◌, ◌≤◌, length, damages_of_blocks}
use Rattle.real_zone.proofs.Ruling.{damages_past}
use Rattle.real_zone.proofs.blocks.damage_of_blocks.Given as goal

-- what is wrong with the blocks that are left is what is wrong with all
abbrev pub invariant-loop-at : goal.invariant-loop-at
invariant-loop-at l = record {
  inside : l.at ≤ length l.bytes;
  rest : damages_past l.form l.zone l.bytes l.at ≡ damages_of_blocks l.form l.zone l.bytes;
}

abbrev pub decreases-loop-at : goal.decreases-loop-at
decreases-loop-at l = length l.bytes - l.at
