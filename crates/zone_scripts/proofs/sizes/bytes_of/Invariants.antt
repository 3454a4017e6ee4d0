use Rattle.zone_scripts.proofs.Cited.{◌≡◌, ◌+◌, ◌*◌, ◌≤◌, drop, parts_of, bytes_of}
use Rattle.zone_scripts.proofs.sizes.bytes_of.Given as goal

-- the sizes of those that were passed, and of those to come, are those of all
abbrev pub invariant-loop-block : goal.invariant-loop-block
invariant-loop-block l = record {
  rest : l.bytes + bytes_of (parts_of (drop l.block-index l.blocks)) ≡ bytes_of (parts_of l.blocks);
  few : l.bytes ≤ 8589934592 * l.block-index;
}
