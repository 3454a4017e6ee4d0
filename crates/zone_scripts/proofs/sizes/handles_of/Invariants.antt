use Rattle.zone_scripts.proofs.Cited.{◌≡◌, ◌+◌, ◌≤◌, drop, parts_of, handles}
use Rattle.zone_scripts.proofs.sizes.handles_of.Given as goal

-- those that were counted, and those to come, are all
abbrev pub invariant-loop-block : goal.invariant-loop-block
invariant-loop-block l = record {
  rest : l.handles + handles (parts_of (drop l.block-index l.blocks)) ≡ handles (parts_of l.blocks);
  few : l.handles ≤ l.block-index;
}
