use Rattle.real_zone_view.proofs.Cited.{◌≡◌, ◌+◌, ◌*◌, ◌≤◌, drop, sized}
use Rattle.real_zone_view.proofs.totals.bytes.Given as goal

-- the sizes of those that were passed, and of those to come, are those of all
abbrev pub invariant-loop-block : goal.invariant-loop-block
invariant-loop-block l = record {
  rest : l.bytes + sized l.class (drop l.block-index l.blocks) ≡ sized l.class l.blocks;
  few : l.bytes ≤ 4294967296 * l.block-index;
}
