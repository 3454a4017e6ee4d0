use Rattle.real_zone_view.proofs.Cited.{◌≡◌, ◌+◌, ◌≤◌, drop, counted}
use Rattle.real_zone_view.proofs.totals.count.Given as goal

-- those that were counted, and those to come, are all
abbrev pub invariant-loop-block : goal.invariant-loop-block
invariant-loop-block l = record {
  rest : l.count + counted l.class (drop l.block-index l.blocks) ≡ counted l.class l.blocks;
  few : l.count ≤ l.block-index;
}
