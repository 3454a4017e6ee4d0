use Rattle.real_zone_view.proofs.Cited.{◌≡◌, ◌++◌, ◌*◌, ◌≤◌, [], drop, get, nat_cmp, bins_after, sized}
use Rattle.real_zone_view.specs.declared.totals.Class.TheVariants as class
use Rattle.real_zone_view.proofs.picture.push_bins.Given as goal

-- what is written, before the bins that are still to be written; and the bytes of the bin that is begun
abbrev pub invariant-loop-block : goal.invariant-loop-block
invariant-loop-block l = record {
  rest : l.text.items ++ bins_after l.zone (get nat_cmp l.resources) l.least l.bin.items (drop l.block-index l.blocks)
      ≡ l.fn.text.items ++ bins_after l.zone (get nat_cmp l.resources) l.least [] l.blocks;
  size : l.size ≡ sized class.All l.bin.items;
  few : l.size ≤ 4294967296 * l.block-index;
}
