use Rattle.real_zone_view.proofs.Cited.{rules, ◌+◌, drop, slice_index_or, get, nat_cmp, drop_more, Block}
use Rattle.real_zone.specs.declared.block.Kind.TheVariants as kind
use Rattle.real_zone_view.proofs.Binned.{sized_more, bin_ends, bin_grows}
use Rattle.real_zone_view.proofs.picture.push_bins.Goals as goal
use Rattle.real_zone_view.proofs.picture.push_bins.Goals.{then-is_full+in_ok-push_bin, else-is_full}

abbrev none : Block
none = record { address = 0; physical_size = 0; logical_size = 0; kind = kind.Free }

pub loop-block-preserved : goal.loop-block-preserved
loop-block-preserved c =
    let b = slice_index_or c.args.blocks.now c.loop-block.block-index none in
    elim c.if-is_full.branch [
      | then-is_full+in_ok-push_bin w ↦ record {
        rest = rw (w.text-is) (bin_ends c.args.zone (get nat_cmp c.args.resources.now) c.args.least c.loop-block.size c.loop-block.bin.items
            (drop (c.loop-block.block-index + 1) c.args.blocks.now) (drop c.loop-block.block-index c.args.blocks.now) c.push.new.self.items
            b c.loop-block.text.items w.push_bin.new.text.items _ (search rules) c.loop-block.invariant.size (search (rules, drop_more))
            c.loop-block.invariant.rest (search rules) (search rules));
        size = rw (w.size-is) (search (rules, sized_more));
        few = rw (w.size-is) (search rules);
      }
      | else-is_full w ↦ record {
        rest = rw (w.text-is) (bin_grows c.args.zone (get nat_cmp c.args.resources.now) c.args.least
            c.loop-block.size c.loop-block.bin.items (drop (c.loop-block.block-index + 1) c.args.blocks.now)
            (drop c.loop-block.block-index c.args.blocks.now) c.push.new.self.items b c.loop-block.text.items _
            (search rules) c.loop-block.invariant.size (search (rules, drop_more)) c.loop-block.invariant.rest (search rules));
        size = rw (w.size-is) (search (rules, sized_more));
        few = rw (w.size-is) (search rules);
      }
    ]
