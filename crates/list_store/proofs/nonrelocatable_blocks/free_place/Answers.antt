use Rattle.list_store.proofs.Cited.{◌∙◌, ap, arith, sizes, is_nonrelocatable, blocks_of, size-freed}
use Rattle.list_store.proofs.nonrelocatable_blocks.free_place.Goals as goal

pub tidy_entries-requires : goal.tidy_entries-requires
tidy_entries-requires c = omega (
  arith,
  ap sizes c.free_nonrelocatable.ensures ∙ size-freed (is_nonrelocatable c.args.place) (blocks_of c.args.entries.now.items),
)
