use Rattle.list_store.proofs.Cited.{◌∙◌, ap, arith, sizes, blocks_of, sizes-opened}
use Rattle.list_store.proofs.purging.purge_entries.Goals as goal

pub empty_from-requires-clause-fits : goal.empty_from-requires-clause-fits
empty_from-requires-clause-fits c = omega (
  arith,
  c.requires,
  ap sizes c.open_entries.ensures ∙ sizes-opened c.args.sparing (blocks_of c.args.entries.now.items),
)

pub tidy_entries-requires : goal.tidy_entries-requires
tidy_entries-requires c = omega (
  arith,
  c.requires,
  c.empty_from.ensures.bytes,
  ap sizes c.open_entries.ensures ∙ sizes-opened c.args.sparing (blocks_of c.args.entries.now.items),
)
