use Rattle.list_store.proofs.Cited.{◌∙◌, sym, arith, is_nonrelocatable}
use Rattle.list_store.proofs.Zone.Listing.{entry_fits, freed_first-set, freed_first-same}
use Rattle.list_store.proofs.nonrelocatable_blocks.free_if.Goals as goal

pub entry_size-bytes-requires : goal.entry_size-bytes-requires
entry_size-bytes-requires c = omega (
  arith,
  entry_fits c.args.entries.now.items c.args.i c.index-entry.result.now (omega arith) c.index-entry.ensures,
)

pub returns-then-is_nonrelocatable_at : goal.returns-then-is_nonrelocatable_at
returns-then-is_nonrelocatable_at c = freed_first-set (is_nonrelocatable c.args.place) c.args.entries.now.items c.args.i
    c.entry_size-bytes.result c.index-entry.result.now (omega arith) c.index-entry.ensures
    (sym c.is_nonrelocatable_at.ensures ∙ c.if-is_nonrelocatable_at.true) c.entry_size-bytes.ensures

pub returns-else-is_nonrelocatable_at : goal.returns-else-is_nonrelocatable_at
returns-else-is_nonrelocatable_at c = freed_first-same (is_nonrelocatable c.args.place) c.args.entries.now.items c.args.i
    c.index-entry.result.now (omega arith) c.index-entry.ensures (sym c.is_nonrelocatable_at.ensures ∙ c.if-is_nonrelocatable_at.false)
