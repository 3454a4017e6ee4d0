use Rattle.list_store.proofs.Cited.{◌∙◌, sym, arith, is_relocatable}
use Rattle.list_store.proofs.Zone.Listing.{entry_fits, freed_first-set, freed_first-same}
use Rattle.list_store.proofs.entries.free_if.Goals as goal

pub entry_size-bytes-requires : goal.entry_size-bytes-requires
entry_size-bytes-requires c = omega (
  arith,
  entry_fits c.args.entries.now.items c.args.i c.index-entry.result.now (omega arith) c.index-entry.ensures,
)

pub returns-then-is_of_slot : goal.returns-then-is_of_slot
returns-then-is_of_slot c = freed_first-set (is_relocatable c.args.number) c.args.entries.now.items c.args.i
    c.entry_size-bytes.result c.index-entry.result.now (omega arith) c.index-entry.ensures
    (sym c.is_of_slot.ensures ∙ c.if-is_of_slot.true) c.entry_size-bytes.ensures

pub returns-else-is_of_slot : goal.returns-else-is_of_slot
returns-else-is_of_slot c = freed_first-same (is_relocatable c.args.number) c.args.entries.now.items c.args.i
    c.index-entry.result.now (omega arith) c.index-entry.ensures (sym c.is_of_slot.ensures ∙ c.if-is_of_slot.false)
