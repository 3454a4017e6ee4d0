use Rattle.list_store.proofs.Cited.{length, ap, on_err_weaker, blocks_of, slots_of, lawful-nonrelocatable}
use Rattle.list_store.proofs.store.ListStoreBlockStore.carve_nonrelocatable.Goals as goal

pub invariant_of-self : goal.invariant_of-self
invariant_of-self c =
    let self = c.args.self.now in
    let lawful = lawful-nonrelocatable c.fill.result (slots_of self.slots.items) self.bytes (length self.slots.items)
    (blocks_of self.blocks.items) (blocks_of c.fill.new.entries.items) c.args.place c.args.size
    c.in_ok-content.content.items (record {
      covered = self.covered;
      masters = self.masters;
      no_block = self.no_block;
      once = self.once;
      tidied = self.tidied;
      aligned = self.aligned;
      placed = self.placed;
    }) c.in_ok-content.ensures c.requires
    c.fill.ensures.ok (on_err_weaker c.fill.result (ap blocks_of) c.fill.ensures.err) in
    record {
      covered = lawful.covered;
      small = self.small;
      masters = lawful.masters;
      no_block = lawful.no_block;
      once = lawful.once;
      tidied = lawful.tidied;
      aligned = lawful.aligned;
      placed = lawful.placed;
    }
