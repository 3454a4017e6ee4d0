use Rattle.list_store.proofs.Cited.{length, blocks_of, slots_of, lawful-hoisted}
use Rattle.list_store.proofs.store.ListStoreBlockStore.hoist.Goals as goal

pub invariant_of-self : goal.invariant_of-self
invariant_of-self c =
    let self = c.args.self.now in
    let lawful = lawful-hoisted (slots_of self.slots.items) self.bytes (length self.slots.items)
    (blocks_of self.blocks.items) (blocks_of c.hoist_slot.new.entries.items) c.args.run c.args.number (record {
      covered = self.covered;
      masters = self.masters;
      no_block = self.no_block;
      once = self.once;
      tidied = self.tidied;
      aligned = self.aligned;
      placed = self.placed;
    }) c.requires c.hoist_slot.ensures in
    record {
      covered = lawful.covered;
      small = self.small;
      masters = lawful.masters;
      no_block = lawful.no_block;
      once = lawful.once;
      tidied = lawful.tidied;
      aligned = lawful.aligned;
      placed = lawful.placed;
    }
