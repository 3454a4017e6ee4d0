use Rattle.list_store.proofs.Cited.{length, ap, on_err_weaker, blocks_of, slots_of, lawful-resized}
use Rattle.list_store.proofs.store.ListStoreBlockStore.resize.Goals as goal

pub invariant_of-self : goal.invariant_of-self
invariant_of-self c =
    let self = c.args.self.now in
    let lawful = lawful-resized c.resize_at.result (slots_of self.slots.items) self.bytes (length self.slots.items)
    (blocks_of self.blocks.items) (blocks_of c.resize_at.new.entries.items) c.args.place c.args.bytes (record {
      covered = self.covered;
      masters = self.masters;
      no_block = self.no_block;
      once = self.once;
      tidied = self.tidied;
      aligned = self.aligned;
      placed = self.placed;
    }) c.requires c.resize_at.ensures.cut
    c.resize_at.ensures.grown (on_err_weaker c.resize_at.result (ap blocks_of) c.resize_at.ensures.err) in
    record {
      covered = lawful.covered;
      small = self.small;
      masters = lawful.masters;
      no_block = lawful.no_block;
      once = lawful.once;
      tidied = lawful.tidied;
      aligned = lawful.aligned;
      placed = lawful.placed;
    }
