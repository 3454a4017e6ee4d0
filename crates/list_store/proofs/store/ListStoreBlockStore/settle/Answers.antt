use Rattle.list_store.proofs.Cited.{length, blocks_of, slots_of, lawful-settled, none-rises, settle-counted}
use Rattle.list_store.proofs.store.ListStoreBlockStore.settle.Goals as goal

pub invariant_of-self : goal.invariant_of-self
invariant_of-self c =
    let self = c.args.self.now in
    let lawful = lawful-settled (slots_of self.slots.items) self.bytes (length self.slots.items)
    (blocks_of self.blocks.items) (blocks_of c.settle_run-falls.new.entries.items) c.args.run (record {
      covered = self.covered;
      masters = self.masters;
      no_block = self.no_block;
      once = self.once;
      tidied = self.tidied;
      aligned = self.aligned;
      placed = self.placed;
    }) c.requires c.settle_run-falls.ensures.zone in
    record {
      covered = lawful.covered;
      small = self.small;
      masters = lawful.masters;
      no_block = lawful.no_block;
      once = lawful.once;
      tidied = lawful.tidied;
      aligned = lawful.aligned;
      placed = lawful.placed;
    }

pub returns-clause-lower : goal.returns-clause-lower
returns-clause-lower c = none-rises (blocks_of c.args.self.now.blocks.items)
    (blocks_of c.settle_run-falls.new.entries.items) c.args.run c.requires c.settle_run-falls.ensures.zone

pub returns-clause-counted : goal.returns-clause-counted
returns-clause-counted c =
    let self = c.args.self.now in
    settle-counted (blocks_of self.blocks.items) (blocks_of c.settle_run-falls.new.entries.items) c.args.run self.once
    self.tidied c.settle_run-falls.ensures.zone
