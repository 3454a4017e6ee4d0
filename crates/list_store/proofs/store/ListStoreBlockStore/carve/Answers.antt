use Rattle.list_store.proofs.Cited.{length, ap, rules, on_err_weaker, blocks_of, slots_of, Lawful, lawful-carved}
use Rattle.list_store.proofs.store.ListStoreBlockStore.carve.Goals as goal
use Rattle.list_store.proofs.store.ListStoreBlockStore.carve.Goals.{After-fill}

-- the zone afterwards, with the block or as it was
after : (c : After-fill) → let self = c.args.self.now in
    Lawful (slots_of self.slots.items) self.bytes (length self.slots.items) (blocks_of c.fill.new.entries.items)
after c =
    let self = c.args.self.now in
    lawful-carved c.fill.result (slots_of self.slots.items) self.bytes (length self.slots.items)
    (blocks_of self.blocks.items) (blocks_of c.fill.new.entries.items) c.args.place c.args.number c.args.size
    c.in_ok-content.content.items (record {
      covered = self.covered;
      masters = self.masters;
      no_block = self.no_block;
      once = self.once;
      tidied = self.tidied;
      aligned = self.aligned;
      placed = self.placed;
    }) c.in_ok-content.ensures c.requires.used c.requires.no_block c.requires.room c.fill.ensures.ok
    (on_err_weaker c.fill.result (ap blocks_of) c.fill.ensures.err)

pub invariant_of-self : goal.invariant_of-self
invariant_of-self c = let l = after (goal.at.invariant_of-self c).After-fill in search rules

pub invariant_of-self-2 : goal.invariant_of-self-2
invariant_of-self-2 c = let l = after (goal.at.invariant_of-self-2 c).After-fill in search rules
