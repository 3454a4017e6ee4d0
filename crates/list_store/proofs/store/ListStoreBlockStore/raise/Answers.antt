use Rattle.list_store.proofs.Cited.{length, ap, rules, on_err_weaker, blocks_of, slots_of, Lawful, lawful-raised}
use Rattle.list_store.proofs.store.ListStoreBlockStore.raise.Goals as goal
use Rattle.list_store.proofs.store.ListStoreBlockStore.raise.Goals.{After-raise_run}

-- the zone afterwards, raised or as it was
after : (c : After-raise_run) → let self = c.args.self.now in
    Lawful (slots_of self.slots.items) self.bytes (length self.slots.items) (blocks_of c.raise_run.new.entries.items)
after c =
    let self = c.args.self.now in
    lawful-raised c.raise_run.result (slots_of self.slots.items) self.bytes (length self.slots.items)
    (blocks_of self.blocks.items) (blocks_of c.raise_run.new.entries.items) c.args.run c.args.bytes c.requires.even
    (record {
      covered = self.covered;
      masters = self.masters;
      no_block = self.no_block;
      once = self.once;
      tidied = self.tidied;
      aligned = self.aligned;
      placed = self.placed;
    }) c.requires.run c.raise_run.ensures.ok
    (on_err_weaker c.raise_run.result (ap blocks_of) c.raise_run.ensures.err)

pub invariant_of-self : goal.invariant_of-self
invariant_of-self c = let l = after (goal.at.invariant_of-self c).After-raise_run in search rules

pub invariant_of-self-2 : goal.invariant_of-self-2
invariant_of-self-2 c = let l = after (goal.at.invariant_of-self-2 c).After-raise_run in search rules
