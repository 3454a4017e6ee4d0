use Rattle.list_store.proofs.Cited.{length, ap, rules, on_err_weaker, blocks_of, slots_of, Lawful, lawful-moved}
use Rattle.list_store.proofs.store.ListStoreBlockStore.move_to.Goals as goal
use Rattle.list_store.proofs.store.ListStoreBlockStore.move_to.Goals.{After-move_slot}

-- the zone afterwards, with the block moved or as it was
after : (c : After-move_slot) → let self = c.args.self.now in
    Lawful (slots_of self.slots.items) self.bytes (length self.slots.items) (blocks_of c.move_slot.new.entries.items)
after c =
    let self = c.args.self.now in
    lawful-moved c.move_slot.result (slots_of self.slots.items) self.bytes (length self.slots.items)
    (blocks_of self.blocks.items) (blocks_of c.move_slot.new.entries.items) c.args.place c.args.number c.args.bytes
    (record {
      covered = self.covered;
      masters = self.masters;
      no_block = self.no_block;
      once = self.once;
      tidied = self.tidied;
      aligned = self.aligned;
      placed = self.placed;
    }) c.requires.room c.requires.block
    c.move_slot.ensures.ok (on_err_weaker c.move_slot.result (ap blocks_of) c.move_slot.ensures.err)

pub invariant_of-self : goal.invariant_of-self
invariant_of-self c = let l = after (goal.at.invariant_of-self c).After-move_slot in search rules

pub invariant_of-self-2 : goal.invariant_of-self-2
invariant_of-self-2 c = let l = after (goal.at.invariant_of-self-2 c).After-move_slot in search rules
