use Rattle.list_store.proofs.Cited.{◌∙◌, slice_set, refl, length-set, Unused, blocks_of, slots_of, none-set}
use Rattle.list_store.specs.declared.slots.SlotEntry.TheVariants as slot_entry
use Rattle.list_store.proofs.SlotLists.{slots_of-set, within-used, unused-set}
use Rattle.list_store.proofs.store.ListStoreBlockStore.give_slot.Goals as goal

pub invariant_of-self : goal.invariant_of-self
invariant_of-self c =
    let slots = c.args.self.now.slots.items in
    let bs = blocks_of c.args.self.now.blocks.items in
    let i = c.args.number in
    record {
      covered = c.args.self.now.covered;
      small = c.args.self.now.small;
      masters = length-set slots i slot_entry.Unused ∙ c.args.self.now.masters;
      no_block = none-set (slots_of slots) (slots_of (slice_set slots i slot_entry.Unused)) i Unused bs
          (slots_of-set slots i slot_entry.Unused (within-used slots i c.requires.used)) c.requires.no_block
          c.args.self.now.no_block;
      once = c.args.self.now.once;
      tidied = c.args.self.now.tidied;
      aligned = c.args.self.now.aligned;
      placed = c.args.self.now.placed;
    }

pub returns-clause-rest : goal.returns-clause-rest
returns-clause-rest c =
    let slots = c.args.self.now.slots.items in
    let i = c.args.number in
    record {
      slots = slots_of-set slots i slot_entry.Unused (within-used slots i c.requires.used);
      unused = unused-set slots i c.requires.used;
      all = length-set slots i slot_entry.Unused;
      moves = refl;
      placed = refl;
      window = refl;
    }
