use Rattle.list_store.proofs.Cited.{◌∙◌, sym, refl, length-set}
use Rattle.list_store.specs.declared.slots.SlotEntry.TheVariants as slot_entry
use Rattle.list_store.proofs.SlotLists.{slots_of-set, within-used, used-flagged, unused-flagged}
use Rattle.list_store.proofs.store.ListStoreBlockStore.set_resource.Goals as goal

pub invariant_of-self : goal.invariant_of-self
invariant_of-self c =
    let slots = c.args.self.now.slots.items in
    let i = c.args.number in
    let r = c.args.resource in
    record {
      covered = c.args.self.now.covered;
      small = c.args.self.now.small;
      masters = length-set slots i (slot_entry.Used r) ∙ c.args.self.now.masters;
      no_block = λ k unused. c.args.self.now.no_block k (sym (used-flagged slots i r c.requires k) ∙ unused);
      once = c.args.self.now.once;
      tidied = c.args.self.now.tidied;
      aligned = c.args.self.now.aligned;
      placed = c.args.self.now.placed;
    }

pub returns-clause-rest : goal.returns-clause-rest
returns-clause-rest c =
    let slots = c.args.self.now.slots.items in
    let i = c.args.number in
    let r = c.args.resource in
    record {
      slots = slots_of-set slots i (slot_entry.Used r) (within-used slots i c.requires);
      unused = unused-flagged slots i r c.requires;
      all = length-set slots i (slot_entry.Used r);
      moves = refl;
      placed = refl;
      window = refl;
    }
