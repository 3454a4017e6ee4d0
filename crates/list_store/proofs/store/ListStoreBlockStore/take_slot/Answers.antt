use Rattle.list_store.proofs.Cited.{◌≡◌, ◌<◌, ◌∙◌, ap, subst, arith, length, List, refl, false, slice_set, length-set, SlotEntry, Unused}
use Rattle.list_store.proofs.Cited.{Used, is_used, blocks_of, slots_of, none-set, masters-few}
use Rattle.list_store.specs.declared.slots.SlotEntry.TheVariants as slot_entry
use Rattle.list_store.proofs.SlotLists.{slots_of-set, unused-taken}
use Rattle.list_store.proofs.store.ListStoreBlockStore.take_slot.Goals.{In_ok-i}
use Rattle.list_store.proofs.store.ListStoreBlockStore.take_slot.Goals as goal

-- the slot that was found
found : (c : In_ok-i) → (c.in_ok-i.i < length c.args.self.now.slots.items)
    × (slots_of c.args.self.now.slots.items c.in_ok-i.i ≡ Unused)
found c =
    let P : List SlotEntry → Type 0 = λ l. (c.in_ok-i.i < length l) × (slots_of l c.in_ok-i.i ≡ Unused) in
    subst P c.deref.ensures.value c.in_ok-i.ensures

pub invariant_of-self : goal.invariant_of-self
invariant_of-self c =
    let slots = c.args.self.now.slots.items in
    let bs = blocks_of c.args.self.now.blocks.items in
    let i = c.in_ok-i.i in
    let found = found (goal.at.invariant_of-self c).In_ok-i in
    record {
      covered = c.args.self.now.covered;
      small = c.args.self.now.small;
      masters = length-set slots i (slot_entry.Used false) ∙ c.args.self.now.masters;
      no_block = none-set (slots_of slots) (slots_of (slice_set slots i (slot_entry.Used false))) i (Used false) bs
          (slots_of-set slots i (slot_entry.Used false) found.0) (c.args.self.now.no_block i (ap is_used found.1))
          c.args.self.now.no_block;
      once = c.args.self.now.once;
      tidied = c.args.self.now.tidied;
      aligned = c.args.self.now.aligned;
      placed = c.args.self.now.placed;
    }

pub overflow_cast-result : goal.overflow_cast-result
overflow_cast-result c =
    let found = found (goal.at.overflow_cast-result c).In_ok-i in
    let within : c.in_ok-i.i < length c.args.self.now.slots.items = found.0 in
    let few = masters-few (blocks_of c.args.self.now.blocks.items) in
    let masters = c.args.self.now.masters in
    let covered = c.args.self.now.covered in
    let small = c.args.self.now.small in
    omega arith

pub returns-clause-one : goal.returns-clause-one
returns-clause-one c =
    let found = found (goal.at.returns-clause-one c).In_ok-i in
    unused-taken c.args.self.now.slots.items c.in_ok-i.i found.1

pub returns-clause-rest : goal.returns-clause-rest
returns-clause-rest c =
    let found = found (goal.at.returns-clause-rest c).In_ok-i in
    record {
      slots = slots_of-set c.args.self.now.slots.items c.in_ok-i.i (slot_entry.Used false) found.0;
      unused = refl;
      all = length-set c.args.self.now.slots.items c.in_ok-i.i (slot_entry.Used false);
      moves = refl;
      placed = refl;
      window = refl;
    }
