use Rattle.list_store.proofs.Cited.{ap, on_err_weaker, blocks_of}
use Rattle.list_store.proofs.Nonrelocatable.Blocks.{lawful-masters, slots-more}
use Rattle.list_store.proofs.store.ListStoreBlockStore.add_masters.Goals as goal

pub invariant_of-self : goal.invariant_of-self
invariant_of-self c =
    let self = c.args.self.now in
    let put = c.put_masters in
    let lawful = lawful-masters put.result self.slots.items put.new.slots.items self.bytes (blocks_of self.blocks.items)
    (blocks_of put.new.entries.items) c.args.place (record {
      covered = self.covered;
      masters = self.masters;
      no_block = self.no_block;
      once = self.once;
      tidied = self.tidied;
      aligned = self.aligned;
      placed = self.placed;
    }) put.ensures.more put.ensures.same c.requires
    put.ensures.ok (on_err_weaker put.result (ap blocks_of) put.ensures.err) in
    record {
      covered = lawful.covered;
      small = self.small;
      masters = lawful.masters;
      no_block = lawful.no_block;
      once = lawful.once;
      tidied = lawful.tidied;
      aligned = lawful.aligned;
      placed = lawful.placed;
    }

pub returns-clause-slots : goal.returns-clause-slots
returns-clause-slots c = λ k used. slots-more c.args.self.now.slots.items c.put_masters.new.slots.items k
    c.in_ok-put_masters.ensures.more used
