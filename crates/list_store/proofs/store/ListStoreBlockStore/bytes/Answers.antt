use Rattle.list_store.proofs.Cited.{◌≡◌, ◌∙◌, sym, ap, [], content_of, block_of}
use Rattle.list_store.proofs.Zone.Spots.{at_entry, content-other}
use Rattle.list_store.proofs.store.ListStoreBlockStore.bytes.Goals as goal

pub returns-in-Nonrelocatable : goal.returns-in-Nonrelocatable
returns-in-Nonrelocatable c = at_entry c.args.self.now.blocks.items _ c.args.place c.in-Some.i c.index.result.now
    (λ s. c.as_slice.result.now ≡ content_of s.here) c.deref.ensures.value c.in-Some.ensures c.index.ensures
    (c.as_slice.ensures.value ∙ ap (λ e. content_of (block_of e)) (sym c.in-Nonrelocatable.is))

pub returns-in-Relocatable : goal.returns-in-Relocatable
returns-in-Relocatable c = at_entry c.args.self.now.blocks.items _ c.args.place c.in-Some.i c.index.result.now
    (λ s. c.as_slice-in-Relocatable.result.now ≡ content_of s.here) c.deref.ensures.value c.in-Some.ensures
    c.index.ensures (c.as_slice-in-Relocatable.ensures.value
    ∙ ap (λ e. content_of (block_of e)) (sym c.in-Relocatable.is))

pub returns-in_default-index : goal.returns-in_default-index
returns-in_default-index c = at_entry c.args.self.now.blocks.items _ c.args.place c.in-Some.i c.index.result.now
    (λ s. [] ≡ content_of s.here) c.deref.ensures.value c.in-Some.ensures c.index.ensures
    (content-other c.index.result.now c.in_default-index.not-Nonrelocatable c.in_default-index.not-Relocatable)
