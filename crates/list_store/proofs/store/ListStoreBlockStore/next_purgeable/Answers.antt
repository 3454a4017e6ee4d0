use Rattle.list_store.proofs.Cited.{◌∙◌, ap, subst, tidy, may_be_purged, FindsLowest, opened, spared, blocks_of}
use Rattle.list_store.proofs.store.ListStoreBlockStore.next_purgeable.Goals as goal

pub returns : goal.returns
returns c =
    subst (λ z. FindsLowest (may_be_purged (spared c.args.sparing)) (tidy (opened c.args.sparing z))
    c.next_purgeable_in.result) (c.walk_over.ensures ∙ ap blocks_of c.deref.ensures.value) c.next_purgeable_in.ensures
