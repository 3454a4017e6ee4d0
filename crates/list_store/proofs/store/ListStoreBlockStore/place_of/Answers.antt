use Rattle.list_store.proofs.Cited.{◌∙◌, ap, subst, is_relocatable, FindsLowest, blocks_of}
use Rattle.list_store.proofs.store.ListStoreBlockStore.place_of.Goals as goal

pub returns : goal.returns
returns c = subst (λ z. FindsLowest (is_relocatable c.args.number) z c.place_in.result)
    (c.walk_over.ensures ∙ ap blocks_of c.deref.ensures.value) c.place_in.ensures
