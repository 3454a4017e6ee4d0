use Rattle.list_store.proofs.Cited.{◌∙◌, ap, subst, is_room, FindsLowest, blocks_of}
use Rattle.list_store.proofs.store.ListStoreBlockStore.find_free.Goals as goal

pub returns : goal.returns
returns c = subst (λ z. FindsLowest (is_room c.args.bytes) z c.find_free_in.result)
    (c.walk_over.ensures ∙ ap blocks_of c.deref.ensures.value) c.find_free_in.ensures
