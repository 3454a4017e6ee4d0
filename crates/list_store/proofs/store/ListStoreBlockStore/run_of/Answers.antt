use Rattle.list_store.proofs.Cited.{◌∙◌, ◌&&◌, ap, subst, is_relocatable, tidy, has, has_free, FindsLowestRun, blocks_of}
use Rattle.list_store.proofs.store.ListStoreBlockStore.run_of.Goals as goal

pub returns : goal.returns
returns c = subst (λ z. FindsLowestRun (λ run. has (is_relocatable c.args.number) run && has_free c.args.bytes run) z
    c.run_of_in.result)
    (ap tidy (c.walk_over.ensures ∙ ap blocks_of c.deref.ensures.value) ∙ c.args.self.now.tidied) c.run_of_in.ensures
