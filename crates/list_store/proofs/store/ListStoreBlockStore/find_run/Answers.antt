use Rattle.list_store.proofs.Cited.{◌∙◌, ap, subst, tidy, has_free, FindsLowestRun, blocks_of}
use Rattle.list_store.proofs.store.ListStoreBlockStore.find_run.Goals as goal

pub returns : goal.returns
returns c = subst (λ z. FindsLowestRun (has_free c.args.bytes) z c.find_run_in.result)
    (ap tidy (c.walk_over.ensures ∙ ap blocks_of c.deref.ensures.value) ∙ c.args.self.now.tidied) c.find_run_in.ensures
