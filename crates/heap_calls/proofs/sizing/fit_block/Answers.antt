use Rattle.heap_calls.proofs.Cited.{false, is_some, sym, ◌∙◌, ap, subst, is_relocatable, spared, did, Sought, Went, told_named}
use Rattle.heap_calls.proofs.Going.{went-nowhere, sized-large}
use Rattle.heap_calls.proofs.Hearing.{hears-none}
use Rattle.heap_calls.proofs.sizing.fit_block.Goals as goal

pub returns-then-is_none-clause-went : goal.returns-then-is_none-clause-went
returns-then-is_none-clause-went g c =
    let zone = g.S.BlockStore.zone c.args.store.now in
    let rest = g.S.BlockStore.rest c.args.store.now in
    let sp = spared c.args.sparing in
    subst (λ (p : Sought). Went sp zone p false 0 zone rest rest) (sym (sized-large (is_relocatable c.args.slot) c.args.size sp
    zone (ap is_some (sym c.phys.ensures) ∙ c.if-is_none.ensures))) (went-nowhere sp zone rest)

pub returns-then-is_none-clause-hears : goal.returns-then-is_none-clause-hears
returns-then-is_none-clause-hears g c =
    let zone = g.S.BlockStore.zone c.args.store.now in
    let sp = spared c.args.sparing in
    hears-none g.K.PurgeSink.told g.K.PurgeSink.waits g.K.PurgeSink.listens _ _ c.args.sink.now c.requires.idle
    (ap (λ (p : Sought). told_named c.args.names.now (did sp p.path zone).gone) (sized-large (is_relocatable c.args.slot)
    c.args.size sp zone (ap is_some (sym c.phys.ensures) ∙ c.if-is_none.ensures)))
