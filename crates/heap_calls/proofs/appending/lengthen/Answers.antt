use Rattle.heap_calls.proofs.Cited.{◌≡◌, ◌+◌, false, sym, ◌∙◌, ap, subst, is_some, spared, phys}
use Rattle.heap_calls.proofs.Cited.{is_relocatable, length_of, Sought, Went, told_along}
use Rattle.heap_calls.proofs.Going.{went-nowhere, sized-large}
use Rattle.heap_calls.proofs.Hearing.{hears-none}
use Rattle.heap_calls.proofs.Sizes.Behind.{size-is, size-none}
use Rattle.heap_calls.proofs.appending.lengthen.Given.{Over}
use Rattle.heap_calls.proofs.appending.lengthen.Goals.{After-fit_block, In_default}
use Rattle.heap_calls.proofs.appending.lengthen.Goals as goal

sum : (g : Over) (c : After-fit_block g) → length_of c.args.slot (g.S.BlockStore.zone c.args.store.now) + c.args.more
    ≡ c.in-Some.size
sum g c = ap (λ n. n + c.args.more) (sym c.requires.len) ∙ (size-is _ _ (sym c.joined_size.ensures ∙ c.in-Some.is)).0

pub returns-clause-went : goal.returns-clause-went
returns-clause-went g c = rw (sum g c) c.fit_block.ensures.went

pub returns-clause-hears : goal.returns-clause-hears
returns-clause-hears g c = rw (sum g c) c.fit_block.ensures.hears

-- no block can have the sum
large : (g : Over) (c : In_default g) → is_some (phys (length_of c.args.slot (g.S.BlockStore.zone c.args.store.now)
    + c.args.more)) ≡ false
large g c = ap (λ n. is_some (phys (n + c.args.more))) (sym c.requires.len)
    ∙ size-none _ (sym c.joined_size.ensures ∙ c.in_default.is)

pub returns-in_default-clause-went : goal.returns-in_default-clause-went
returns-in_default-clause-went g c =
    let zone = g.S.BlockStore.zone c.args.store.now in
    let rest = g.S.BlockStore.rest c.args.store.now in
    let sp = spared c.args.sparing in
    subst (λ (p : Sought). Went sp zone p false 0 zone rest rest) (sym (sized-large (is_relocatable c.args.slot)
    (length_of c.args.slot zone + c.args.more) sp zone (large g (goal.at.returns-in_default-clause-went g c).In_default)))
    (went-nowhere sp zone rest)

pub returns-in_default-clause-hears : goal.returns-in_default-clause-hears
returns-in_default-clause-hears g c =
    let zone = g.S.BlockStore.zone c.args.store.now in
    let sp = spared c.args.sparing in
    hears-none g.K.PurgeSink.told g.K.PurgeSink.waits g.K.PurgeSink.listens _ _ c.args.sink.now c.requires.idle
    (ap (λ (p : Sought). told_along c.args.names.now sp p zone) (sized-large (is_relocatable c.args.slot)
    (length_of c.args.slot zone + c.args.more) sp zone (large g (goal.at.returns-in_default-clause-hears g c).In_default)))
