use Rattle.heap_calls.proofs.Cited.{◌+◌, Bool, ap, subst, rules, ◌∙◌, length, is_relocatable, length_of, Went, seek_sized}
use Rattle.heap_calls.specs.Inner.Appending.{behind}
use Rattle.heap_calls.proofs.Going.{went-longer, went-no_longer, told-longer}
use Rattle.heap_calls.proofs.Hearing.{hears-as}
use Rattle.heap_calls.proofs.Sizes.Behind.{longer-fits}
use Rattle.heap_calls.proofs.Sizes.Steady.{nonrelocatable-longer}
use Rattle.heap_calls.proofs.appending.append_bytes.Given.{Over}
use Rattle.heap_calls.proofs.appending.append_bytes.Goals.{In_ok-grown}
use Rattle.heap_calls.proofs.appending.append_bytes.Goals as goal

-- whether the block has grown
abbrev Grew : (g : Over) (c : In_ok-grown g) → Bool → Type 0
Grew g c done = Went (is_relocatable c.args.slot) (g.S.BlockStore.zone c.args.store.now)
    (seek_sized (is_relocatable c.args.slot) (length_of c.args.slot (g.S.BlockStore.zone c.args.store.now)
    + length c.args.bytes.now) (is_relocatable c.args.slot) (g.S.BlockStore.zone c.args.store.now)) done
    c.in_ok-grown.grown.searches (g.S.BlockStore.zone c.lengthen.new.store) (g.S.BlockStore.rest c.args.store.now)
    (g.S.BlockStore.rest c.lengthen.new.store)

pub write_behind-requires : goal.write_behind-requires
write_behind-requires g c =
    let store = c.args.store.now in
    rw c.length_at-len.ensures.is (longer-fits c.args.slot (is_relocatable c.args.slot) (g.S.BlockStore.zone store) _
    (g.S.BlockStore.zone c.lengthen.new.store)
    (subst (Grew g (goal.at.write_behind-requires g c).In_ok-grown) c.if-grown.true c.in_ok-grown.ensures.went)
    c.requires.found.0 c.requires.found.1 (g.met.S.BlockStore.once store c.args.slot))

pub returns-then-grown-clause-nonrelocatable : goal.returns-then-grown-clause-nonrelocatable
returns-then-grown-clause-nonrelocatable g c =
    nonrelocatable-longer c.args.slot c.length_at-len.result c.args.bytes.now (g.S.BlockStore.zone c.args.store.now)
    (g.S.BlockStore.zone c.lengthen.new.store) (g.S.BlockStore.zone c.write_behind.new.store)
    c.lengthen.ensures.nonrelocatable c.write_behind.ensures.zone

pub returns-then-grown-clause-went : goal.returns-then-grown-clause-went
returns-then-grown-clause-went g c =
    let zone = g.S.BlockStore.zone c.args.store.now in
    let zone1 = g.S.BlockStore.zone c.lengthen.new.store in
    rw c.if-grown.true (went-longer c.args.slot c.args.bytes.now (is_relocatable c.args.slot) zone
    (subst (Grew g (goal.at.returns-then-grown-clause-went g c).In_ok-grown) c.if-grown.true c.in_ok-grown.ensures.went)
    (c.write_behind.ensures.zone ∙ ap (λ n. behind c.args.slot n c.args.bytes.now zone1) c.length_at-len.ensures.is)
    c.write_behind.ensures.rest.moves)

pub returns-else-grown-clause-went : goal.returns-else-grown-clause-went
returns-else-grown-clause-went g c =
    rw c.if-grown.false (went-no_longer c.args.slot c.args.bytes.now (is_relocatable c.args.slot)
    (g.S.BlockStore.zone c.args.store.now)
    (subst (Grew g (goal.at.returns-else-grown-clause-went g c).In_ok-grown) c.if-grown.false
    c.in_ok-grown.ensures.went))

pub returns-then-grown-clause-hears : goal.returns-then-grown-clause-hears
returns-then-grown-clause-hears g c =
    hears-as g.K.PurgeSink.told g.K.PurgeSink.waits g.K.PurgeSink.listens _ _ _ _ c.args.sink.now c.lengthen.new.sink
    (λ done. search rules) (told-longer c.args.slot c.args.bytes.now (is_relocatable c.args.slot)
    (g.S.BlockStore.zone c.args.store.now) c.args.names.now) c.lengthen.ensures.hears

pub returns-else-grown-clause-hears : goal.returns-else-grown-clause-hears
returns-else-grown-clause-hears g c =
    hears-as g.K.PurgeSink.told g.K.PurgeSink.waits g.K.PurgeSink.listens _ _ _ _ c.args.sink.now c.lengthen.new.sink
    (λ done. search rules) (told-longer c.args.slot c.args.bytes.now (is_relocatable c.args.slot)
    (g.S.BlockStore.zone c.args.store.now) c.args.names.now) c.lengthen.ensures.hears
