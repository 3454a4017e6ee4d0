use Rattle.heap_calls.proofs.Cited.{◌≡◌, ℕ, ◌+◌, Bool, true, ◌∙◌, ap, subst, rules, refl, arith, take, is_relocatable, spared, spot}
use Rattle.heap_calls.proofs.Cited.{bytes_of, length_of, Went, seek_sized, seek_longer, told_along}
use Rattle.block_store.specs.declared.sparing.Sparing.TheVariants as sparing
use Rattle.heap_calls.specs.Inner.Appending.{behind}
use Rattle.heap_calls.proofs.Going.{went-longer, went-no_longer, told-longer}
use Rattle.heap_calls.proofs.Hearing.{hears-as}
use Rattle.heap_calls.proofs.Sizes.Behind.{HasRoom, room-made}
use Rattle.heap_calls.proofs.Sizes.Steady.{nonrelocatable-longer}
use Rattle.heap_calls.proofs.appending.append_block.Given.{Over}
use Rattle.heap_calls.proofs.appending.append_block.Goals.{In_ok-grown}
use Rattle.heap_calls.proofs.appending.append_block.Goals as goal

-- whether the block has grown by so many bytes
abbrev Grew : (g : Over) (c : In_ok-grown g) → Bool → ℕ → Type 0
Grew g c done more = Went (spared (sparing.Two c.args.source c.args.slot)) (g.S.BlockStore.zone c.args.store.now)
    (seek_sized (is_relocatable c.args.slot) (length_of c.args.slot (g.S.BlockStore.zone c.args.store.now) + more)
    (spared (sparing.Two c.args.source c.args.slot)) (g.S.BlockStore.zone c.args.store.now)) done
    c.in_ok-grown.grown.searches (g.S.BlockStore.zone c.lengthen.new.store) (g.S.BlockStore.rest c.args.store.now)
    (g.S.BlockStore.rest c.lengthen.new.store)

grew : (g : Over) (c : In_ok-grown g) (done : Bool) → c.in_ok-grown.grown.done ≡ done
    → Grew g c done (length_of c.args.source (g.S.BlockStore.zone c.args.store.now))
grew g c done is = subst (λ (t : Bool). Grew g c t (length_of c.args.source (g.S.BlockStore.zone c.args.store.now))) is
    (subst (Grew g c c.in_ok-grown.grown.done) c.requires.more c.in_ok-grown.ensures.went)

room : (g : Over) (c : In_ok-grown g) → c.in_ok-grown.grown.done ≡ true
    → HasRoom c.args.slot (length_of c.args.slot (g.S.BlockStore.zone c.args.store.now) + c.args.more) c.args.source
    c.args.more (g.S.BlockStore.zone c.args.store.now) (g.S.BlockStore.zone c.lengthen.new.store)
room g c done =
    let store = c.args.store.now in
    room-made c.args.slot (spared (sparing.Two c.args.source c.args.slot)) (g.S.BlockStore.zone store) _
    (g.S.BlockStore.zone c.lengthen.new.store)
    (subst (λ (t : Bool). Grew g c t c.args.more) done c.in_ok-grown.ensures.went)
    c.requires.found.0 c.requires.found.1 (g.met.S.BlockStore.once store c.args.slot)
    (omega arith) c.args.source c.requires.source (λ b e. rw e refl) c.args.more c.requires.more

pub copy_behind-requires-clause-source : goal.copy_behind-requires-clause-source
copy_behind-requires-clause-source g c =
    (room g (goal.at.copy_behind-requires-clause-source g c).In_ok-grown c.if-grown.true).there

pub copy_behind-requires-clause-within : goal.copy_behind-requires-clause-within
copy_behind-requires-clause-within g c =
    rw c.length_at-len.ensures.is (room g (goal.at.copy_behind-requires-clause-within g c).In_ok-grown
    c.if-grown.true).fits

pub returns-then-grown-clause-nonrelocatable : goal.returns-then-grown-clause-nonrelocatable
returns-then-grown-clause-nonrelocatable g c =
    nonrelocatable-longer c.args.slot c.length_at-len.result _ (g.S.BlockStore.zone c.args.store.now)
    (g.S.BlockStore.zone c.lengthen.new.store) (g.S.BlockStore.zone c.copy_behind.new.store)
    c.lengthen.ensures.nonrelocatable c.copy_behind.ensures.zone

pub returns-then-grown-clause-went : goal.returns-then-grown-clause-went
returns-then-grown-clause-went g c =
    let at = (goal.at.returns-then-grown-clause-went g c).In_ok-grown in
    let zone = g.S.BlockStore.zone c.args.store.now in
    let zone1 = g.S.BlockStore.zone c.lengthen.new.store in
    rw c.if-grown.true (went-longer c.args.slot (bytes_of (spot (is_relocatable c.args.source) zone))
    (spared (sparing.Two c.args.source c.args.slot)) zone (grew g at true c.if-grown.true) (c.copy_behind.ensures.zone
    ∙ ap (λ n. behind c.args.slot n (take c.args.more (bytes_of (spot (is_relocatable c.args.source) zone1))) zone1)
    c.length_at-len.ensures.is
    ∙ ap (λ l. behind c.args.slot (length_of c.args.slot zone) l zone1) (room g at c.if-grown.true).kept)
    c.copy_behind.ensures.rest.moves)

pub returns-else-grown-clause-went : goal.returns-else-grown-clause-went
returns-else-grown-clause-went g c =
    let zone = g.S.BlockStore.zone c.args.store.now in
    rw c.if-grown.false (went-no_longer c.args.slot (bytes_of (spot (is_relocatable c.args.source) zone))
    (spared (sparing.Two c.args.source c.args.slot)) zone
    (grew g (goal.at.returns-else-grown-clause-went g c).In_ok-grown _ c.if-grown.false))

-- what the sink hears
told : (g : Over) (c : In_ok-grown g) → told_along c.args.names.now (spared (sparing.Two c.args.source c.args.slot))
    (seek_sized (is_relocatable c.args.slot) (length_of c.args.slot (g.S.BlockStore.zone c.args.store.now) + c.args.more)
    (spared (sparing.Two c.args.source c.args.slot)) (g.S.BlockStore.zone c.args.store.now))
    (g.S.BlockStore.zone c.args.store.now) ≡ told_along c.args.names.now
    (spared (sparing.Two c.args.source c.args.slot)) (seek_longer c.args.slot
    (bytes_of (spot (is_relocatable c.args.source) (g.S.BlockStore.zone c.args.store.now)))
    (spared (sparing.Two c.args.source c.args.slot)) (g.S.BlockStore.zone c.args.store.now))
    (g.S.BlockStore.zone c.args.store.now)
told g c =
    let zone = g.S.BlockStore.zone c.args.store.now in
    let sp = spared (sparing.Two c.args.source c.args.slot) in
    ap (λ k. told_along c.args.names.now sp (seek_sized (is_relocatable c.args.slot) (length_of c.args.slot zone + k) sp
    zone) zone) c.requires.more
    ∙ told-longer c.args.slot (bytes_of (spot (is_relocatable c.args.source) zone)) sp zone c.args.names.now

pub returns-then-grown-clause-hears : goal.returns-then-grown-clause-hears
returns-then-grown-clause-hears g c =
    hears-as g.K.PurgeSink.told g.K.PurgeSink.waits g.K.PurgeSink.listens _ _ _ _ c.args.sink.now c.lengthen.new.sink
    (λ done. search rules) (told g (goal.at.returns-then-grown-clause-hears g c).In_ok-grown) c.lengthen.ensures.hears

pub returns-else-grown-clause-hears : goal.returns-else-grown-clause-hears
returns-else-grown-clause-hears g c =
    hears-as g.K.PurgeSink.told g.K.PurgeSink.waits g.K.PurgeSink.listens _ _ _ _ c.args.sink.now c.lengthen.new.sink
    (λ done. search rules) (told g (goal.at.returns-else-grown-clause-hears g c).In_ok-grown) c.lengthen.ensures.hears
