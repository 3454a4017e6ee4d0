use Rattle.heap_calls.proofs.Cited.{◌≡◌, ℕ, ◌+◌, ◌≤◌, length, subst, arith, IsSomeAnd, content_of, spot_at}
use Rattle.heap_calls.proofs.NewBlocks.Copies.{source-there, new-there, may-read, may-write, copy-went, copy-none}
use Rattle.heap_calls.proofs.NewBlocks.NewSlots.{has-kept}
use Rattle.heap_calls.proofs.Room.Staying.{nonrelocatable-then}
use Rattle.heap_calls.proofs.Sizes.Steady.{nonrelocatable-copied}
use Rattle.heap_calls.proofs.copying.copy_block.Goals as goal

pub unreachable-requires : goal.unreachable-requires
unreachable-requires g c =
    let store = c.new_block.new.store in
    source-there c.args.source c.args.size c.in-Some.slot (g.S.BlockStore.zone c.args.store.now) (g.S.BlockStore.zone store)
    (g.S.BlockStore.rest c.args.store.now) (g.S.BlockStore.rest store) c.in_ok-made.made c.in-Some.is
    c.in_ok-made.ensures.went c.in_ok-made.ensures.fresh c.in_ok-made.ensures.slot c.requires.used
    (g.met.S.BlockStore.once store) c.requires.size c.in_default-place_of.ensures

pub unreachable-requires-in_default-place_of-2 : goal.unreachable-requires-in_default-place_of-2
unreachable-requires-in_default-place_of-2 g c =
    let store = c.new_block.new.store in
    new-there c.args.source c.args.size c.in-Some.slot (g.S.BlockStore.zone c.args.store.now) (g.S.BlockStore.zone store)
    (g.S.BlockStore.rest c.args.store.now) (g.S.BlockStore.rest store) c.in_ok-made.made c.in-Some.is
    c.in_ok-made.ensures.went c.in_ok-made.ensures.fresh c.in_ok-made.ensures.slot c.requires.used
    (g.met.S.BlockStore.once store) c.requires.size c.in_default-place_of-2.ensures

pub copy-requires-clause-source : goal.copy-requires-clause-source
copy-requires-clause-source g c =
    let store = c.new_block.new.store in
    let Holds : ℕ → Type 0 = λ n. IsSomeAnd (spot_at c.in-Some-place_of.from (g.S.BlockStore.zone store))
    (λ s. n ≤ length (content_of s.here)) in
    let same : c.args.size ≡ 0 + c.args.size = omega arith in
    subst Holds same (may-read c.args.source c.args.size c.in-Some.slot (g.S.BlockStore.zone c.args.store.now)
    (g.S.BlockStore.zone store) (g.S.BlockStore.rest c.args.store.now) (g.S.BlockStore.rest store) c.in_ok-made.made
    c.in-Some.is c.in_ok-made.ensures.went c.in_ok-made.ensures.fresh c.in_ok-made.ensures.slot c.requires.used
    (g.met.S.BlockStore.once store) c.requires.size c.in-Some-place_of.from c.in-Some-place_of.ensures)

pub copy-requires-clause-within : goal.copy-requires-clause-within
copy-requires-clause-within g c =
    let store = c.new_block.new.store in
    may-write c.args.source c.args.size c.in-Some.slot (g.S.BlockStore.zone c.args.store.now) (g.S.BlockStore.zone store)
    (g.S.BlockStore.rest c.args.store.now) (g.S.BlockStore.rest store) c.in_ok-made.made c.in-Some.is
    c.in_ok-made.ensures.went c.in_ok-made.ensures.fresh c.in_ok-made.ensures.slot c.requires.used
    (g.met.S.BlockStore.once store) c.requires.size c.in-Some-place_of-2.to c.in-Some-place_of-2.ensures

pub returns-in_default-clause-went : goal.returns-in_default-clause-went
returns-in_default-clause-went g c =
    let store = c.new_block.new.store in
    copy-none c.args.source c.args.size (g.S.BlockStore.zone c.args.store.now) (g.S.BlockStore.zone store)
    (g.S.BlockStore.rest c.args.store.now) (g.S.BlockStore.rest store) c.in_ok-made.made c.in_default.is
    c.in_ok-made.ensures.went c.requires.size

pub returns-clause-went : goal.returns-clause-went
returns-clause-went g c =
    let store = c.new_block.new.store in
    copy-went c.args.source c.args.size c.in-Some.slot (g.S.BlockStore.zone c.args.store.now) (g.S.BlockStore.zone store)
    (g.S.BlockStore.rest c.args.store.now) (g.S.BlockStore.rest store) c.in_ok-made.made c.in-Some.is
    c.in_ok-made.ensures.went c.in_ok-made.ensures.fresh c.in_ok-made.ensures.slot c.requires.used
    (g.met.S.BlockStore.once store) c.requires.size (g.S.BlockStore.zone c.copy.new.self)
    (g.S.BlockStore.rest c.copy.new.self) c.copy.ensures.rest c.in-Some-place_of.from c.in-Some-place_of-2.to
    c.in-Some-place_of.ensures c.in-Some-place_of-2.ensures c.copy.ensures.zone

pub returns-clause-slot : goal.returns-clause-slot
returns-clause-slot g c =
    has-kept c.in_ok-made.made.slot (g.S.BlockStore.rest c.args.store.now) (g.S.BlockStore.rest c.new_block.new.store)
    (g.S.BlockStore.rest c.copy.new.self) c.in_ok-made.ensures.slot c.copy.ensures.rest

pub returns-clause-nonrelocatable : goal.returns-clause-nonrelocatable
returns-clause-nonrelocatable g c =
    let zone1 = g.S.BlockStore.zone c.new_block.new.store in
    let zone' = g.S.BlockStore.zone c.copy.new.self in
    nonrelocatable-then (g.S.BlockStore.zone c.args.store.now) zone1 zone' c.new_block.ensures.nonrelocatable
    (nonrelocatable-copied c.args.source c.in-Some.slot c.in-Some-place_of.from c.in-Some-place_of-2.to c.args.size 0 zone1 zone'
    c.in-Some-place_of.ensures c.in-Some-place_of-2.ensures c.copy.ensures.zone)
