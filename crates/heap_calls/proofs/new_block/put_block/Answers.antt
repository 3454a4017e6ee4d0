use Rattle.heap_calls.proofs.Cited.{is_some, ◌≡◌, Some, ℕ, Option, false, sym, ◌∙◌, ap, subst, refl, rules, padded}
use Rattle.heap_calls.proofs.Cited.{is_relocatable, is_nonrelocatable, is_room, has, spot_at, IsSomeAnd, IsTrue, IfSome}
use Rattle.heap_calls.proofs.Cited.{fresh_block, phys, spared, opened, seek_block, Hears}
use Rattle.heap_calls.proofs.Cited.{told_along}
use Rattle.heap_calls.proofs.Hearing.{hears-as}
use Rattle.heap_calls.proofs.NewBlocks.NewSlots.{room-at}
use Rattle.heap_calls.proofs.NewBlocks.Placing.{makes-large, makes-none, makes-some, makes-fresh, block-told}
use Rattle.heap_calls.proofs.Numbering.Changing.{phys-some, nonrelocatable-carved}
use Rattle.heap_calls.proofs.Room.Placements.{fresh-size, at_none}
use Rattle.heap_calls.proofs.new_block.put_block.Given.{Over}
use Rattle.heap_calls.proofs.new_block.put_block.Goals.{In_ok-room, In-Some-place}
use Rattle.heap_calls.proofs.new_block.put_block.Goals as goal

-- the place has room for the block, and the slot has none
wide : (g : Over) (c : In-Some-place g)
    → IsSomeAnd (spot_at c.in-Some-place.place (g.S.BlockStore.zone c.make_room.new.store))
    (λ s. IsTrue (is_room (padded c.args.size) s.here))
wide g c =
    let zone1 = g.S.BlockStore.zone c.make_room.new.store in
    subst (λ (p : ℕ). IsSomeAnd (spot_at c.in-Some-place.place zone1) (λ s. IsTrue (is_room p s.here)))
    (phys-some c.args.size c.in-Some.bytes (sym c.phys.ensures ∙ c.in-Some.is)).1
    (room-at c.in-Some.bytes c.in_ok-room.room.place c.in-Some-place.place zone1 c.in-Some-place.is
    c.in_ok-room.ensures.room)

gone : (g : Over) (c : In-Some-place g)
    → has (is_relocatable c.args.slot) (g.S.BlockStore.zone c.make_room.new.store) ≡ false
gone g c =
    let zone = g.S.BlockStore.zone c.args.store.now in
    let zone1 = g.S.BlockStore.zone c.make_room.new.store in
    let P : Option ℕ → Type 0 = λ o. IfSome o (λ _. (number : ℕ)
    → has (is_relocatable number) (opened c.args.sparing zone) ≡ false → has (is_relocatable number) zone1 ≡ false) in
    let kept : P (Some c.in-Some-place.place) = subst P c.in-Some-place.is c.in_ok-room.ensures.kept in
    kept c.args.slot c.requires.none

-- a block can have the size
fits : (g : Over) (c : In_ok-room g) → phys c.args.size ≡ Some c.in-Some.bytes
fits g c = sym c.phys.ensures ∙ c.in-Some.is

pub returns-in_default-clause-went : goal.returns-in_default-clause-went
returns-in_default-clause-went g c =
    makes-large c.args.sparing c.args.size (opened c.args.sparing (g.S.BlockStore.zone c.args.store.now))
    (g.S.BlockStore.rest c.args.store.now) (sym c.phys.ensures ∙ c.in_default.is)

pub returns-in_default-place-clause-went : goal.returns-in_default-place-clause-went
returns-in_default-place-clause-went g c =
    makes-none c.args.sparing c.args.size c.in-Some.bytes
    (fits g (goal.at.returns-in_default-place-clause-went g c).In_ok-room)
    (opened c.args.sparing (g.S.BlockStore.zone c.args.store.now)) (g.S.BlockStore.zone c.make_room.new.store)
    (g.S.BlockStore.rest c.args.store.now) (g.S.BlockStore.rest c.make_room.new.store) c.in_ok-room.room
    c.in_ok-room.ensures.went c.in_default-place.is

pub returns-in_default-place-clause-slot : goal.returns-in_default-place-clause-slot
returns-in_default-place-clause-slot g c = at_none c.in_ok-room.room.place _ _ c.in_default-place.is c.in_ok-room.ensures.none

pub carve-requires-clause-room : goal.carve-requires-clause-room
carve-requires-clause-room g c = wide g (goal.at.carve-requires-clause-room g c).In-Some-place

pub carve-requires-clause-no_block : goal.carve-requires-clause-no_block
carve-requires-clause-no_block g c = gone g (goal.at.carve-requires-clause-no_block g c).In-Some-place

pub returns-in_err-carve-clause-lacks : goal.returns-in_err-carve-clause-lacks
returns-in_err-carve-clause-lacks g c =
    let lacks = ap (has (is_relocatable c.args.slot)) c.in_err-carve.ensures.err
    ∙ gone g (goal.at.returns-in_err-carve-clause-lacks g c).In-Some-place in search rules

pub returns-clause-went : goal.returns-clause-went
returns-clause-went g c =
    let at = goal.at.returns-clause-went g c in
    makes-some c.args.sparing c.args.size c.in-Some.bytes (fits g at.In_ok-room)
    (opened c.args.sparing (g.S.BlockStore.zone c.args.store.now)) (g.S.BlockStore.zone c.make_room.new.store)
    (g.S.BlockStore.rest c.args.store.now) (g.S.BlockStore.rest c.make_room.new.store) c.in_ok-room.room
    c.in_ok-room.ensures.went c.args.slot c.in-Some-place.place c.in-Some-place.is c.in_ok-room.ensures.room
    (gone g at.In-Some-place) (g.S.BlockStore.zone c.carve.new.self) c.in_ok-carve.ensures.ok
    (g.S.BlockStore.rest c.carve.new.self) c.in_ok-carve.ensures.rest.moves

pub returns-clause-fresh : goal.returns-clause-fresh
returns-clause-fresh g c =
    let at = goal.at.returns-clause-fresh g c in
    makes-fresh c.args.sparing c.args.size c.in-Some.bytes (fits g at.In_ok-room)
    (opened c.args.sparing (g.S.BlockStore.zone c.args.store.now)) (g.S.BlockStore.zone c.make_room.new.store)
    (g.S.BlockStore.rest c.args.store.now) (g.S.BlockStore.rest c.make_room.new.store) c.in_ok-room.room
    c.in_ok-room.ensures.went c.args.slot c.in-Some-place.place c.in-Some-place.is c.in_ok-room.ensures.room
    (gone g at.In-Some-place) (g.S.BlockStore.zone c.carve.new.self) c.in_ok-carve.ensures.ok

pub returns-clause-fits : goal.returns-clause-fits
returns-clause-fits g c = ap is_some (fits g (goal.at.returns-clause-fits g c).In_ok-room)

pub returns-clause-rest : goal.returns-clause-rest
returns-clause-rest g c =
    let carved = c.in_ok-carve.ensures.rest in
    let kept = c.make_room.ensures.rest in
    record {
      slots = λ k. carved.slots k ∙ kept.slots k;
      unused = carved.unused ∙ kept.unused;
      all = carved.all ∙ kept.all;
      moves = refl;
      placed = refl;
      window = carved.window ∙ kept.window;
    }

pub returns-clause-nonrelocatable : goal.returns-clause-nonrelocatable
returns-clause-nonrelocatable g c place =
    nonrelocatable-carved c.in-Some-place.place (padded c.args.size) (g.S.BlockStore.zone c.make_room.new.store)
    (g.S.BlockStore.zone c.carve.new.self) (fresh_block c.args.slot c.args.size) (λ p. refl)
    (wide g (goal.at.returns-clause-nonrelocatable g c).In-Some-place) c.in_ok-carve.ensures.ok place
    ∙ c.make_room.ensures.nonrelocatable place

pub returns-in_err-carve-clause-nonrelocatable : goal.returns-in_err-carve-clause-nonrelocatable
returns-in_err-carve-clause-nonrelocatable g c place =
    ap (has (is_nonrelocatable place)) c.in_err-carve.ensures.err ∙ c.make_room.ensures.nonrelocatable place

-- what the sink hears, where a block can have the size
heard : (g : Over) (c : In_ok-room g) → (done : Type 0) → Hears g.K.PurgeSink.told g.K.PurgeSink.waits g.K.PurgeSink.listens
    done (told_along c.args.names.now (spared c.args.sparing) (seek_block c.args.sparing c.args.size (fresh_block 0 c.args.size)
    (opened c.args.sparing (g.S.BlockStore.zone c.args.store.now)))
    (opened c.args.sparing (g.S.BlockStore.zone c.args.store.now))) c.args.sink.now c.make_room.new.sink
heard g c done =
    let new = fresh_block 0 c.args.size in
    let size = phys-some c.args.size c.in-Some.bytes (fits g c) in
    hears-as g.K.PurgeSink.told g.K.PurgeSink.waits g.K.PurgeSink.listens _ _ _ _ _ _ (λ some. refl)
    (block-told c.args.sparing c.args.size c.in-Some.bytes (fits g c)
    (opened c.args.sparing (g.S.BlockStore.zone c.args.store.now)) (g.S.BlockStore.zone c.make_room.new.store)
    (g.S.BlockStore.rest c.args.store.now) (g.S.BlockStore.rest c.make_room.new.store) c.in_ok-room.room
    c.in_ok-room.ensures.went c.args.names.now new) (c.in_ok-room.ensures.hears new (fresh-size c.args.size c.in-Some.bytes size.1 0))

pub returns-in_err-room-clause-hears : goal.returns-in_err-room-clause-hears
returns-in_err-room-clause-hears g c =
    let size = phys-some c.args.size c.in-Some.bytes (sym c.phys.ensures ∙ c.in-Some.is) in
    let hears = c.make_room.ensures.hears (fresh_block 0 c.args.size)
    (fresh-size c.args.size c.in-Some.bytes size.1 0) in search rules

pub returns-in_default-place-clause-hears : goal.returns-in_default-place-clause-hears
returns-in_default-place-clause-hears g c = heard g (goal.at.returns-in_default-place-clause-hears g c).In_ok-room _

pub returns-in_err-carve-clause-hears : goal.returns-in_err-carve-clause-hears
returns-in_err-carve-clause-hears g c = heard g (goal.at.returns-in_err-carve-clause-hears g c).In_ok-room _

pub returns-clause-hears : goal.returns-clause-hears
returns-clause-hears g c = heard g (goal.at.returns-clause-hears g c).In_ok-room _
