use Rattle.heap_calls.proofs.Cited.{◌≡◌, sym, ◌∙◌, ap, subst, refl, rules, is_some, on_err, nothing}
use Rattle.heap_calls.proofs.Cited.{is_nonrelocatable, has, Sought, Went, seek_pointer, fresh_nonrelocatable, IsNewPlace, told_along}
use Rattle.heap_calls.proofs.Cited.{Option, ℕ, filled_at, filled}
use Rattle.heap_calls.proofs.Cited.{unwrap_or, IfSome, spot_at, Hears}
use Rattle.heap_calls.proofs.Hearing.{hears-as}
use Rattle.heap_calls.proofs.NewBlocks.NewPointers.{fresh-size, stands-new, pointer-fits, pointer-refused}
use Rattle.heap_calls.proofs.NewBlocks.NewSlots.{room-at, went-filled, went-unfilled}
use Rattle.heap_calls.proofs.Going.{went-refused}
use Rattle.heap_calls.proofs.Numbering.Changing.{phys-some}
use Rattle.heap_calls.proofs.pointers.add_nonrelocatable.Given.{Over}
use Rattle.heap_calls.proofs.pointers.add_nonrelocatable.Goals.{In_ok-room}
use Rattle.heap_calls.proofs.pointers.add_nonrelocatable.Goals as goal

pub returns-in_err-carve_nonrelocatable-clause-nonrelocatable : goal.returns-in_err-carve_nonrelocatable-clause-nonrelocatable
returns-in_err-carve_nonrelocatable-clause-nonrelocatable g c = on_err c.from_residual-in_err-carve_nonrelocatable.result _
    (λ place. ap (has (is_nonrelocatable place)) c.in_err-carve_nonrelocatable.ensures.err ∙ c.in_ok-room.ensures.nonrelocatable place)

-- the search for room, for a block of any name
went : (g : Over) (c : In_ok-room g) (name : ℕ) → Went nothing (g.S.BlockStore.zone c.args.store.now)
    (seek_pointer name c.args.size (g.S.BlockStore.zone c.args.store.now)) (is_some c.in_ok-room.room.place)
    c.in_ok-room.room.searches
    (filled_at (fresh_nonrelocatable name c.args.size) c.in_ok-room.room.place (g.S.BlockStore.zone c.make_base.new.store))
    (g.S.BlockStore.rest c.args.store.now) (g.S.BlockStore.rest c.make_base.new.store)
went g c name =
    let zone = g.S.BlockStore.zone c.args.store.now in
    let zone1 = g.S.BlockStore.zone c.make_base.new.store in
    let fits = phys-some c.args.size c.in-Some.bytes (sym c.phys.ensures ∙ c.in-Some.is) in
    let new = fresh_nonrelocatable name c.args.size in
    subst (λ (p : Sought). Went nothing zone p (is_some c.in_ok-room.room.place) c.in_ok-room.room.searches
    (filled_at new c.in_ok-room.room.place zone1) (g.S.BlockStore.rest c.args.store.now)
    (g.S.BlockStore.rest c.make_base.new.store)) (sym (pointer-fits name c.args.size zone fits.0))
    (c.in_ok-room.ensures.went new (fresh-size c.args.size c.in-Some.bytes fits.1 name))

pub returns-in_ok-carve_nonrelocatable-clause-went : goal.returns-in_ok-carve_nonrelocatable-clause-went
returns-in_ok-carve_nonrelocatable-clause-went g c =
    let zone1 = g.S.BlockStore.zone c.make_base.new.store in
    let zone' = g.S.BlockStore.zone c.carve_nonrelocatable.new.self in
    let place = c.in-Some-place.place in
    let name = unwrap_or c.in_ok-room.room.place 0 in
    went-filled (fresh_nonrelocatable name c.args.size) c.in_ok-room.room.place zone1
    (went g (goal.at.returns-in_ok-carve_nonrelocatable-clause-went g c).In_ok-room name) c.in-Some.bytes place
    c.in-Some-place.is c.in_ok-room.ensures.room zone'
    (subst (λ (k : ℕ). IfSome (spot_at place zone1) (λ s. zone' ≡ filled (fresh_nonrelocatable k c.args.size) s))
    (sym (ap (λ o. unwrap_or o 0) c.in-Some-place.is)) c.in_ok-carve_nonrelocatable.ensures.ok)
    (g.S.BlockStore.rest c.carve_nonrelocatable.new.self) c.carve_nonrelocatable.ensures.rest.moves

pub returns-in_default-place-clause-went : goal.returns-in_default-place-clause-went
returns-in_default-place-clause-went g c =
    let name = unwrap_or c.in_ok-room.room.place 0 in
    went-unfilled (fresh_nonrelocatable name c.args.size) c.in_ok-room.room.place (g.S.BlockStore.zone c.make_base.new.store)
    (went g (goal.at.returns-in_default-place-clause-went g c).In_ok-room name) c.in_default-place.is

pub returns-in_ok-carve_nonrelocatable-clause-place : goal.returns-in_ok-carve_nonrelocatable-clause-place
returns-in_ok-carve_nonrelocatable-clause-place g c =
    let zone = g.S.BlockStore.zone c.args.store.now in
    let zone1 = g.S.BlockStore.zone c.make_base.new.store in
    let after = g.S.BlockStore.zone c.carve_nonrelocatable.new.self in
    let P : Option ℕ → Type 0 = λ o. IsNewPlace o zone after in
    subst P (sym c.in-Some-place.is)
    (stands-new c.args.size c.in-Some.bytes c.in-Some-place.place zone zone1 after
    (room-at c.in-Some.bytes c.in_ok-room.room.place c.in-Some-place.place zone1 c.in-Some-place.is c.in_ok-room.ensures.room)
    (g.met.S.BlockStore.placed c.make_base.new.store) (g.met.S.BlockStore.tidied c.make_base.new.store)
    c.in_ok-room.ensures.nonrelocatable c.in_ok-carve_nonrelocatable.ensures.ok)

pub returns-in_default-place-clause-place : goal.returns-in_default-place-clause-place
returns-in_default-place-clause-place g c =
    let zone = g.S.BlockStore.zone c.args.store.now in
    let zone1 = g.S.BlockStore.zone c.make_base.new.store in
    let P : Option ℕ → Type 0 = λ o. IsNewPlace o zone zone1 in
    subst P (sym c.in_default-place.is) (went-refused (pointer-refused 0 c.args.size zone)
    (went-unfilled (fresh_nonrelocatable 0 c.args.size) c.in_ok-room.room.place zone1
    (went g (goal.at.returns-in_default-place-clause-place g c).In_ok-room 0) c.in_default-place.is)
    (ap is_some c.in_default-place.is))

pub returns-in_err-room-clause-hears : goal.returns-in_err-room-clause-hears
returns-in_err-room-clause-hears g c =
    let fits = phys-some c.args.size c.in-Some.bytes (sym c.phys.ensures ∙ c.in-Some.is) in
    let hears = c.make_base.ensures.hears (fresh_nonrelocatable 0 c.args.size)
    (fresh-size c.args.size c.in-Some.bytes fits.1 0) in search rules

-- what the sink hears
heard : (g : Over) (c : In_ok-room g) → (done : Type 0)
    → Hears g.K.PurgeSink.told g.K.PurgeSink.waits g.K.PurgeSink.listens done (told_along c.args.names.now nothing
    (seek_pointer 0 c.args.size (g.S.BlockStore.zone c.args.store.now)) (g.S.BlockStore.zone c.args.store.now))
    c.args.sink.now c.make_base.new.sink
heard g c done =
    let zone = g.S.BlockStore.zone c.args.store.now in
    let fits = phys-some c.args.size c.in-Some.bytes (sym c.phys.ensures ∙ c.in-Some.is) in
    hears-as g.K.PurgeSink.told g.K.PurgeSink.waits g.K.PurgeSink.listens _ _ _ _ _ _ (λ some. refl)
    (ap (λ (p : Sought). told_along c.args.names.now nothing p zone) (sym (pointer-fits 0 c.args.size zone fits.0)))
    (c.in_ok-room.ensures.hears (fresh_nonrelocatable 0 c.args.size) (fresh-size c.args.size c.in-Some.bytes fits.1 0))

pub returns-in_err-carve_nonrelocatable-clause-hears : goal.returns-in_err-carve_nonrelocatable-clause-hears
returns-in_err-carve_nonrelocatable-clause-hears g c =
    heard g (goal.at.returns-in_err-carve_nonrelocatable-clause-hears g c).In_ok-room _

pub returns-in_ok-carve_nonrelocatable-clause-hears : goal.returns-in_ok-carve_nonrelocatable-clause-hears
returns-in_ok-carve_nonrelocatable-clause-hears g c =
    heard g (goal.at.returns-in_ok-carve_nonrelocatable-clause-hears g c).In_ok-room _

pub returns-in_default-place-clause-hears : goal.returns-in_default-place-clause-hears
returns-in_default-place-clause-hears g c = heard g (goal.at.returns-in_default-place-clause-hears g c).In_ok-room _
