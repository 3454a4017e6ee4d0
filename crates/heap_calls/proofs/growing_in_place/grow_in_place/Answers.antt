use Rattle.heap_calls.proofs.Cited.{◌≡◌, ◌+◌, ◌-◌, ◌≤◌, ◌<◌, ◌++◌, ◌∷◌, ◌⊎◌, inr, ℕ, Bool, true, Some, List, sym, ◌∙◌, ap}
use Rattle.heap_calls.proofs.Cited.{subst, arith, rules, IfSome, IsSome, IsOk, Block, size, resized, segments, Spot, spot_at, grow_up}
use Rattle.heap_calls.proofs.Cited.{growth, has_free, purge, count_of, beyond, spared, Hears, gone_from, pushed_up, run_above}
use Rattle.heap_calls.proofs.Cited.{purges_for, lowest_gone, is_nonrelocatable, has, some_and, edge-behind, IsEdge}
use Rattle.heap_calls.proofs.Cited.{least_or_last-le, not-false, not-true, told_named}
use Rattle.moves.specs.Moves as moves
use Rattle.heap_calls.proofs.Going.{went-up, told-up, went-pushed, told-pushed, went-unpushed, told-unpushed, goes-named, gone-first}
use Rattle.heap_calls.proofs.Hearing.{hears-none, hears-as}
use Rattle.heap_calls.proofs.Sizes.GrowingInPlace.{Grows, grows, spot_if, spot_and, spot-small, up-allowed, up-made, not-up}
use Rattle.heap_calls.proofs.Sizes.GrowingInPlace.{pushed, pushed-allowed, pushed-made, spot_at-above, phys-fits, first-beyond}
use Rattle.heap_calls.proofs.Numbering.Changing.{nonrelocatable-at}
use Rattle.heap_calls.proofs.Room.Staying.{nonrelocatable-grow_up, alike-resized}
use Rattle.heap_calls.proofs.growing_in_place.grow_in_place.Given.{Over}
use Rattle.heap_calls.proofs.growing_in_place.grow_in_place.Goals.{After-has_room_at, After-count_for_run_above-counted}
use Rattle.heap_calls.proofs.growing_in_place.grow_in_place.Goals.{In_ok-resize-2}
use Rattle.heap_calls.proofs.growing_in_place.grow_in_place.Goals as goal

pub padded_size-wanted-requires : goal.padded_size-wanted-requires
padded_size-wanted-requires g c = phys-fits c.args.bytes c.requires.fits

pub overflow_add-place : goal.overflow_add-place
overflow_add-place g c =
    let zone = g.S.BlockStore.zone c.args.store.now in
    let still = some_and (spot_at c.args.place zone) _ c.requires.still in
    let is = spot_if (spot_at c.args.place zone) still.0 (λ s. c.bytes_at-taken.result ≡ size s.here) still.1
    c.bytes_at-taken.ensures in
    omega (arith, is, spot-small c.args.place zone still.0 still.1, g.met.S.BlockStore.small c.args.store.now)

pub has_room_at-requires : goal.has_room_at-requires
has_room_at-requires g c =
    let place = c.args.place in
    let zone = g.S.BlockStore.zone c.args.store.now in
    let still = some_and (spot_at place zone) _ c.requires.still in
    let is = spot_if (spot_at place zone) still.0 (λ s. c.bytes_at-taken.result ≡ size s.here) still.1
    c.bytes_at-taken.ensures in
    subst (λ (n : ℕ). IsEdge (place + n) zone) (sym is) (edge-behind place zone still.0 still.1)

-- what is known of the block
known : (g : Over) (c : After-has_room_at g) → Grows c.args.place (g.S.BlockStore.zone c.args.store.now) c.args.bytes
    (c.padded_size-wanted.result - c.bytes_at-taken.result) c.has_room_at.result
known g c = grows c.args.place (g.S.BlockStore.zone c.args.store.now) c.args.bytes c.bytes_at-taken.result
    c.padded_size-wanted.result c.has_room_at.result c.requires.still c.requires.lowest c.requires.grows
    c.bytes_at-taken.ensures c.padded_size-wanted.ensures c.has_room_at.ensures

-- what resizing asks of a spot
abbrev Resizes : ℕ → Spot → Type 0
Resizes n s = (size (resized n s.here) ≤ size s.here) ⊎ IsSome (grow_up (resized n s.here) s)

-- The free block above it serves.

pub resize-requires : goal.resize-requires
resize-requires g c =
    let k = known g (goal.at.resize-requires g c).After-has_room_at in
    spot_and (spot_at c.args.place (g.S.BlockStore.zone c.args.store.now)) k.s (Resizes c.args.bytes) k.at
    (inr (up-allowed (resized c.args.bytes k.s.here) k.s (sym k.up_is ∙ c.if-has_room_at.true)))

-- the block grew
grew : (place n more : ℕ) (up : Bool) (zone zone' : List Block) (k : Grows place zone n more up) → up ≡ true
    → IfSome (spot_at place zone) (λ s. size s.here < size (resized n s.here)
    → IfSome (grow_up (resized n s.here) s) (λ after. zone' ≡ after)) → grow_up (resized n k.s.here) k.s ≡ Some zone'
grew place n more up zone zone' k is done =
    let P : Spot → Type 0 = λ s. size s.here < size (resized n s.here)
    → IfSome (grow_up (resized n s.here) s) (λ after. zone' ≡ after) in
    let now : P k.s = spot_if (spot_at place zone) k.s P k.at done in
    up-made (resized n k.s.here) k.s zone' (sym k.up_is ∙ is) (now k.less)

pub returns-then-has_room_at-clause-went : goal.returns-then-has_room_at-clause-went
returns-then-has_room_at-clause-went g c =
    let zone = g.S.BlockStore.zone c.args.store.now in
    let zone' = g.S.BlockStore.zone c.resize.new.self in
    let k = known g (goal.at.returns-then-has_room_at-clause-went g c).After-has_room_at in
    went-up c.args.place c.args.bytes (spared c.args.sparing) zone k.s k.at k.here (g.S.BlockStore.rest c.args.store.now)
    (g.S.BlockStore.rest c.resize.new.self) c.resize.ensures.rest.moves zone'
    (grew c.args.place c.args.bytes _ c.has_room_at.result zone zone' k c.if-has_room_at.true c.in_ok-resize.ensures.grown)

pub returns-then-has_room_at-clause-nonrelocatable : goal.returns-then-has_room_at-clause-nonrelocatable
returns-then-has_room_at-clause-nonrelocatable g c place =
    let zone = g.S.BlockStore.zone c.args.store.now in
    let zone' = g.S.BlockStore.zone c.resize.new.self in
    let k = known g (goal.at.returns-then-has_room_at-clause-nonrelocatable g c).After-has_room_at in
    let up = grew c.args.place c.args.bytes _ c.has_room_at.result zone zone' k c.if-has_room_at.true
    c.in_ok-resize.ensures.grown in
    nonrelocatable-at c.args.place zone zone' k.s k.at
    (nonrelocatable-grow_up (resized c.args.bytes k.s.here) k.s zone' (alike-resized c.args.bytes k.s.here) up) place

pub returns-then-has_room_at-clause-hears : goal.returns-then-has_room_at-clause-hears
returns-then-has_room_at-clause-hears g c =
    let k = known g (goal.at.returns-then-has_room_at-clause-hears g c).After-has_room_at in
    hears-none g.K.PurgeSink.told g.K.PurgeSink.waits g.K.PurgeSink.listens _ _ c.args.sink.now c.requires.idle
    (told-up c.args.place c.args.bytes (spared c.args.sparing) (g.S.BlockStore.zone c.args.store.now) k.s k.at k.here
    c.args.names.now (up-allowed (resized c.args.bytes k.s.here) k.s (sym k.up_is ∙ c.if-has_room_at.true)))

-- The run above it is searched.

-- the least number of purges there, and whether the run then has the bytes
pub record Counts (n k : ℕ) (there : Bool) (sp : Block → Bool) (s : Spot) : Type 0 where
  pub least : k ≡ purges_for (has_free (growth (resized n s.here) s)) sp (segments s.above).first
  pub enough : there ≡ has_free (growth (resized n s.here) s) (run_above k sp s)
  pub few : k ≤ count_of sp (segments s.above).first

counted : (g : Over) (c : After-count_for_run_above-counted g) (k : Grows c.args.place
    (g.S.BlockStore.zone c.args.store.now) c.args.bytes (c.padded_size-wanted.result - c.bytes_at-taken.result)
    c.has_room_at.result) → Counts c.args.bytes c.count_for_run_above-counted.result.purges
    c.count_for_run_above-counted.result.there (spared c.args.sparing) k.s
counted g c k =
    let at = spot_at c.args.place (g.S.BlockStore.zone c.args.store.now) in
    let sp = spared c.args.sparing in
    let more = c.padded_size-wanted.result - c.bytes_at-taken.result in
    let many = c.count_for_run_above-counted in
    let run = (segments k.s.above).first in
    let least = spot_if at k.s (λ s. many.result.purges ≡ purges_for (has_free more) sp (segments s.above).first) k.at
    many.ensures.least in
    record {
      least = least ∙ ap (λ d. purges_for (has_free d) sp run) k.more_is;
      enough = spot_if at k.s (λ s. many.result.there ≡ has_free more (run_above many.result.purges sp s)) k.at
          many.ensures.there ∙ ap (λ d. has_free d (run_above many.result.purges sp k.s)) k.more_is;
      few = omega (arith, least, least_or_last-le (λ j. has_free more (purge j sp run)) (count_of sp run));
    }

pub returns-then-not-counted-clause-went : goal.returns-then-not-counted-clause-went
returns-then-not-counted-clause-went g c =
    let at = goal.at.returns-then-not-counted-clause-went g c in
    let k = known g at.After-has_room_at in
    let many = counted g at.After-count_for_run_above-counted k in
    went-unpushed c.args.place c.args.bytes (spared c.args.sparing) (g.S.BlockStore.zone c.args.store.now) k.s k.at k.here
    c.count_for_run_above-counted.result.purges many.least
    (not-up (resized c.args.bytes k.s.here) k.s (sym k.up_is ∙ c.if-has_room_at.false))
    (sym many.enough ∙ not-true c.count_for_run_above-counted.result.there c.if-not-counted.true)
    (g.S.BlockStore.rest c.args.store.now)

pub returns-then-not-counted-clause-hears : goal.returns-then-not-counted-clause-hears
returns-then-not-counted-clause-hears g c =
    let at = goal.at.returns-then-not-counted-clause-hears g c in
    let k = known g at.After-has_room_at in
    let many = counted g at.After-count_for_run_above-counted k in
    hears-none g.K.PurgeSink.told g.K.PurgeSink.waits g.K.PurgeSink.listens _ _ c.args.sink.now c.requires.idle
    (told-unpushed c.args.place c.args.bytes (spared c.args.sparing) (g.S.BlockStore.zone c.args.store.now) k.s k.at
    k.here c.count_for_run_above-counted.result.purges many.least
    (not-up (resized c.args.bytes k.s.here) k.s (sym k.up_is ∙ c.if-has_room_at.false))
    (sym many.enough ∙ not-true c.count_for_run_above-counted.result.there c.if-not-counted.true) c.args.names.now)

pub push_up-requires-clause-room : goal.push_up-requires-clause-room
push_up-requires-clause-room g c =
    let sp = spared c.args.sparing in
    let at = goal.at.push_up-requires-clause-room g c in
    let k = known g at.After-has_room_at in
    let many = counted g at.After-count_for_run_above-counted k in
    let purges = c.count_for_run_above-counted.result.purges in
    let Has : ℕ → Type 0 = λ d. has_free d (purge purges sp (segments k.s.above).first) ≡ true in
    spot_and (spot_at c.args.place (g.S.BlockStore.zone c.args.store.now)) k.s
    (λ s. (purges ≤ count_of sp (segments s.above).first)
    × (has_free (c.padded_size-wanted.result - c.bytes_at-taken.result) (purge purges sp (segments s.above).first) ≡ true))
    k.at (
      many.few,
      subst Has (sym k.more_is) (sym many.enough
          ∙ not-false c.count_for_run_above-counted.result.there c.if-not-counted.false),
    )

-- the spot after the run above was packed upward
spot-pushed : (place : ℕ) (zone zone' : List Block) (n more : ℕ) (up : Bool) (k : Grows place zone n more up)
    (purges : ℕ) (sp : Block → Bool)
    → IfSome (spot_at place zone) (λ s. zone' ≡ s.below ++ s.here ∷ pushed_up more purges sp s.above)
    → spot_at place zone' ≡ Some (pushed (growth (resized n k.s.here) k.s) purges sp k.s)
spot-pushed place zone zone' n more up k purges sp h =
    let is : zone' ≡ k.s.below ++ k.s.here ∷ pushed_up more purges sp k.s.above =
    spot_if (spot_at place zone) k.s (λ s. zone' ≡ s.below ++ s.here ∷ pushed_up more purges sp s.above) k.at h in
    ap (spot_at place) is ∙ spot_at-above place zone k.s k.at (pushed_up more purges sp k.s.above)
    ∙ ap (λ d. Some (pushed d purges sp k.s)) k.more_is

pub resize-requires-2 : goal.resize-requires-2
resize-requires-2 g c =
    let zone = g.S.BlockStore.zone c.args.store.now in
    let zone1 = g.S.BlockStore.zone c.push_up.new.store in
    let sp = spared c.args.sparing in
    let k = known g (goal.at.resize-requires-2 g c).After-has_room_at in
    let new = resized c.args.bytes k.s.here in
    let purges = c.count_for_run_above-counted.result.purges in
    spot_and (spot_at c.args.place zone1) (pushed (growth new k.s) purges sp k.s) (Resizes c.args.bytes)
    (spot-pushed c.args.place zone zone1 c.args.bytes _ c.has_room_at.result k purges sp c.in_ok-push_up.ensures.zone)
    (inr (pushed-allowed c.args.place zone (g.met.S.BlockStore.tidied c.args.store.now) k.s k.at k.ends purges sp new
    k.less))

-- the block grew into it
pushed-grew : (g : Over) (c : In_ok-resize-2 g) (k : Grows c.args.place (g.S.BlockStore.zone c.args.store.now)
    c.args.bytes (c.padded_size-wanted.result - c.bytes_at-taken.result) c.has_room_at.result)
    → (grow_up (resized c.args.bytes k.s.here) (pushed (growth (resized c.args.bytes k.s.here) k.s)
    c.count_for_run_above-counted.result.purges (spared c.args.sparing) k.s) ≡ Some (g.S.BlockStore.zone c.resize-2.new.self))
    × (g.S.BlockStore.zone c.resize-2.new.self ≡ moves.pushed c.count_for_run_above-counted.result.purges
    (spared c.args.sparing) (resized c.args.bytes k.s.here) k.s)
pushed-grew g c k =
    let zone = g.S.BlockStore.zone c.args.store.now in
    let zone1 = g.S.BlockStore.zone c.push_up.new.store in
    let zone' = g.S.BlockStore.zone c.resize-2.new.self in
    let sp = spared c.args.sparing in
    let new = resized c.args.bytes k.s.here in
    let purges = c.count_for_run_above-counted.result.purges in
    let P : Spot → Type 0 = λ s. size s.here < size (resized c.args.bytes s.here)
    → IfSome (grow_up (resized c.args.bytes s.here) s) (λ after. zone' ≡ after) in
    let there : P (pushed (growth new k.s) purges sp k.s) =
    spot_if (spot_at c.args.place zone1) (pushed (growth new k.s) purges sp k.s) P
    (spot-pushed c.args.place zone zone1 c.args.bytes _ c.has_room_at.result k purges sp c.in_ok-push_up.ensures.zone)
    c.in_ok-resize-2.ensures.grown in
    pushed-made c.args.place zone (g.met.S.BlockStore.tidied c.args.store.now) k.s k.at k.ends purges sp new k.less zone'
    (there k.less)

pub returns-clause-went : goal.returns-clause-went
returns-clause-went g c =
    let at = goal.at.returns-clause-went g c in
    let k = known g at.After-has_room_at in
    let many = counted g at.After-count_for_run_above-counted k in
    went-pushed c.args.place c.args.bytes (spared c.args.sparing) (g.S.BlockStore.zone c.args.store.now) k.s k.at k.here
    c.count_for_run_above-counted.result.purges many.least
    (not-up (resized c.args.bytes k.s.here) k.s (sym k.up_is ∙ c.if-has_room_at.false))
    (sym many.enough ∙ not-false c.count_for_run_above-counted.result.there c.if-not-counted.false)
    (g.S.BlockStore.rest c.args.store.now) (g.S.BlockStore.rest c.resize-2.new.self)
    (c.resize-2.ensures.rest.moves ∙ c.push_up.ensures.rest.moves) (g.S.BlockStore.zone c.resize-2.new.self)
    (pushed-grew g at.In_ok-resize-2 k).1

pub returns-in_err-resize-2-clause-nonrelocatable : goal.returns-in_err-resize-2-clause-nonrelocatable
returns-in_err-resize-2-clause-nonrelocatable g c place = ap (has (is_nonrelocatable place)) c.in_err-resize-2.ensures.err
    ∙ c.push_up.ensures.nonrelocatable place

pub returns-clause-nonrelocatable : goal.returns-clause-nonrelocatable
returns-clause-nonrelocatable g c place =
    let zone = g.S.BlockStore.zone c.args.store.now in
    let zone1 = g.S.BlockStore.zone c.push_up.new.store in
    let zone' = g.S.BlockStore.zone c.resize-2.new.self in
    let sp = spared c.args.sparing in
    let at = goal.at.returns-clause-nonrelocatable g c in
    let k = known g at.After-has_room_at in
    let new = resized c.args.bytes k.s.here in
    let purges = c.count_for_run_above-counted.result.purges in
    nonrelocatable-at c.args.place zone1 zone' (pushed (growth new k.s) purges sp k.s)
    (spot-pushed c.args.place zone zone1 c.args.bytes _ c.has_room_at.result k purges sp c.in_ok-push_up.ensures.zone)
    (nonrelocatable-grow_up new (pushed (growth new k.s) purges sp k.s) zone' (alike-resized c.args.bytes k.s.here)
    (pushed-grew g at.In_ok-resize-2 k).0) place ∙ c.push_up.ensures.nonrelocatable place

pub returns-clause-hears : goal.returns-clause-hears
returns-clause-hears g c =
    let zone = g.S.BlockStore.zone c.args.store.now in
    let es = c.args.names.now in
    let sp = spared c.args.sparing in
    let K = g.K.PurgeSink in
    let at = goal.at.returns-clause-hears g c in
    let k = known g at.After-has_room_at in
    let many = counted g at.After-count_for_run_above-counted k in
    let purges = c.count_for_run_above-counted.result.purges in
    let run = (segments k.s.above).first in
    let heard = spot_if (spot_at c.args.place zone) k.s (λ s. Hears K.told K.waits K.listens (IsOk c.push_up.result)
    (gone_from es c.args.sparing purges s.above) c.args.sink.now c.push_up.new.sink) k.at c.push_up.ensures.hears in
    hears-as K.told K.waits K.listens _ _ _ _ c.args.sink.now c.push_up.new.sink (λ done. search rules)
    (goes-named es c.args.sparing c.requires.whole purges k.s.above
    ∙ ap (told_named es) (ap (lowest_gone purges sp) (first-beyond k.s.above)
    ∙ gone-first purges sp run (beyond (segments k.s.above).rest) many.few)
    ∙ sym (told-pushed c.args.place c.args.bytes sp zone k.s k.at k.here purges many.least
    (not-up (resized c.args.bytes k.s.here) k.s (sym k.up_is ∙ c.if-has_room_at.false))
    (sym many.enough ∙ not-false c.count_for_run_above-counted.result.there c.if-not-counted.false) es)) heard
