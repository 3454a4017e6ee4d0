use Rattle.raw_zone.proofs.Cited.{◌≡◌, ℕ, ◌+◌, ◌<◌, ◌≤◌, ◌^◌, Some, sym, ap, ◌∙◌, subst, arith, IfSome, IsSomeAnd, count, is_masters}
use Rattle.raw_zone.proofs.Cited.{resized, size, sizes, Spot, spot_at, filled, grow_up, IsRest, zone_in, IsSound, slot_in, rest_in}
use Rattle.raw_zone.proofs.Cited.{rest-made, sizes-length, Standing, HasRoom, room-fits, resize-made, cut-zone, grown-zone, Held, held}
use Rattle.raw_zone.proofs.Cited.{zone_of, rest_of, with-marks, purgeable_sum, given-parts, given-small}
use Rattle.zone_bytes.proofs.Placed.Sizes.{room-at}
use Rattle.raw_zone.proofs.zone.RawZoneBlockStore.resize.Goals as goal
use Rattle.raw_zone.proofs.zone.RawZoneBlockStore.resize.Goals.{After-resize_block-resized}

-- the block at the place
there : (c : After-resize_block-resized)
    → (s : Spot) × (spot_at c.args.place (zone_in c.self.inside.sound.part.bytes) ≡ Some s)
    × HasRoom c.args.bytes s × Standing c.self.inside.sound.part.bytes c.args.place s
there c =
    room-at _ _ _ c.args.place c.args.bytes c.self.inside.sound.sound
    (subst (λ v. IsSomeAnd (spot_at c.args.place (zone_of v)) (λ s. HasRoom c.args.bytes s))
    (sym c.self.view_is) c.requires)

-- the same, of the zone inside
here : (z view : Held) → z ≡ view → (first unused place bytes : ℕ) → IsSound z.part.bytes first unused
    → IsSomeAnd (spot_at place (zone_of view)) (λ s. HasRoom bytes s)
    → (s : Spot) × (spot_at place (zone_of z) ≡ Some s) × HasRoom bytes s × Standing z.part.bytes place s
here z view is first unused place bytes i room =
    room-at z.part.bytes first unused place bytes i
    (subst (λ v. IsSomeAnd (spot_at place (zone_of v)) (λ s. HasRoom bytes s)) (sym is) room)

pub purgeable_at-given-requires-clause-way : goal.purgeable_at-given-requires-clause-way
purgeable_at-given-requires-clause-way c = (here (held c.self.inside) c.args.self.now c.self.view_is c.self.inside.sound.first
    c.self.inside.sound.unused c.args.place c.args.bytes c.self.inside.sound.sound c.requires).3.way

pub purgeable_at-given-requires-clause-some : goal.purgeable_at-given-requires-clause-some
purgeable_at-given-requires-clause-some c =
    let a = here (held c.self.inside) c.args.self.now c.self.view_is c.self.inside.sound.first c.self.inside.sound.unused c.args.place
    c.args.bytes c.self.inside.sound.sound c.requires in
    let i = a.3.inside in
    let s = a.3.some in
    omega (arith, i, s)

pub given_at-gives-requires : goal.given_at-gives-requires
given_at-gives-requires c =
    let n = c.self.inside in
    let a = here (held c.self.inside) c.args.self.now c.self.view_is c.self.inside.sound.first c.self.inside.sound.unused c.args.place
    c.args.bytes c.self.inside.sound.sound c.requires in
    let l = sizes-length n.sound.part.bytes (zone_in n.sound.part.bytes) (slot_in n.sound.part.bytes) c.self.inside.sound.sound.unused
    c.self.inside.sound.sound.lays in
    let w = ap sizes a.3.whole in
    let m = a.3.small in
    let f = room-fits n.sound.part.bytes c.args.place c.args.bytes a.0 a.3 a.2 (omega (arith, l, w, m)) in
    (a.0.here, sym (c.purgeable_at-given.ensures a.0.here a.0.above a.3.left), omega (arith, f))

pub note-requires : goal.note-requires
note-requires c = (
  zone_in c.self.inside.sound.part.bytes,
  c.resize_block-resized.ensures.replaced c.self.inside.sound.first c.self.inside.sound.unused c.self.inside.sound.sound,
  c.self.invariant.marked,
)

pub invariant_of-self-inside : goal.invariant_of-self-inside
invariant_of-self-inside c =
    let a = there (goal.at.invariant_of-self-inside c).After-resize_block-resized in
    let r = resize-made _ _ _ _ c.args.place c.args.bytes c.self.inside.sound.sound a.0 a.1 a.3 a.2
    c.resize_block-resized.ensures.cut c.resize_block-resized.ensures.grown in
    record { sound = r.made.sound }

-- what the blocks would free, before and afterwards
given : (c : After-resize_block-resized)
    → (purgeable_sum (zone_in c.resize_block-resized.new.part.bytes) + c.purgeable_at-given.result
    ≡ purgeable_sum (zone_in c.self.inside.sound.part.bytes) + c.given_at-gives.result)
    × (c.purgeable_at-given.result ≤ purgeable_sum (zone_in c.self.inside.sound.part.bytes))
    × (purgeable_sum (zone_in c.resize_block-resized.new.part.bytes) < 2 ^ 32)
given c =
    let a = there c in
    let r = resize-made c.self.inside.sound.part.bytes c.resize_block-resized.new.part.bytes c.self.inside.sound.first
    c.self.inside.sound.unused c.args.place c.args.bytes c.self.inside.sound.sound a.0 a.1 a.3 a.2
    c.resize_block-resized.ensures.cut c.resize_block-resized.ensures.grown in
    let z = ap purgeable_sum r.made.zone in
    let w = c.purgeable_at-given.ensures a.0.here a.0.above a.3.left in
    let g = c.given_at-gives.ensures a.0.here (sym w) in
    let p = r.given in
    let h = ap purgeable_sum a.3.whole ∙ given-parts a.0.below a.0.here a.0.above in (
      omega (arith, z, w, g, p),
      omega (arith, w, h),
      given-small c.resize_block-resized.new.part.bytes c.self.inside.sound.first c.self.inside.sound.unused r.made.sound,
    )

pub overflow_sub-self : goal.overflow_sub-self
overflow_sub-self c =
    let g = given (goal.at.overflow_sub-self c).After-resize_block-resized in
    let p = c.self.invariant.purgeable_is in
    let l = g.1 in
    omega (arith, p, l)

pub overflow_add-self : goal.overflow_add-self
overflow_add-self c =
    let g = given (goal.at.overflow_add-self c).After-resize_block-resized in
    let p = c.self.invariant.purgeable_is in
    let e = g.0 in
    let s = g.2 in
    omega (arith, p, e, s)

pub invariant_of-self : goal.invariant_of-self
invariant_of-self c =
    let d = (goal.at.invariant_of-self c).After-resize_block-resized in
    let a = there d in
    let r = resize-made c.self.inside.sound.part.bytes c.resize_block-resized.new.part.bytes c.self.inside.sound.first
    c.self.inside.sound.unused c.args.place c.args.bytes c.self.inside.sound.sound a.0 a.1 a.3 a.2
    c.resize_block-resized.ensures.cut c.resize_block-resized.ensures.grown in
    let g = given d in
    let e = g.0 in
    let l = g.1 in
    let p = c.self.invariant.purgeable_is in
    with-marks _ _ _ _ c.resize_block-resized.ensures.free
    c.note.ensures (omega (arith, e, l, p))

pub returns-clause-cut : goal.returns-clause-cut
returns-clause-cut c =
    let a = there (goal.at.returns-clause-cut c).After-resize_block-resized in
    subst (λ v. IfSome (spot_at c.args.place (zone_of v)) (λ s. size (resized c.args.bytes s.here) ≤ size s.here
    → zone_in c.resize_block-resized.new.part.bytes ≡ filled (resized c.args.bytes s.here) s))
    c.self.view_is (cut-zone c.self.inside.sound.part.bytes c.resize_block-resized.new.part.bytes c.self.inside.sound.first
    c.self.inside.sound.unused
    c.args.place c.args.bytes c.self.inside.sound.sound a.0 a.1 a.3 a.2 c.resize_block-resized.ensures.cut
    c.resize_block-resized.ensures.grown)

pub returns-clause-grown : goal.returns-clause-grown
returns-clause-grown c =
    let a = there (goal.at.returns-clause-grown c).After-resize_block-resized in
    subst (λ v. IfSome (spot_at c.args.place (zone_of v)) (λ s. size s.here < size (resized c.args.bytes s.here)
    → IfSome (grow_up (resized c.args.bytes s.here) s)
    (λ after. zone_in c.resize_block-resized.new.part.bytes ≡ after)))
    c.self.view_is (grown-zone c.self.inside.sound.part.bytes c.resize_block-resized.new.part.bytes c.self.inside.sound.first
    c.self.inside.sound.unused
    c.args.place c.args.bytes c.self.inside.sound.sound a.0 a.1 a.3 a.2 c.resize_block-resized.ensures.cut
    c.resize_block-resized.ensures.grown)

pub returns-clause-rest : goal.returns-clause-rest
returns-clause-rest c =
    let a = there (goal.at.returns-clause-rest c).After-resize_block-resized in
    let r = resize-made c.self.inside.sound.part.bytes c.resize_block-resized.new.part.bytes c.self.inside.sound.first
    c.self.inside.sound.unused
    c.args.place c.args.bytes c.self.inside.sound.sound a.0 a.1 a.3 a.2 c.resize_block-resized.ensures.cut
    c.resize_block-resized.ensures.grown in
    subst (λ v. IsRest (rest_of v) (rest_in c.resize_block-resized.new.part c.self.inside.sound.unused
    c.self.inside.moves c.self.inside.placings))
    c.self.view_is (rest-made c.self.inside.sound.part c.resize_block-resized.new.part (slot_in c.self.inside.sound.part.bytes)
    c.self.inside.sound.unused c.self.inside.moves c.self.inside.placings r.made.slots (ap (count is_masters) r.made.zone ∙ r.masters)
    c.resize_block-resized.ensures.same)
