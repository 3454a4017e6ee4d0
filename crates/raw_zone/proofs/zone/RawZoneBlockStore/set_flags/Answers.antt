use Rattle.raw_zone.proofs.Cited.{◌≡◌, ℕ, ◌<◌, ◌∙◌, ◌++◌, ◌∷◌, Some, length, ap, sym, subst, arith, IfSome, IsSome, count, is_masters}
use Rattle.raw_zone.proofs.Cited.{free_sum, Spot, spot_at, IsRest, with_flags, size-flags, zone_in, IsOnWay, IsSound, slot_in, Held, held}
use Rattle.raw_zone.proofs.Cited.{zone_of, rest_of, rest_in, whole, low, way-at, left-at, inside, some-here, if-spot, a-spot, Made}
use Rattle.raw_zone.proofs.Cited.{rest-made, kept-made, flagged-made, masters-flagged, free-flagged, with-marks, Became, purgeable_of}
use Rattle.raw_zone.proofs.zone.RawZoneBlockStore.set_flags.Goals as goal
use Rattle.raw_zone.proofs.zone.RawZoneBlockStore.set_flags.Goals.{After-flag_at}

-- what is known of the place, of the zone inside
module _ (z view : Held) (is : z ≡ view) (first unused place : ℕ) (i : IsSound z.part.bytes first unused)
    (some : IsSome (spot_at place (zone_of view))) where
  here : (s : Spot) × (spot_at place (zone_of z) ≡ Some s)
  here = a-spot (spot_at place (zone_of z)) (subst (λ v. IsSome (spot_at place (zone_of v))) (sym is) some)

  way : IsOnWay place z.part.bytes
  way = way-at z.part.bytes first unused i place here.0 here.1

  below-end : place < length z.part.bytes
  below-end =
      let m = inside z.part.bytes first unused i place here.0 here.1 in
      let s = some-here z.part.bytes first unused i place here.0 here.1 in
      omega (arith, m, s)

pub purgeable_at-given-requires-clause-way : goal.purgeable_at-given-requires-clause-way
purgeable_at-given-requires-clause-way c = way (held c.self.inside) c.args.self.now c.self.view_is c.self.inside.sound.first
    c.self.inside.sound.unused c.args.place c.self.inside.sound.sound c.requires

pub purgeable_at-given-requires-clause-some : goal.purgeable_at-given-requires-clause-some
purgeable_at-given-requires-clause-some c = below-end (held c.self.inside) c.args.self.now c.self.view_is c.self.inside.sound.first
    c.self.inside.sound.unused c.args.place c.self.inside.sound.sound c.requires

pub flag_at-requires-clause-way : goal.flag_at-requires-clause-way
flag_at-requires-clause-way c = way (held c.self.inside) c.args.self.now c.self.view_is c.self.inside.sound.first
    c.self.inside.sound.unused c.args.place c.self.inside.sound.sound c.requires

pub flag_at-requires-clause-some : goal.flag_at-requires-clause-some
flag_at-requires-clause-some c = below-end (held c.self.inside) c.args.self.now c.self.view_is c.self.inside.sound.first
    c.self.inside.sound.unused c.args.place c.self.inside.sound.sound c.requires

-- the zone afterwards
done : (c : After-flag_at) → (s : Spot) × (spot_at c.args.place (zone_in c.self.inside.sound.part.bytes) ≡ Some s)
    × Made c.flag_at.new.part.bytes c.self.inside.sound.first c.self.inside.sound.unused
    (s.below ++ with_flags c.args.flags s.here ∷ s.above) (slot_in c.self.inside.sound.part.bytes)
done c =
    let z = c.self.inside in
    let i = c.self.inside.sound.sound in
    let a = here (held z) c.args.self.now c.self.view_is z.sound.first z.sound.unused c.args.place i c.requires in (
      a.0,
      a.1,
      rw c.flag_at.ensures.bytes (flagged-made _ _ _ i c.args.place c.args.flags a.0.below a.0.here
          a.0.above (whole _ _ _ i c.args.place a.0 a.1) (low _ _ _ i c.args.place a.0 a.1)),
    )

abbrev became : (c : After-flag_at) → Became c.args.place (zone_in c.self.inside.sound.part.bytes) (zone_in c.flag_at.new.part.bytes)
became c =
    let i = c.self.inside.sound.sound in
    let d = done c in record {
      below = d.0.below;
      here = d.0.here;
      there = with_flags c.args.flags d.0.here;
      above = d.0.above;
      was = whole _ _ _ i c.args.place d.0 d.1;
      is = d.2.zone;
      low = low _ _ _ i c.args.place d.0 d.1;
      span = size-flags c.args.flags d.0.here;
    }

given : (c : After-flag_at) → c.purgeable_at-given.result ≡ purgeable_of (done c).0.here
given c =
    let d = done c in
    c.purgeable_at-given.ensures d.0.here d.0.above (left-at _ _ _ c.self.inside.sound.sound c.args.place d.0 d.1)

pub note_flags-requires : goal.note_flags-requires
note_flags-requires c = (
  zone_in c.self.inside.sound.part.bytes,
  became (goal.at.note_flags-requires c).After-flag_at,
  c.self.invariant.marked,
)

pub purgeable_with-self-inside-requires : goal.purgeable_with-self-inside-requires
purgeable_with-self-inside-requires c =
    let d = (goal.at.purgeable_with-self-inside-requires c).After-flag_at in
    (zone_in c.self.inside.sound.part.bytes, became d, given d, c.self.invariant.purgeable_is)

pub invariant_of-self-inside : goal.invariant_of-self-inside
invariant_of-self-inside c = record { sound = (done (goal.at.invariant_of-self-inside c).After-flag_at).2.sound }

pub invariant_of-self : goal.invariant_of-self
invariant_of-self c =
    let d = (goal.at.invariant_of-self c).After-flag_at in
    let b = became d in
    with-marks _ _ _ _ (kept-made _ _ _ _ _ _ (done d).2 (c.self.invariant.free_is ∙ ap free_sum b.was
    ∙ sym (free-flagged c.args.flags b.below b.here b.above))) c.note_flags.ensures
    (c.purgeable_with-self-inside.ensures (zone_in c.self.inside.sound.part.bytes) b (given d) c.self.invariant.purgeable_is)

pub returns-clause-zone : goal.returns-clause-zone
returns-clause-zone c =
    let xs = c.self.inside.sound.part.bytes in
    subst (λ v. IfSome (spot_at c.args.place (zone_of v))
    (λ s. zone_in c.flag_at.new.part.bytes ≡ s.below ++ with_flags c.args.flags s.here ∷ s.above)) c.self.view_is
    (if-spot (spot_at c.args.place (zone_in xs))
    (λ s. zone_in c.flag_at.new.part.bytes ≡ s.below ++ with_flags c.args.flags s.here ∷ s.above) (λ s e.
    ap zone_in c.flag_at.ensures.bytes ∙ (flagged-made _ _ _ c.self.inside.sound.sound
    c.args.place c.args.flags s.below s.here s.above (whole _ _ _ c.self.inside.sound.sound c.args.place s
    e) (low _ _ _ c.self.inside.sound.sound c.args.place s e)).zone))

pub returns-clause-rest : goal.returns-clause-rest
returns-clause-rest c =
    let a = a-spot (spot_at c.args.place (zone_in c.self.inside.sound.part.bytes))
    (subst (λ v. IsSome (spot_at c.args.place (zone_of v))) (sym c.self.view_is) c.requires) in
    let m = flagged-made _ _ _ c.self.inside.sound.sound c.args.place c.args.flags a.0.below a.0.here a.0.above
    (whole _ _ _ c.self.inside.sound.sound c.args.place a.0 a.1) (low _ _ _ c.self.inside.sound.sound c.args.place a.0 a.1) in
    subst (λ v. IsRest (rest_of v) (rest_in c.flag_at.new.part c.self.inside.sound.unused c.self.inside.moves c.self.inside.placings))
    c.self.view_is (rest-made c.self.inside.sound.part c.flag_at.new.part (slot_in c.self.inside.sound.part.bytes)
    c.self.inside.sound.unused c.self.inside.moves c.self.inside.placings (rw c.flag_at.ensures.bytes m.slots)
    (ap (λ ys. count is_masters (zone_in ys)) c.flag_at.ensures.bytes ∙ ap (count is_masters) m.zone
    ∙ masters-flagged c.args.flags a.0.below a.0.here a.0.above ∙ ap (count is_masters) (sym (whole _ _ _
    c.self.inside.sound.sound c.args.place a.0 a.1))) c.flag_at.ensures.same)
