use Rattle.raw_zone.proofs.Cited.{◌≡◌, sym, subst, arith, IfSome, IsSome, content_of, spot_at, zone_in, zone_of, way-at, left-at, inside}
use Rattle.raw_zone.proofs.Cited.{some-here, if-spot, a-spot}
use Rattle.raw_zone.proofs.zone.RawZoneBlockStore.bytes.Goals as goal

pub content_at-requires-clause-way : goal.content_at-requires-clause-way
content_at-requires-clause-way c =
    let a = a-spot (spot_at c.args.place (zone_in c.self.inside.sound.part.bytes))
    (subst (λ v. IsSome (spot_at c.args.place (zone_of v))) (sym c.self.view_is) c.requires) in
    way-at _ _ _ c.self.inside.sound.sound c.args.place a.0 a.1

pub content_at-requires-clause-some : goal.content_at-requires-clause-some
content_at-requires-clause-some c =
    let a = a-spot (spot_at c.args.place (zone_in c.self.inside.sound.part.bytes))
    (subst (λ v. IsSome (spot_at c.args.place (zone_of v))) (sym c.self.view_is) c.requires) in
    let i = inside _ _ _ c.self.inside.sound.sound c.args.place a.0 a.1 in
    let s = some-here _ _ _ c.self.inside.sound.sound c.args.place a.0 a.1 in
    omega (arith, i, s)

pub returns : goal.returns
returns c = subst (λ v. IfSome (spot_at c.args.place (zone_of v)) (λ s. c.content_at.result.now ≡ content_of s.here))
    c.self.view_is (if-spot (spot_at c.args.place (zone_in c.self.inside.sound.part.bytes))
    (λ s. c.content_at.result.now ≡ content_of s.here)
    (λ s e. c.content_at.ensures s.here s.above (left-at _ _ _ c.self.inside.sound.sound c.args.place s e)))
