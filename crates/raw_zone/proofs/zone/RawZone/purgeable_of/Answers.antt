use Rattle.raw_zone.proofs.Cited.{◌≡◌, Some, ap, sym, ◌∙◌, subst, arith, spot_at, purgeable_at, way-at, left-at, inside, some-here, zone_of}
use Rattle.raw_zone.proofs.zone.RawZone.purgeable_of.Goals as goal

pub purgeable_at-requires-clause-way : goal.purgeable_at-requires-clause-way
purgeable_at-requires-clause-way c =
    let a = c.in-Some.ensures in
    way-at _ _ _ c.self.inside.sound.sound c.in-Some.place a.0
    (subst (λ v. spot_at c.in-Some.place (zone_of v) ≡ Some a.0) (sym c.self.view_is) a.2)

pub purgeable_at-requires-clause-some : goal.purgeable_at-requires-clause-some
purgeable_at-requires-clause-some c =
    let a = c.in-Some.ensures in
    let e = subst (λ v. spot_at c.in-Some.place (zone_of v) ≡ Some a.0) (sym c.self.view_is) a.2 in
    let i = inside _ _ _ c.self.inside.sound.sound c.in-Some.place a.0 e in
    let m = some-here _ _ _ c.self.inside.sound.sound c.in-Some.place a.0 e in
    omega (arith, i, m)

pub returns-in-Some : goal.returns-in-Some
returns-in-Some c =
    let a = c.in-Some.ensures in
    let e = subst (λ v. spot_at c.in-Some.place (zone_of v) ≡ Some a.0) (sym c.self.view_is) a.2 in
    c.purgeable_at.ensures a.0.here a.0.above (left-at _ _ _ c.self.inside.sound.sound c.in-Some.place a.0 e)
    ∙ ap purgeable_at (sym a.1)
