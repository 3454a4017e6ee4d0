use Rattle.raw_zone.proofs.Cited.{◌≡◌, ◌∙◌, ap, sym, subst, ◌<◌, ◌^◌, IfSome, IsSome, sizes, Spot, spot_at, lowest_purged, segments}
use Rattle.raw_zone.proofs.Cited.{has_free, spared, zone_of, zone_in, way-at, left-at, above-fit, if-spot, a-spot}
use Rattle.raw_zone.proofs.zone.RawZoneBlockStore.run_after.Goals as goal

pub walk_above-requires : goal.walk_above-requires
walk_above-requires c =
    let z = c.self.inside in
    let a = a-spot (spot_at c.args.place (zone_in z.sound.part.bytes))
    (subst (λ v. IsSome (spot_at c.args.place (zone_of v))) (sym c.self.view_is) c.requires) in
    way-at _ _ _ c.self.inside.sound.sound c.args.place a.0 a.1

pub run_has_free_in-requires : goal.run_has_free_in-requires
run_has_free_in-requires c =
    let z = c.self.inside in
    let a = a-spot (spot_at c.args.place (zone_in z.sound.part.bytes))
    (subst (λ v. IsSome (spot_at c.args.place (zone_of v))) (sym c.self.view_is) c.requires) in
    let i = c.self.inside.sound.sound in
    let e = c.walk_above.ensures a.0.here a.0.above (left-at _ _ _ i c.args.place a.0 a.1) in
    subst (λ l. sizes l < 2 ^ 32) (sym e) (above-fit _ _ _ i c.args.place a.0 a.1)

pub returns : goal.returns
returns c =
    let z = c.self.inside in
    let is = λ (s : Spot). c.run_has_free_in.result ≡ has_free c.args.bytes
    (lowest_purged c.args.purges (spared c.args.sparing) (segments s.above).first) in
    subst (λ v. IfSome (spot_at c.args.place (zone_of v)) is) c.self.view_is
    (if-spot (spot_at c.args.place (zone_in z.sound.part.bytes)) is (λ s e. c.run_has_free_in.ensures
    ∙ ap (λ l. has_free c.args.bytes (lowest_purged c.args.purges (spared c.args.sparing) (segments l).first))
    (c.walk_above.ensures s.here s.above (left-at _ _ _ c.self.inside.sound.sound c.args.place s e))))
