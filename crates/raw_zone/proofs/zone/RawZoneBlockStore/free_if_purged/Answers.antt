use Rattle.raw_zone.proofs.Cited.{◌≡◌, ◌+◌, subst, arith, free_sum, most_purges, purged, zone_of, zone_in, all-given, given-fits}
use Rattle.block_store.specs.declared.sparing.Sparing.TheVariants as sparing
use Rattle.raw_zone.proofs.zone.RawZoneBlockStore.free_if_purged.Goals as goal

pub overflow_add-result : goal.overflow_add-result
overflow_add-result c =
    let f = c.self.invariant.free_is in
    let p = c.self.invariant.purgeable_is in
    let g = given-fits _ _ _ c.self.inside.sound.sound in
    omega (arith, f, p, g)

pub returns : goal.returns
returns c =
    let z = c.self.inside in
    let f = c.self.invariant.free_is in
    let p = c.self.invariant.purgeable_is in
    let a = all-given (zone_in z.sound.part.bytes) in
    subst (λ v. z.free + z.purgeable ≡ free_sum (purged (most_purges sparing.Nothing (zone_of v)) sparing.Nothing (zone_of v)))
    c.self.view_is (omega (arith, a, f, p))
