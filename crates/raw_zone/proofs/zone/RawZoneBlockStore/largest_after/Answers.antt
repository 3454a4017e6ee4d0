use Rattle.raw_zone.proofs.Cited.{◌∙◌, ap, sym, arith, largest_free, purged, zone_of, zone_in, stands-still}
use Rattle.block_store.specs.declared.sparing.Sparing.TheVariants as sparing
use Rattle.raw_zone.proofs.zone.RawZoneBlockStore.largest_after.Goals as goal

pub returns-then-self-eq0 : goal.returns-then-self-eq0
returns-then-self-eq0 c =
    let b = c.self.invariant.purgeable_is in
    let z = c.if-self-eq0.true in
    c.largest_free.ensures
    ∙ sym (ap largest_free (stands-still c.args.purges (zone_in c.self.inside.sound.part.bytes) c.self.inside.sound.sound.tidied
    (omega (arith, b, z))))
    ∙ ap (λ v. largest_free (purged c.args.purges sparing.Nothing (zone_of v))) c.self.view_is

pub returns : goal.returns
returns c = c.largest_after.ensures
    ∙ ap (λ v. largest_free (purged c.args.purges sparing.Nothing (zone_of v))) c.self.view_is
