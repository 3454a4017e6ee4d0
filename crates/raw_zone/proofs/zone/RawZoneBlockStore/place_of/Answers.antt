use Rattle.raw_zone.proofs.Cited.{IsTrue, sym, subst, is_relocatable, FindsLowest, is_used, zone_of, rest_of, a-handle, place-found}
use Rattle.raw_zone.proofs.zone.RawZoneBlockStore.place_of.Goals as goal

pub slot_place-requires : goal.slot_place-requires
slot_place-requires c =
    a-handle _ _ _ c.self.inside.sound.sound c.args.number
    (subst (λ v. IsTrue (is_used ((rest_of v).slots c.args.number))) (sym c.self.view_is) c.requires)

pub returns : goal.returns
returns c =
    subst (λ v. FindsLowest (is_relocatable c.args.number) (zone_of v) c.slot_place.result) c.self.view_is
    (place-found _ _ _ c.self.inside.sound.sound c.args.number
    (subst (λ v. IsTrue (is_used ((rest_of v).slots c.args.number))) (sym c.self.view_is) c.requires)
    c.slot_place.result c.slot_place.ensures)
