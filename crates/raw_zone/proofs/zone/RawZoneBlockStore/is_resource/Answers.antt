use Rattle.raw_zone.proofs.Cited.{◌≡◌, IsTrue, sym, subst, is_used, is_resource, rest_of, a-handle, flag-read}
use Rattle.raw_zone.proofs.zone.RawZoneBlockStore.is_resource.Goals as goal

pub slot_resource-requires : goal.slot_resource-requires
slot_resource-requires c =
    a-handle _ _ _ c.self.inside.sound.sound c.args.number
    (subst (λ v. IsTrue (is_used ((rest_of v).slots c.args.number))) (sym c.self.view_is) c.requires)

pub returns : goal.returns
returns c =
    subst (λ v. c.slot_resource.result ≡ is_resource ((rest_of v).slots c.args.number)) c.self.view_is
    (flag-read _ _ _ c.self.inside.sound.sound c.args.number
    (subst (λ v. IsTrue (is_used ((rest_of v).slots c.args.number))) (sym c.self.view_is) c.requires)
    c.slot_resource.result c.slot_resource.ensures)
