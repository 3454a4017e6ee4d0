use Rattle.raw_zone.proofs.Cited.{◌≡◌, ap, subst, is_some, IfSome, is_relocatable, taken, Spot, spot, zone_of}
use Rattle.raw_zone.proofs.zone.RawZoneBlockStore.room_above.Goals as goal

pub returns : goal.returns
returns c =
    subst (λ l. IfSome (spot (is_relocatable c.args.number) l)
    (λ (s : Spot). c.has_room_above.result ≡ is_some (taken c.args.bytes s.above)))
    (ap zone_of c.self.view_is) c.has_room_above.ensures
