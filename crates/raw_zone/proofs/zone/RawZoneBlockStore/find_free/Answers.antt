use Rattle.raw_zone.proofs.Cited.{◌≡◌, None, subst, arith, is_room, spot, zone_of, zone_in, no-room}
use Rattle.raw_zone.proofs.zone.RawZoneBlockStore.find_free.Goals as goal

pub returns-then-self-bytes : goal.returns-then-self-bytes
returns-then-self-bytes c =
    let f = c.self.invariant.free_is in
    let l = c.if-self-bytes.true in
    subst (λ v. spot (is_room c.args.bytes) (zone_of v) ≡ None) c.self.view_is
    (no-room c.args.bytes (zone_in c.self.inside.sound.part.bytes) (omega (arith, f, l)))
