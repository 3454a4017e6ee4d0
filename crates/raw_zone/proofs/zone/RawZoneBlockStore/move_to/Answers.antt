use Rattle.raw_zone.proofs.Cited.{◌∙◌, ℕ, IsTrue, sym, subst, IsSome, IsSomeAnd, padded, is_relocatable, is_room, spot, spot_at, is_used}
use Rattle.raw_zone.proofs.Cited.{RoomAt, room-at, is-used, copies-to, stands, no-block, moved, zone_in, Held, zone_of, rest_of}
use Rattle.raw_zone.proofs.Cited.{zone-no_block}
use Rattle.block_store.proofs.Content.MovedInSteps.{still}
use Rattle.raw_zone.proofs.zone.RawZoneBlockStore.move_to.Goals as goal

room : (z : Held) (place bytes : ℕ)
    → IsSomeAnd (spot_at place (zone_of z)) (λ s. IsTrue (is_room (padded bytes) s.here))
    → RoomAt place (padded bytes) (zone_of z)
room z place bytes h = room-at place (padded bytes) (zone_of z) h

used : (z : Held) (number : ℕ) → IsSome (spot (is_relocatable number) (zone_of z))
    → IsTrue (is_used ((rest_of z).slots number))
used z number some = is-used (is_used ((rest_of z).slots number)) number (zone_of z) (zone-no_block z number) some

pub block_of-old-requires : goal.block_of-old-requires
block_of-old-requires c =
    let a = c.args in
    still a.number a.place a.bytes (zone_of a.self.now) (room a.self.now a.place a.bytes c.requires.room)
    (zone_of c.carve_nonrelocatable.new.self) c.in_ok-carve_nonrelocatable.ensures.ok c.requires.block

pub copy-requires-clause-within : goal.copy-requires-clause-within
copy-requires-clause-within c =
    let a = c.args in
    let old = c.block_of-old.result in
    copies-to a.number a.place a.bytes (zone_of a.self.now) (room a.self.now a.place a.bytes c.requires.room)
    (zone_of c.carve_nonrelocatable.new.self) c.in_ok-carve_nonrelocatable.ensures.ok old.place old.length old.flags
    c.block_of-old.ensures.place c.block_of-old.ensures.block c.min.result c.min.ensures

pub release-requires : goal.release-requires
release-requires c =
    let n = c.args.number in
    subst (λ st. IsTrue (is_used st)) (sym (c.copy.ensures.rest.slots n ∙ c.carve_nonrelocatable.ensures.rest.slots n))
    (used c.args.self.now n c.requires.block)

pub adopt-requires-clause-block : goal.adopt-requires-clause-block
adopt-requires-clause-block c =
    let a = c.args in
    let old = c.block_of-old.result in
    stands a.number a.place a.bytes (zone_of a.self.now) (room a.self.now a.place a.bytes c.requires.room)
    (zone_of c.carve_nonrelocatable.new.self) c.in_ok-carve_nonrelocatable.ensures.ok old.place old.length old.flags
    c.block_of-old.ensures.place c.block_of-old.ensures.block c.min.result c.min.ensures (zone_of c.copy.new.self)
    c.copy.ensures.zone (zone_of c.release.new.self) c.release.ensures.zone

pub adopt-requires-clause-used : goal.adopt-requires-clause-used
adopt-requires-clause-used c =
    let n = c.args.number in
    subst (λ st. IsTrue (is_used st))
    (sym (c.release.ensures.rest.slots n ∙ c.copy.ensures.rest.slots n ∙ c.carve_nonrelocatable.ensures.rest.slots n))
    (used c.args.self.now n c.requires.block)

pub adopt-requires-clause-no_block : goal.adopt-requires-clause-no_block
adopt-requires-clause-no_block c =
    let a = c.args in
    let old = c.block_of-old.result in
    no-block a.number a.place a.bytes (zone_of a.self.now) (room a.self.now a.place a.bytes c.requires.room)
    (zone_of c.carve_nonrelocatable.new.self) c.in_ok-carve_nonrelocatable.ensures.ok old.place old.length old.flags
    c.block_of-old.ensures.place c.block_of-old.ensures.block c.min.result c.min.ensures (zone_of c.copy.new.self)
    c.copy.ensures.zone (zone_of c.release.new.self) c.release.ensures.zone

pub returns-clause-ok : goal.returns-clause-ok
returns-clause-ok c =
    let a = c.args in
    let old = c.block_of-old.result in
    moved a.number a.place a.bytes (zone_of a.self.now) (room a.self.now a.place a.bytes c.requires.room)
    (zone_of c.carve_nonrelocatable.new.self) c.in_ok-carve_nonrelocatable.ensures.ok old.place old.length old.flags
    c.block_of-old.ensures.place c.block_of-old.ensures.block c.min.result c.min.ensures (zone_of c.copy.new.self)
    c.copy.ensures.zone (zone_of c.release.new.self) c.release.ensures.zone (zone_in c.self.inside.sound.part.bytes)
    (rw (← c.self.view_is) at c.adopt.ensures.zone)
