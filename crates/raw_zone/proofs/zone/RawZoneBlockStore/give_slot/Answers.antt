use Rattle.raw_zone.proofs.Cited.{◌≡◌, false, IsTrue, ◌+◌, sym, ap, ◌∙◌, subst, arith, count, is_masters, is_relocatable, has, Unused}
use Rattle.raw_zone.proofs.Cited.{set_slot, is_used, IsRest, with_slot, zone_in, zone_of, rest_of, rest_in, slot_in, Made, rest-made}
use Rattle.raw_zone.proofs.Cited.{kept-made, may-give, given-made, count-small, with-same}
use Rattle.raw_zone.proofs.zone.RawZoneBlockStore.give_slot.Goals as goal
use Rattle.raw_zone.proofs.zone.RawZoneBlockStore.give_slot.Goals.{After-give_slot}

pub give_slot-requires : goal.give_slot-requires
give_slot-requires c =
    let v = sym c.self.view_is in
    may-give _ _ _ c.self.inside.sound.sound c.args.number
    (subst (λ z. IsTrue (is_used ((rest_of z).slots c.args.number))) v c.requires.used)
    (subst (λ z. has (is_relocatable c.args.number) (zone_of z) ≡ false) v c.requires.no_block)

pub overflow_add-sound : goal.overflow_add-sound
overflow_add-sound c = let b = count-small _ _ _ c.self.inside.sound.sound in omega (arith, b)

done : (c : After-give_slot)
    → Made c.give_slot.new.part.bytes c.args.number (c.self.inside.sound.unused + 1) (zone_in c.self.inside.sound.part.bytes)
    (set_slot (slot_in c.self.inside.sound.part.bytes) c.args.number Unused)
done c =
    let v = sym c.self.view_is in
    given-made _ _ _ c.self.inside.sound.sound c.args.number
    (subst (λ z. IsTrue (is_used ((rest_of z).slots c.args.number))) v c.requires.used)
    (subst (λ z. has (is_relocatable c.args.number) (zone_of z) ≡ false) v c.requires.no_block)
    c.give_slot.new.part.bytes c.give_slot.ensures.lays

pub invariant_of-sound : goal.invariant_of-sound
invariant_of-sound c = record { sound = (done (goal.at.invariant_of-sound c).After-give_slot).sound }

pub invariant_of-self : goal.invariant_of-self
invariant_of-self c =
    let m = done (goal.at.invariant_of-self c).After-give_slot in
    with-same _ _ _ _ _ (kept-made _ _ _ _ _ _ m c.self.invariant.free_is) m.zone c.self.invariant.marked
    c.self.invariant.purgeable_is

pub returns-clause-rest : goal.returns-clause-rest
returns-clause-rest c =
    let m = done (goal.at.returns-clause-rest c).After-give_slot in
    subst (λ v. IsRest (with_slot c.args.number Unused (v.unused + 1) (rest_of v))
    (rest_in c.give_slot.new.part (c.self.inside.sound.unused + 1) c.self.inside.moves c.self.inside.placings)) c.self.view_is
    (rest-made c.self.inside.sound.part c.give_slot.new.part
    (set_slot (slot_in c.self.inside.sound.part.bytes) c.args.number Unused)
    (c.self.inside.sound.unused + 1) c.self.inside.moves c.self.inside.placings m.slots (ap (count is_masters) m.zone)
    c.give_slot.ensures.same)

pub returns-clause-zone : goal.returns-clause-zone
returns-clause-zone c = (done (goal.at.returns-clause-zone c).After-give_slot).zone ∙ ap zone_of c.self.view_is
