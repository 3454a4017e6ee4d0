use Rattle.raw_zone.proofs.Cited.{IsTrue, sym, ap, ◌∙◌, subst, count, is_masters, Used, set_slot, is_used, IsRest, with_slot, zone_in}
use Rattle.raw_zone.proofs.Cited.{rest_in, slot_in, Made, rest-made, kept-made, a-handle, marked-made, zone_of, rest_of, with-same}
use Rattle.raw_zone.proofs.zone.RawZoneBlockStore.set_resource.Goals as goal

pub mark_slot-requires : goal.mark_slot-requires
mark_slot-requires c =
    a-handle _ _ _ c.self.inside.sound.sound c.args.number
    (subst (λ v. IsTrue (is_used ((rest_of v).slots c.args.number))) (sym c.self.view_is) c.requires)

done : (c : goal.After-self-1) → Made c.mark_slot.new.part.bytes c.self.inside.sound.first c.self.inside.sound.unused
    (zone_in c.self.inside.sound.part.bytes)
    (set_slot (slot_in c.self.inside.sound.part.bytes) c.args.number (Used c.args.resource))
done c =
    marked-made _ _ _ c.self.inside.sound.sound c.args.number
    (subst (λ v. IsTrue (is_used ((rest_of v).slots c.args.number))) (sym c.self.view_is) c.requires)
    c.args.resource c.mark_slot.new.part.bytes c.mark_slot.ensures.lays

pub invariant_of-self-inside : goal.invariant_of-self-inside
invariant_of-self-inside c =
    let m = marked-made _ _ _ c.self.inside.sound.sound c.args.number
    (subst (λ v. IsTrue (is_used ((rest_of v).slots c.args.number))) (sym c.self.view_is) c.requires)
    c.args.resource c.mark_slot.new.part.bytes c.mark_slot.ensures.lays in
    record { sound = m.sound }

pub invariant_of-self : goal.invariant_of-self
invariant_of-self c = with-same _ _ _ _ _ (kept-made _ _ _ _ _ _ (done c) c.self.invariant.free_is) (done c).zone
    c.self.invariant.marked c.self.invariant.purgeable_is

pub returns-clause-rest : goal.returns-clause-rest
returns-clause-rest c =
    let m = done c in
    subst (λ v. IsRest (with_slot c.args.number (Used c.args.resource) v.unused (rest_of v))
    (rest_in c.mark_slot.new.part c.self.inside.sound.unused c.self.inside.moves c.self.inside.placings)) c.self.view_is
    (rest-made c.self.inside.sound.part c.mark_slot.new.part
    (set_slot (slot_in c.self.inside.sound.part.bytes) c.args.number (Used c.args.resource)) c.self.inside.sound.unused
    c.self.inside.moves c.self.inside.placings m.slots (ap (count is_masters) m.zone) c.mark_slot.ensures.same)

pub returns-clause-zone : goal.returns-clause-zone
returns-clause-zone c = (done c).zone ∙ ap zone_of c.self.view_is
