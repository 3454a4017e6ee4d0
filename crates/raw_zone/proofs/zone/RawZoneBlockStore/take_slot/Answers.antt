use Rattle.raw_zone.proofs.Cited.{◌≡◌, false, List, [], ◌∷◌, ℕ, length, refl, Unused, Each, IsSlot, first_of}
use Rattle.raw_zone.proofs.Cited.{◌-◌, ap, ◌∙◌, subst, arith, count, is_masters, Used, set_slot, IsRest, with_slot, zone_in, zone_of}
use Rattle.raw_zone.proofs.Cited.{rest_of, rest_in, slot_in, Made, rest-made, kept-made, may-take, taken-made, with-same}
use Rattle.raw_zone.proofs.zone.RawZoneBlockStore.take_slot.Goals as goal
use Rattle.raw_zone.proofs.zone.RawZoneBlockStore.take_slot.Goals.{After-take_slot-sound}

pub take_slot-sound-requires : goal.take_slot-sound-requires
take_slot-sound-requires c = let n = c.if-self-eq0.false in
    may-take _ _ _ c.self.inside.sound.sound (omega (arith, n))

done : (c : After-take_slot-sound)
    → Made c.take_slot-sound.new.part.bytes c.take_slot-sound.result (c.self.inside.sound.unused - 1)
    (zone_in c.self.inside.sound.part.bytes) (set_slot (slot_in c.self.inside.sound.part.bytes) c.self.inside.sound.first (Used false))
done c =
    taken-made _ _ _ c.self.inside.sound.sound (omega (arith, c.if-self-eq0.false)) _ _ c.take_slot-sound.ensures.lays

pub invariant_of-sound : goal.invariant_of-sound
invariant_of-sound c = record { sound = (done (goal.at.invariant_of-sound c).After-take_slot-sound).sound }

pub invariant_of-self : goal.invariant_of-self
invariant_of-self c =
    let m = done (goal.at.invariant_of-self c).After-take_slot-sound in
    with-same _ _ _ _ _ (kept-made _ _ _ _ _ _ m c.self.invariant.free_is) m.zone c.self.invariant.marked
    c.self.invariant.purgeable_is

pub returns-clause-rest : goal.returns-clause-rest
returns-clause-rest c =
    let m = done (goal.at.returns-clause-rest c).After-take_slot-sound in
    subst (λ v. IsRest (with_slot c.self.inside.sound.first (Used false) (c.self.inside.sound.unused - 1) (rest_of v))
    (rest_in c.take_slot-sound.new.part (c.self.inside.sound.unused - 1) c.self.inside.moves c.self.inside.placings)) c.self.view_is
    (rest-made c.self.inside.sound.part c.take_slot-sound.new.part
    (set_slot (slot_in c.self.inside.sound.part.bytes) c.self.inside.sound.first (Used false))
    (c.self.inside.sound.unused - 1) c.self.inside.moves c.self.inside.placings m.slots
    (ap (count is_masters) m.zone) c.take_slot-sound.ensures.same)

pub returns-clause-zone : goal.returns-clause-zone
returns-clause-zone c = (done (goal.at.returns-clause-zone c).After-take_slot-sound).zone ∙ ap zone_of c.self.view_is

-- the first of the unused slots is unused
first-unused : (xs us : List ℕ) (first : ℕ) → Each (λ s. IsSlot s (zone_in xs) × (slot_in xs s ≡ Unused)) us
    → first ≡ first_of us → (length us ≡ 0 → ⊥) → slot_in xs first ≡ Unused
first-unused xs [] first e f n = absurd (n refl)
first-unused xs (u ∷ us) first e f n = ap (slot_in xs) f ∙ e.0.1

pub returns-clause-was : goal.returns-clause-was
returns-clause-was c =
    let i = c.self.inside.sound.sound in
    rw (← c.self.view_is)
    (first-unused _ _ _ i.lays.unused_slots i.begins (λ z. c.if-self-eq0.false (i.counted ∙ z)))
