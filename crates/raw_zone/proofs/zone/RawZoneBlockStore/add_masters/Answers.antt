use Rattle.raw_zone.proofs.Cited.{◌≡◌, ◌+◌, ◌++◌, ℕ, IsTrue, refl, ap, sym, subst, arith, IsSomeAnd, Masters, is_room, free_sum, spot_at}
use Rattle.raw_zone.proofs.Cited.{filled, is_used, zone_in, Lays, slot_in, slots_at, with_slots, Made, kept-made, the-if, count-small}
use Rattle.raw_zone.proofs.Cited.{Roomy, roomy, free-roomy, carved-free, carved-masters, masters-made, masters-slots, with-marks}
use Rattle.raw_zone.proofs.Cited.{filled-replaced, zone_of, rest_of, purgeable_sum, given-put}
use Rattle.raw_zone.proofs.zone.RawZoneBlockStore.add_masters.Goals as goal
use Rattle.raw_zone.proofs.zone.RawZoneBlockStore.add_masters.Goals.{After-self, After-add_masters}

-- the Free block at the place
here : (c : After-self) → Roomy c.self.inside.sound.part.bytes c.args.place 272
here c =
    roomy _ _ _ c.args.place 272 c.self.inside.sound.sound
    (subst (λ v. IsSomeAnd (spot_at c.args.place (zone_of v)) (λ s. IsTrue (is_room 272 s.here))) (sym c.self.view_is)
    c.requires)

pub size_at-free-requires-clause-way : goal.size_at-free-requires-clause-way
size_at-free-requires-clause-way c = (here c).at.way

pub size_at-free-requires-clause-some : goal.size_at-free-requires-clause-some
size_at-free-requires-clause-some c =
    let r = here c in
    let i = r.at.inside in
    let g = r.at.some in
    omega (arith, i, g)

there : (c : After-add_masters) → Roomy c.self.inside.sound.part.bytes c.args.place 272
there c =
    roomy _ _ _ c.args.place 272 c.self.inside.sound.sound
    (subst (λ v. IsSomeAnd (spot_at c.args.place (zone_of v)) (λ s. IsTrue (is_room 272 s.here))) (sym c.self.view_is)
    c.requires)

laid : (c : After-add_masters) → Lays c.add_masters.new.part.bytes (filled Masters (there c).s)
    (with_slots c.args.place (slot_in c.self.inside.sound.part.bytes)) (slots_at c.args.place ++ c.self.inside.sound.sound.unused)
laid c = the-if _ _ (there c).s (there c).is (c.add_masters.ensures.lays c.self.inside.sound.unused c.self.inside.sound.sound)

done : (c : After-add_masters) → Made c.add_masters.new.part.bytes (c.args.place + 16) (c.self.inside.sound.unused + 64)
    (filled Masters (there c).s) (with_slots c.args.place (slot_in c.self.inside.sound.part.bytes))
done c =
    masters-made c.self.inside.sound.part.bytes c.add_masters.new.part.bytes c.self.inside.sound.first c.self.inside.sound.unused
    c.args.place c.self.inside.sound.sound (there c) (laid c)

pub overflow_add-sound : goal.overflow_add-sound
overflow_add-sound c =
    let r = there (goal.at.overflow_add-sound c).After-add_masters in
    let i = r.at.inside in
    let g = r.at.some in
    let m = r.at.small in
    omega (arith, i, g, m)

pub overflow_add-sound-2 : goal.overflow_add-sound-2
overflow_add-sound-2 c =
    let b = count-small _ _ _ c.self.inside.sound.sound in
    omega (arith, b)

pub overflow_sub-self : goal.overflow_sub-self
overflow_sub-self c =
    let q = free-roomy c.self.inside.sound.part.bytes c.args.place 272 (there (goal.at.overflow_sub-self c).After-add_masters) in
    let f = c.self.invariant.free_is in
    omega (arith, q, f)

pub invariant_of-sound : goal.invariant_of-sound
invariant_of-sound c = record { sound = (done (goal.at.invariant_of-sound c).After-add_masters).sound }

pub invariant_of-self : goal.invariant_of-self
invariant_of-self c =
    let a = (goal.at.invariant_of-self c).After-add_masters in
    let m = done a in
    let q = carved-free _ _ _ (there a) _ Masters refl (omega arith) m.zone in
    let z = ap free_sum m.zone in
    let f = c.self.invariant.free_is in
    let r = there a in
    let g = given-put Masters refl r.s (zone_in c.self.inside.sound.part.bytes) r.at.whole r.bytes r.here in
    let y = ap purgeable_sum m.zone in
    let b = c.self.invariant.purgeable_is in
    with-marks _ _ _ _ (kept-made _ _ _ _ _ _ m (omega (arith, q, z, f))) c.note.ensures (omega (arith, g, y, b))

pub returns-clause-ok : goal.returns-clause-ok
returns-clause-ok c =
    let a = (goal.at.returns-clause-ok c).After-add_masters in
    rw (← c.self.view_is, (there a).is) (done a).zone

pub returns-clause-all : goal.returns-clause-all
returns-clause-all c =
    let a = (goal.at.returns-clause-all c).After-add_masters in
    let k = carved-masters _ _ _ (there a) _ Masters refl (omega arith) (done a).zone in
    rw (← c.self.view_is) (omega (arith, k))

pub returns-clause-slots : goal.returns-clause-slots
returns-clause-slots c =
    let a = (goal.at.returns-clause-slots c).After-add_masters in
    subst (λ v. (k : ℕ) → IsTrue (is_used ((rest_of v).slots k))
    → slot_in c.add_masters.new.part.bytes k ≡ (rest_of v).slots k)
    c.self.view_is
    (masters-slots c.self.inside.sound.part.bytes c.add_masters.new.part.bytes c.self.inside.sound.first c.self.inside.sound.unused
    c.args.place c.self.inside.sound.sound (there a) (laid a))

pub overflow_add-place : goal.overflow_add-place
overflow_add-place c =
    let r = there (goal.at.overflow_add-place c).After-add_masters in
    let n = c.size_at-free.ensures r.s.here r.s.above r.at.left in
    let i = r.at.inside in
    let m = r.at.small in
    omega (arith, n, i, m)

pub note-requires : goal.note-requires
note-requires c =
    let a = (goal.at.note-requires c).After-add_masters in
    let r = there a in (
      zone_in c.self.inside.sound.part.bytes,
      filled-replaced c.self.inside.sound.part.bytes c.args.place 272 r Masters refl (omega arith) c.size_at-free.result
          (c.size_at-free.ensures r.s.here r.s.above r.at.left) (zone_in c.add_masters.new.part.bytes) (done a).zone,
      c.self.invariant.marked,
    )
