use Rattle.raw_zone.proofs.Cited.{◌≡◌, ◌+◌, IsTrue, false, refl, ap, sym, subst, arith, replicate, ℕ, length-replicate, padded, Block}
use Rattle.raw_zone.proofs.Cited.{Relocatable, no_flags, size, is_relocatable, free_sum, has, filled, is_used, zone_in, slot_in, new_header}
use Rattle.raw_zone.proofs.Cited.{purgeable_sum, Made, rest-made, rest-placed, kept-made, slot-reads-in, Roomy, roomy, free-roomy}
use Rattle.raw_zone.proofs.Cited.{may-carve, carved-free, carved-masters, relocatable-made, given-put, with-marks, filled-replaced}
use Rattle.raw_zone.proofs.zone.RawZoneBlockStore.carve.Goals as goal
use Rattle.raw_zone.proofs.zone.RawZoneBlockStore.carve.Goals.{After-self, After-carve}

-- the Free block at the place
here : (c : After-self) → Roomy c.self.inside.sound.part.bytes c.args.place (padded c.args.size)
here c = roomy _ _ _ _ _ c.self.inside.sound.sound (rw (← c.self.view_is) at c.requires.room)

-- the handle is used, and has no block
used : (c : After-self) → IsTrue (is_used (slot_in c.self.inside.sound.part.bytes c.args.number))
used c = rw (← c.self.view_is) at c.requires.used

none : (c : After-self) → has (is_relocatable c.args.number) (zone_in c.self.inside.sound.part.bytes) ≡ false
none c = rw (← c.self.view_is) at c.requires.no_block

pub size_at-free-requires : goal.size_at-free-requires
size_at-free-requires c =
    let r = here (goal.at.size_at-free-requires c).After-self in record { way = r.at.way; some = omega arith }

pub kept_flags-flags-requires : goal.kept_flags-flags-requires
kept_flags-flags-requires c =
    let a = (goal.at.kept_flags-flags-requires c).After-self in
    slot-reads-in _ _ _ a.self.inside.sound.sound _ (used a) (none a)

pub overflow_add-place : goal.overflow_add-place
overflow_add-place c =
    let r = here (goal.at.overflow_add-place c).After-self in
    omega (arith, c.size_at-free.ensures r.s.here r.s.above r.at.left, r.at.inside, r.at.small)

pub carve-requires : goal.carve-requires
carve-requires c =
    let a = (goal.at.carve-requires c).After-self in
    let r = here a in
    record {
      may = may-carve _ _ _ _ r (ap (λ m. c.args.place + m) (c.size_at-free.ensures r.s.here r.s.above r.at.left))
          (new_header c.args.number c.args.size c.kept_flags-flags.result) refl refl;
      slot = slot-reads-in _ _ _ a.self.inside.sound.sound _ (used a) (none a);
    }

-- the zone with the new block
there : (c : After-carve) → Roomy c.self.inside.sound.part.bytes c.args.place (padded c.args.size)
there c = roomy _ _ _ _ _ c.self.inside.sound.sound (rw (← c.self.view_is) at c.requires.room)

abbrev new : After-carve → Block
new c = Relocatable c.args.number no_flags (replicate c.args.size 0)

done : (c : After-carve) → Made c.carve.new.part.bytes c.self.inside.sound.first c.self.inside.sound.unused (filled (new c)
    (there c).s) (slot_in c.self.inside.sound.part.bytes)
done c =
    let r = there c in
    subst (λ xs. Made xs c.self.inside.sound.first c.self.inside.sound.unused (filled (new c) r.s)
    (slot_in c.self.inside.sound.part.bytes)) (sym c.carve.ensures.bytes) (relocatable-made _ _ _ c.self.inside.sound.sound _
    (rw (← c.self.view_is) at c.requires.used) (rw (← c.self.view_is) at c.requires.no_block) _ _ _ _ r
    (ap (λ m. c.args.place + m) (c.size_at-free.ensures r.s.here r.s.above r.at.left)) c.kept_flags-flags.ensures)

new-size : (c : After-carve) → size (new c) ≡ padded c.args.size
new-size c = ap padded (length-replicate {A = ℕ} c.args.size 0)

pub padded_size-requires : goal.padded_size-requires
padded_size-requires c =
    let r = there (goal.at.padded_size-requires c).After-carve in
    omega (arith, ap size r.here, r.room, r.at.inside, r.at.small)

pub overflow_sub-self : goal.overflow_sub-self
overflow_sub-self c =
    let r = there (goal.at.overflow_sub-self c).After-carve in
    omega (arith, free-roomy _ _ _ r, c.self.invariant.free_is, c.padded_size.ensures)

pub invariant_of-self-inside : goal.invariant_of-self-inside
invariant_of-self-inside c = record { sound = (done (goal.at.invariant_of-self-inside c).After-carve).sound }

pub invariant_of-self : goal.invariant_of-self
invariant_of-self c =
    let a = (goal.at.invariant_of-self c).After-carve in
    let r = there a in
    let m = done a in
    let l = new-size a in
    let q = carved-free _ _ _ r _ (new a) refl (omega (arith, l)) m.zone in
    let g = given-put (new a) refl r.s _ r.at.whole r.bytes r.here in
    with-marks _ _ _ _
    (kept-made _ _ _ _ _ _ m (omega (arith, q, ap free_sum m.zone, c.self.invariant.free_is, c.padded_size.ensures, l)))
    c.note.ensures (omega (arith, g, ap purgeable_sum m.zone, c.self.invariant.purgeable_is))

pub overflow_add-place-2 : goal.overflow_add-place-2
overflow_add-place-2 c =
    let r = there (goal.at.overflow_add-place-2 c).After-carve in
    omega (arith, c.size_at-free.ensures r.s.here r.s.above r.at.left, r.at.inside, r.at.small)

pub note-requires : goal.note-requires
note-requires c =
    let a = (goal.at.note-requires c).After-carve in
    let r = there a in
    let l = new-size a in (
      zone_in c.self.inside.sound.part.bytes,
      filled-replaced _ _ _ r (new a) refl (omega (arith, l)) c.size_at-free.result
          (c.size_at-free.ensures r.s.here r.s.above r.at.left) _ (done a).zone,
      c.self.invariant.marked,
    )

pub returns-clause-ok : goal.returns-clause-ok
returns-clause-ok c =
    let a = (goal.at.returns-clause-ok c).After-carve in
    rw (← c.self.view_is, (there a).is) (done a).zone

pub returns-clause-rest : goal.returns-clause-rest
returns-clause-rest c =
    let a = (goal.at.returns-clause-rest c).After-carve in
    let m = done a in
    let l = new-size a in
    let k = carved-masters _ _ _ (there a) _ (new a) refl (omega (arith, l)) m.zone in
    rw (← c.self.view_is) (rest-placed _ c.carve.new.part c.self.inside.sound.unused c.self.inside.moves c.self.inside.placings
    c.saturating_add-self-inside.result (rest-made c.self.inside.sound.part c.carve.new.part (slot_in c.self.inside.sound.part.bytes)
    c.self.inside.sound.unused c.self.inside.moves c.self.inside.placings m.slots (omega (arith, k)) c.carve.ensures.same)
    (omega (arith, c.saturating_add-self-inside.ensures)))
