use Rattle.raw_zone.proofs.Cited.{◌≡◌, ℕ, IsTrue, refl, ap, sym, subst, arith, replicate, ◌++◌, ◌∷◌, ◌-◌, length-replicate, IsSomeAnd}
use Rattle.raw_zone.proofs.Cited.{padded, Block, Free, Nonrelocatable, is_room, size, free_sum, spot_at, filled, zone_in, slot_in, Made}
use Rattle.raw_zone.proofs.Cited.{rest-made, kept-made, the-if, Roomy, roomy, tidy-made, carved-free, carved-masters, free-roomy}
use Rattle.raw_zone.proofs.Cited.{with-marks, filled-replaced, zone_of, purgeable_sum, given-put}
use Rattle.raw_zone.proofs.zone.RawZoneBlockStore.carve_nonrelocatable.Goals as goal
use Rattle.raw_zone.proofs.zone.RawZoneBlockStore.carve_nonrelocatable.Goals.{After-self, After-carve_nonrelocatable}

-- the Free block at the place
here : (c : After-self) → Roomy c.self.inside.sound.part.bytes c.args.place (padded c.args.size)
here c =
    roomy c.self.inside.sound.part.bytes c.self.inside.sound.first c.self.inside.sound.unused c.args.place (padded c.args.size)
    c.self.inside.sound.sound
    (subst (λ v. IsSomeAnd (spot_at c.args.place (zone_of v)) (λ s. IsTrue (is_room (padded c.args.size) s.here)))
    (sym c.self.view_is) c.requires)

pub size_at-free-requires-clause-way : goal.size_at-free-requires-clause-way
size_at-free-requires-clause-way c = (here c).at.way

pub size_at-free-requires-clause-some : goal.size_at-free-requires-clause-some
size_at-free-requires-clause-some c =
    let r = here c in
    let i = r.at.inside in
    let g = r.at.some in
    omega (arith, i, g)

there : (c : After-carve_nonrelocatable) → Roomy c.self.inside.sound.part.bytes c.args.place (padded c.args.size)
there c =
    roomy c.self.inside.sound.part.bytes c.self.inside.sound.first c.self.inside.sound.unused c.args.place (padded c.args.size)
    c.self.inside.sound.sound
    (subst (λ v. IsSomeAnd (spot_at c.args.place (zone_of v)) (λ s. IsTrue (is_room (padded c.args.size) s.here)))
    (sym c.self.view_is) c.requires)

abbrev new : After-carve_nonrelocatable → Block
new c = Nonrelocatable c.args.place (replicate c.args.size 0)

done : (c : After-carve_nonrelocatable) → Made c.carve_nonrelocatable.new.part.bytes c.self.inside.sound.first c.self.inside.sound.unused
    (filled (new c) (there c).s) (slot_in c.self.inside.sound.part.bytes)
done c =
    let r = there c in
    tidy-made _ _ _ _ c.self.inside.sound.sound (r.s.below ++ new c ∷ Free (size r.s.here - size (new c)) ∷ r.s.above)
    (the-if _ _ r.s r.is (c.carve_nonrelocatable.ensures.lays c.self.inside.sound.first c.self.inside.sound.unused
    c.self.inside.sound.sound))

new-size : (c : After-carve_nonrelocatable) → size (new c) ≡ padded c.args.size
new-size c = ap padded (length-replicate {A = ℕ} c.args.size 0)

pub padded_size-requires : goal.padded_size-requires
padded_size-requires c =
    let r = there (goal.at.padded_size-requires c).After-carve_nonrelocatable in
    let l = ap size r.here in
    let f = r.room in
    let i = r.at.inside in
    let m = r.at.small in
    omega (arith, l, f, i, m)

pub overflow_sub-self : goal.overflow_sub-self
overflow_sub-self c =
    let r = there (goal.at.overflow_sub-self c).After-carve_nonrelocatable in
    let q = free-roomy c.self.inside.sound.part.bytes c.args.place (padded c.args.size) r in
    let f = c.self.invariant.free_is in
    let p = c.padded_size.ensures in
    omega (arith, q, f, p)

pub invariant_of-self-inside : goal.invariant_of-self-inside
invariant_of-self-inside c = record { sound = (done (goal.at.invariant_of-self-inside c).After-carve_nonrelocatable).sound }

pub invariant_of-self : goal.invariant_of-self
invariant_of-self c =
    let a = (goal.at.invariant_of-self c).After-carve_nonrelocatable in
    let r = there a in
    let m = done a in
    let l = new-size a in
    let q = carved-free _ _ _ r _ (new a) refl (omega (arith, l)) m.zone in
    let g = given-put (new a) refl r.s _ r.at.whole r.bytes r.here in
    with-marks _ _ _ _
    (kept-made _ _ _ _ _ _ m (omega (arith, q, ap free_sum m.zone, c.self.invariant.free_is, c.padded_size.ensures, l)))
    c.note.ensures (omega (arith, g, ap purgeable_sum m.zone, c.self.invariant.purgeable_is))

pub returns-clause-ok : goal.returns-clause-ok
returns-clause-ok c =
    let a = (goal.at.returns-clause-ok c).After-carve_nonrelocatable in
    rw (← c.self.view_is, (there a).is) (done a).zone

pub returns-clause-rest : goal.returns-clause-rest
returns-clause-rest c =
    let a = (goal.at.returns-clause-rest c).After-carve_nonrelocatable in
    let m = done a in
    let l = new-size a in
    let k = carved-masters _ _ _ (there a) _ (new a) refl (omega (arith, l)) m.zone in
    rw (← c.self.view_is) (rest-made c.self.inside.sound.part c.carve_nonrelocatable.new.part
    (slot_in c.self.inside.sound.part.bytes)
    c.self.inside.sound.unused c.self.inside.moves c.self.inside.placings m.slots (omega (arith, k)) c.carve_nonrelocatable.ensures.same)

pub overflow_add-place : goal.overflow_add-place
overflow_add-place c =
    let r = there (goal.at.overflow_add-place c).After-carve_nonrelocatable in
    let n = c.size_at-free.ensures r.s.here r.s.above r.at.left in
    let i = r.at.inside in
    let m = r.at.small in
    omega (arith, n, i, m)

pub note-requires : goal.note-requires
note-requires c =
    let a = (goal.at.note-requires c).After-carve_nonrelocatable in
    let r = there a in
    let l = new-size a in (
      zone_in c.self.inside.sound.part.bytes,
      filled-replaced _ _ _ r (new a) refl (omega (arith, l)) c.size_at-free.result
          (c.size_at-free.ensures r.s.here r.s.above r.at.left) _ (done a).zone,
      c.self.invariant.marked,
    )
