use Rattle.raw_zone.proofs.Cited.{◌≡◌, ◌∙◌, ◌++◌, ◌∷◌, true, false, ℕ, IsTrue, refl, ap, sym, subst, arith, IfSome, IsSomeAnd}
use Rattle.raw_zone.proofs.Cited.{Nonrelocatable, Relocatable, is_nonrelocatable, is_relocatable, is_masters, content_of, count, free_sum}
use Rattle.raw_zone.proofs.Cited.{has, spot_at, is_used, IsRest, zone_in, slot_in, rest_in, Held, held, zone_of, rest_of, low, way-at}
use Rattle.raw_zone.proofs.Cited.{inside, some-here, if-spot, one-spot, Made, rest-made, kept-made, NonrelocatableAt, nonrelocatable-at}
use Rattle.raw_zone.proofs.Cited.{adopt-reads-in, adopted-at, masters-adopted, free-adopted, with-marks, Became}
use Rattle.raw_zone.proofs.zone.RawZone.adopt.Goals as goal
use Rattle.raw_zone.proofs.zone.RawZone.adopt.Goals.{After-adopt}

-- what is asked, of the zone inside
record Asked (z : Held) (place number : ℕ) : Type 0 where
  nonrelocatable : NonrelocatableAt z.part.bytes place
  used : IsTrue (is_used ((rest_of z).slots number))
  no_block : has (is_relocatable number) (zone_of z) ≡ false

asked : (z view : Held) (place number : ℕ) → z ≡ view
    → IsSomeAnd (spot_at place (zone_of view)) (λ s. is_nonrelocatable place s.here ≡ true)
    → IsTrue (is_used ((rest_of view).slots number)) → has (is_relocatable number) (zone_of view) ≡ false
    → Asked z place number
asked z view place number e block used none = record {
  nonrelocatable = nonrelocatable-at z.part.bytes place
      (subst (λ v. IsSomeAnd (spot_at place (zone_of v)) (λ s. is_nonrelocatable place s.here ≡ true)) (sym e) block);
  used = subst (λ v. IsTrue (is_used ((rest_of v).slots number))) (sym e) used;
  no_block = subst (λ v. has (is_relocatable number) (zone_of v) ≡ false) (sym e) none;
}

pub adopt-requires-clause-way : goal.adopt-requires-clause-way
adopt-requires-clause-way c =
    let i = c.self.inside in
    let q = c.requires in
    let asks = asked (held i) c.args.self.now c.args.place c.args.number c.self.view_is q.block q.used q.no_block in
    let a = asks.nonrelocatable in
    way-at _ _ _ c.self.inside.sound.sound c.args.place a.s a.is

pub adopt-requires-clause-some : goal.adopt-requires-clause-some
adopt-requires-clause-some c =
    let i = c.self.inside in
    let q = c.requires in
    let asks = asked (held i) c.args.self.now c.args.place c.args.number c.self.view_is q.block q.used q.no_block in
    let a = asks.nonrelocatable in
    let n = inside _ _ _ c.self.inside.sound.sound c.args.place a.s a.is in
    let m = some-here _ _ _ c.self.inside.sound.sound c.args.place a.s a.is in
    omega (arith, n, m)

pub adopt-requires-clause-slot : goal.adopt-requires-clause-slot
adopt-requires-clause-slot c =
    let i = c.self.inside in
    let q = c.requires in
    let a = asked (held i) c.args.self.now c.args.place c.args.number c.self.view_is q.block q.used q.no_block in
    adopt-reads-in _ _ _ c.self.inside.sound.sound c.args.place a.nonrelocatable c.args.number c.args.flags a.used a.no_block

pub invariant_of-self-inside : goal.invariant_of-self-inside
invariant_of-self-inside c =
    let i = c.self.inside in
    let q = c.requires in
    let a = asked (held i) c.args.self.now c.args.place c.args.number c.self.view_is q.block q.used q.no_block in
    let m = adopted-at _ _ _ c.self.inside.sound.sound c.args.place a.nonrelocatable c.args.number c.args.flags a.used
    a.no_block c.adopt.new.part.bytes c.adopt.ensures.bytes in
    record { sound = m.sound }

done : (c : After-adopt) → (a : NonrelocatableAt c.self.inside.sound.part.bytes c.args.place)
    × Made c.adopt.new.part.bytes c.self.inside.sound.first c.self.inside.sound.unused
    (a.s.below ++ Relocatable c.args.number c.args.flags a.content ∷ a.s.above) (slot_in c.self.inside.sound.part.bytes)
done c =
    let i = c.self.inside in
    let q = c.requires in
    let a = asked (held i) c.args.self.now c.args.place c.args.number c.self.view_is q.block q.used q.no_block in (
      a.nonrelocatable,
      adopted-at _ _ _ c.self.inside.sound.sound c.args.place a.nonrelocatable c.args.number c.args.flags
          a.used a.no_block c.adopt.new.part.bytes c.adopt.ensures.bytes,
    )

abbrev became : (c : After-adopt) → Became c.args.place (zone_in c.self.inside.sound.part.bytes) (zone_in c.adopt.new.part.bytes)
became c =
    let d = done c in
    let a = d.0 in record {
      below = a.s.below;
      here = Nonrelocatable a.id a.content;
      there = Relocatable c.args.number c.args.flags a.content;
      above = a.s.above;
      was = a.whole;
      is = d.1.zone;
      low = low _ _ _ c.self.inside.sound.sound c.args.place a.s a.is;
      span = refl;
    }

pub note_block-requires : goal.note_block-requires
note_block-requires c = (
  zone_in c.self.inside.sound.part.bytes,
  became (goal.at.note_block-requires c).After-adopt,
  c.self.invariant.marked,
)

pub purgeable_with-self-inside-requires : goal.purgeable_with-self-inside-requires
purgeable_with-self-inside-requires c = (
  zone_in c.self.inside.sound.part.bytes,
  became (goal.at.purgeable_with-self-inside-requires c).After-adopt,
  refl,
  c.self.invariant.purgeable_is,
)

pub invariant_of-self : goal.invariant_of-self
invariant_of-self c =
    let d = (goal.at.invariant_of-self c).After-adopt in
    let a = (done d).0 in
    with-marks _ _ _ _ (kept-made _ _ _ _ _ _ (done d).1 (c.self.invariant.free_is ∙ ap free_sum a.whole
    ∙ sym (free-adopted a.s.below a.id c.args.number c.args.flags a.content a.s.above))) c.note_block.ensures
    (c.purgeable_with-self-inside.ensures (zone_in c.self.inside.sound.part.bytes) (became d) refl c.self.invariant.purgeable_is)

pub returns-clause-zone : goal.returns-clause-zone
returns-clause-zone c =
    let xs = c.self.inside.sound.part.bytes in
    let d = done (goal.at.returns-clause-zone c).After-adopt in
    let a = d.0 in
    subst (λ v. IfSome (spot_at c.args.place (zone_of v)) (λ s. zone_in c.adopt.new.part.bytes
    ≡ s.below ++ Relocatable c.args.number c.args.flags (content_of s.here) ∷ s.above)) c.self.view_is
    (if-spot (spot_at c.args.place (zone_in xs)) (λ s. zone_in c.adopt.new.part.bytes
    ≡ s.below ++ Relocatable c.args.number c.args.flags (content_of s.here) ∷ s.above) (λ s e.
    subst (λ s. zone_in c.adopt.new.part.bytes
    ≡ s.below ++ Relocatable c.args.number c.args.flags (content_of s.here) ∷ s.above)
    (one-spot (spot_at c.args.place (zone_in xs)) a.s s a.is e)
    (d.1.zone ∙ ap (λ b. a.s.below ++ Relocatable c.args.number c.args.flags (content_of b) ∷ a.s.above) (sym a.here))))

pub returns-clause-rest : goal.returns-clause-rest
returns-clause-rest c =
    let i = c.self.inside in
    let d = done (goal.at.returns-clause-rest c).After-adopt in
    let a = d.0 in
    subst (λ v. IsRest (rest_of v) (rest_in c.adopt.new.part i.sound.unused i.moves i.placings)) c.self.view_is
    (rest-made i.sound.part c.adopt.new.part (slot_in i.sound.part.bytes) i.sound.unused i.moves i.placings d.1.slots
    (ap (count is_masters) d.1.zone ∙ masters-adopted a.s.below a.id c.args.number c.args.flags a.content a.s.above
    ∙ ap (count is_masters) (sym a.whole)) c.adopt.ensures.same)
