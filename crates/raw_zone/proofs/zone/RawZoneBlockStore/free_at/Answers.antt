use Rattle.raw_zone.proofs.Cited.{◌≡◌, ℕ, true, Some, refl, sym, ap, ◌∙◌, subst, arith, IsSomeAnd, false≢true, Block, Free, Nonrelocatable}
use Rattle.raw_zone.proofs.Cited.{Masters, Relocatable, is_nonrelocatable, tidy, freed, IsRest, Spot, spot_at, rest_in, zone_in, the-spot}
use Rattle.raw_zone.proofs.Cited.{Gained, gained-fits, gained-kept, gained-rest, may-free_nonrelocatable, nonrelocatable-gained, freed-is}
use Rattle.raw_zone.proofs.Cited.{AreOf, whole, zone_of, rest_of, with-marks, replaced-as, purgeable_of, purgeable_sum, given-freed}
use Rattle.zone_bytes.proofs.Joined.NonrelocatableFreed.{standing}
use Rattle.raw_zone.proofs.zone.RawZoneBlockStore.free_at.Goals as goal
use Rattle.raw_zone.proofs.zone.RawZoneBlockStore.free_at.Goals.{After-self, After-free_block-freed}

-- the nonrelocatable block
here : (c : goal.After-self)
    → (s : Spot) × (spot_at c.args.place (zone_in c.self.inside.sound.part.bytes) ≡ Some s) × (is_nonrelocatable c.args.place
    s.here ≡ true)
here c =
    the-spot (spot_at c.args.place (zone_in c.self.inside.sound.part.bytes)) (λ s. is_nonrelocatable c.args.place s.here ≡ true)
    (subst (λ v. IsSomeAnd (spot_at c.args.place (zone_of v)) (λ s. is_nonrelocatable c.args.place s.here ≡ true))
    (sym c.self.view_is) c.requires)

pub free_block-freed-requires : goal.free_block-freed-requires
free_block-freed-requires c =
    let n = c.self.inside in
    let s = c.self.inside.sound.sound in
    let a = here (goal.at.free_block-freed-requires c).After-self in (
      standing _ _ _ s c.args.place a.0 a.1 a.2,
      may-free_nonrelocatable _ _ _ s c.args.place a.0 a.1 a.2,
      subst (AreOf n.marks) (whole _ _ _ s c.args.place a.0 a.1) c.self.invariant.marked,
    )

there : (c : After-free_block-freed)
    → (s : Spot) × (spot_at c.args.place (zone_in c.self.inside.sound.part.bytes) ≡ Some s) × (is_nonrelocatable c.args.place
    s.here ≡ true)
there c =
    the-spot (spot_at c.args.place (zone_in c.self.inside.sound.part.bytes)) (λ s. is_nonrelocatable c.args.place s.here ≡ true)
    (subst (λ v. IsSomeAnd (spot_at c.args.place (zone_of v)) (λ s. is_nonrelocatable c.args.place s.here ≡ true))
    (sym c.self.view_is) c.requires)

done : (c : After-free_block-freed)
    → Gained c.self.inside.sound.part.bytes c.free_block-freed.new.part.bytes c.self.inside.sound.first c.self.inside.sound.unused
    c.free_block-freed.result.bytes (tidy (freed (is_nonrelocatable c.args.place) (zone_in c.self.inside.sound.part.bytes)))
done c =
    let a = there c in
    nonrelocatable-gained _ _ _ c.self.inside.sound.sound c.args.place a.0 a.1 a.2
    c.free_block-freed.new.part.bytes c.free_block-freed.result.bytes c.free_block-freed.ensures.lays c.free_block-freed.ensures.bytes

pub overflow_add-self : goal.overflow_add-self
overflow_add-self c =
    let f = gained-fits _ _ _ _ _ _ (done (goal.at.overflow_add-self c).After-free_block-freed) c.self.inside.free
    c.self.invariant.free_is in
    omega (arith, f)

pub invariant_of-self-inside : goal.invariant_of-self-inside
invariant_of-self-inside c = record { sound = (done (goal.at.invariant_of-self-inside c).After-free_block-freed).made.sound }

-- a nonrelocatable block would give nothing
nothing : (place : ℕ) (b : Block) → is_nonrelocatable place b ≡ true → purgeable_of b ≡ 0
nothing place (Free n) e = refl
nothing place (Nonrelocatable id content) e = refl
nothing place Masters e = refl
nothing place (Relocatable id flags content) e = absurd (false≢true e)

pub invariant_of-self : goal.invariant_of-self
invariant_of-self c =
    let d = done (goal.at.invariant_of-self c).After-free_block-freed in
    let z = ap purgeable_sum d.made.zone in
    let g = given-freed (is_nonrelocatable c.args.place) (nothing c.args.place) (zone_in c.self.inside.sound.part.bytes) in
    let b = c.self.invariant.purgeable_is in
    with-marks _ _ _ _ (gained-kept _ _ _ _ _ _ d c.self.inside.free c.self.invariant.free_is) c.note.ensures
    (omega (arith, z, g, b))

pub returns-clause-zone : goal.returns-clause-zone
returns-clause-zone c = (done (goal.at.returns-clause-zone c).After-free_block-freed).made.zone
    ∙ ap (λ v. tidy (freed (is_nonrelocatable c.args.place) (zone_of v))) c.self.view_is

pub returns-clause-rest : goal.returns-clause-rest
returns-clause-rest c =
    subst (λ v. IsRest (rest_of v) (rest_in c.free_block-freed.new.part c.self.inside.sound.unused c.self.inside.moves
    c.self.inside.placings)) c.self.view_is (gained-rest c.self.inside.sound.part c.free_block-freed.new.part _ _ _ _
    (done (goal.at.returns-clause-rest c).After-free_block-freed) c.free_block-freed.ensures.same c.self.inside.moves
    c.self.inside.placings)

pub note-requires : goal.note-requires
note-requires c =
    let n = c.self.inside in
    let s = c.self.inside.sound.sound in
    let a = here (goal.at.note-requires c).After-self in (
      zone_in n.sound.part.bytes,
      replaced-as _ _ _ _ _ _ (whole _ _ _ s c.args.place a.0 a.1)
          ((done (goal.at.note-requires c).After-free_block-freed).made.zone
          ∙ ap tidy (freed-is _ _ _ s c.args.place a.0 a.1 a.2))
          (c.free_block-freed.ensures.replaced (standing _ _ _ s c.args.place a.0 a.1 a.2)
          (may-free_nonrelocatable _ _ _ s c.args.place a.0 a.1 a.2)),
      c.self.invariant.marked,
    )
