use Rattle.raw_zone.proofs.Cited.{◌≡◌, ◌+◌, IsTrue, refl, sym, ap, ◌∙◌, subst, arith, is_relocatable, tidy, freed, is_used, IsRest, rest_in}
use Rattle.raw_zone.proofs.Cited.{zone_in, Gained, gained-fits, gained-kept, gained-rest, table-of, has-handle, released-gained, zone_of}
use Rattle.raw_zone.proofs.Cited.{rest_of, zone-once, with-marks, replaced-as, purgeable_sum, given-released}
use Rattle.raw_zone.proofs.zone.RawZoneBlockStore.release.Goals as goal
use Rattle.raw_zone.proofs.zone.RawZoneBlockStore.release.Goals.{After-free_slot-freed}

pub free_slot-freed-requires : goal.free_slot-freed-requires
free_slot-freed-requires c =
    let s = c.self.inside.sound.sound in (
      table-of _ _ _ s,
      has-handle _ _ _ s c.args.number
          (subst (λ z. IsTrue (is_used ((rest_of z).slots c.args.number))) (sym c.self.view_is) c.requires),
      c.self.invariant.marked,
    )

done : (c : goal.After-free_slot-freed)
    → Gained c.self.inside.sound.part.bytes c.free_slot-freed.new.part.bytes c.self.inside.sound.first c.self.inside.sound.unused
    c.free_slot-freed.result.bytes (tidy (freed (is_relocatable c.args.number) (zone_in c.self.inside.sound.part.bytes)))
done c =
    released-gained _ _ _ c.self.inside.sound.sound c.args.number
    (subst (λ z. IsTrue (is_used ((rest_of z).slots c.args.number))) (sym c.self.view_is) c.requires)
    c.free_slot-freed.new.part.bytes c.free_slot-freed.result.bytes c.free_slot-freed.ensures.lays c.free_slot-freed.ensures.bytes

pub overflow_add-self : goal.overflow_add-self
overflow_add-self c =
    let f = gained-fits _ _ _ _ _ _ (done (goal.at.overflow_add-self c).After-free_slot-freed) c.self.inside.free
    c.self.invariant.free_is in
    omega (arith, f)

pub invariant_of-self-inside : goal.invariant_of-self-inside
invariant_of-self-inside c = record { sound = (done (goal.at.invariant_of-self-inside c).After-free_slot-freed).made.sound }

given : (c : After-free_slot-freed) → purgeable_sum (zone_in c.free_slot-freed.new.part.bytes) + c.purgeable_of-given.result
    ≡ purgeable_sum (zone_in c.self.inside.sound.part.bytes)
given c =
    let zone = zone_of c.args.self.now in
    let test = is_relocatable c.args.number in
    ap (λ z. purgeable_sum z + c.purgeable_of-given.result)
    ((done c).made.zone ∙ ap (λ v. tidy (freed test (zone_of v))) c.self.view_is)
    ∙ ap (λ n. purgeable_sum (tidy (freed test zone)) + n) c.purgeable_of-given.ensures
    ∙ given-released test zone (zone-once c.args.self.now c.args.number)
    ∙ sym (ap (λ v. purgeable_sum (zone_of v)) c.self.view_is)

pub overflow_sub-self : goal.overflow_sub-self
overflow_sub-self c =
    let g = given (goal.at.overflow_sub-self c).After-free_slot-freed in
    let p = c.self.invariant.purgeable_is in
    omega (arith, g, p)

pub invariant_of-self : goal.invariant_of-self
invariant_of-self c =
    let a = (goal.at.invariant_of-self c).After-free_slot-freed in
    let g = given a in
    let p = c.self.invariant.purgeable_is in
    with-marks _ _ _ _ (gained-kept _ _ _ _ _ _ (done a) c.self.inside.free c.self.invariant.free_is) c.note.ensures
    (omega (arith, g, p))

pub returns-clause-zone : goal.returns-clause-zone
returns-clause-zone c = (done (goal.at.returns-clause-zone c).After-free_slot-freed).made.zone
    ∙ ap (λ v. tidy (freed (is_relocatable c.args.number) (zone_of v))) c.self.view_is

pub returns-clause-rest : goal.returns-clause-rest
returns-clause-rest c =
    subst (λ v. IsRest (rest_of v) (rest_in c.free_slot-freed.new.part c.self.inside.sound.unused c.self.inside.moves
    c.self.inside.placings)) c.self.view_is (gained-rest c.self.inside.sound.part c.free_slot-freed.new.part _ _ _ _
    (done (goal.at.returns-clause-rest c).After-free_slot-freed) c.free_slot-freed.ensures.same c.self.inside.moves c.self.inside.placings)

pub note-requires : goal.note-requires
note-requires c =
    let n = c.self.inside in
    let s = c.self.inside.sound.sound in (
      zone_in n.sound.part.bytes,
      replaced-as _ _ _ _ _ _ refl (done (goal.at.note-requires c).After-free_slot-freed).made.zone
          (c.free_slot-freed.ensures.replaced (table-of _ _ _ s) (has-handle _ _ _ s c.args.number
          (subst (λ z. IsTrue (is_used ((rest_of z).slots c.args.number))) (sym c.self.view_is) c.requires))),
      c.self.invariant.marked,
    )
