use Rattle.raw_zone.proofs.Cited.{◌≡◌, ◌∙◌, IsTrue, true, sym, subst, arith, IfSome, tidy, is_relocatable, run_at, has, settle, high}
use Rattle.raw_zone.proofs.Cited.{with_run, IsRest, zone_in, slot_in, rest-placed, ChangedRun, if-one, IsPacked, is-packed, kept-changed}
use Rattle.raw_zone.proofs.Cited.{rest-changed, purgeable-changed, replaced-changed, slot-inside, hoist-bytes, may-hoist, hoist-changed}
use Rattle.raw_zone.proofs.Cited.{zone_of, rest_of, zone-tidied, zone-once, with-marks}
use Rattle.raw_zone.proofs.zone.RawZoneBlockStore.hoist.Goals as goal
use Rattle.raw_zone.proofs.zone.RawZoneBlockStore.hoist.Goals.{After-self, After-note-arg-2-1}

abbrev Found : After-self → Type 0
Found c = IsPacked c.self.inside.sound.part.bytes c.self.inside.sound.first c.self.inside.sound.unused c.args.run
    c.pack-packed.result.top c.pack-packed.result.stop (zone_of c.args.self.now)

found : (c : After-self) → (k : Found c) × (has (is_relocatable c.args.number) k.spot.run ≡ true)
found c =
    let o = run_at c.args.run (zone_of c.args.self.now) in
    let z = subst (λ v. IfSome o (λ r. zone_of v ≡ tidy (with_run settle r))) (sym c.self.view_is)
    c.pack-packed.ensures.zone in
    is-packed c.self.inside.sound.part.bytes c.self.inside.sound.first c.self.inside.sound.unused c.args.run c.pack-packed.result.top
    c.pack-packed.result.stop (zone_of c.args.self.now) (λ r. IsTrue (has (is_relocatable c.args.number) r.run))
    c.self.inside.sound.sound (zone-tidied c.args.self.now) c.requires z c.pack-packed.ensures.top c.pack-packed.ensures.stop

pub read_word-place-requires : goal.read_word-place-requires
read_word-place-requires c =
    let a = found (goal.at.read_word-place-requires c).After-self in
    slot-inside a.0 c.args.number a.1

pub hoist_block-requires : goal.hoist_block-requires
hoist_block-requires c =
    let a = found (goal.at.hoist_block-requires c).After-self in (
      hoist-bytes a.0 c.args.number a.1 c.read_word-place.result c.read_word-place.ensures,
      may-hoist a.0 c.args.number a.1 c.read_word-place.result c.read_word-place.ensures,
    )

done : (c : After-note-arg-2-1) → (k : Found (goal.at.note-requires c).After-self)
    × ChangedRun (high (is_relocatable c.args.number)) (zone_of c.args.self.now) k.spot c.hoist_block.new.part.bytes
    c.self.inside.sound.first c.self.inside.sound.unused (slot_in c.self.inside.sound.part.bytes)
done c =
    let a = found (goal.at.note-requires c).After-self in (
      a.0,
      hoist-changed a.0 c.args.number a.1 c.read_word-place.result c.read_word-place.ensures
          (zone-once c.args.self.now) c.hoist_block.new.part.bytes c.hoist_block.ensures.hoisted,
    )

pub note-requires : goal.note-requires
note-requires c =
    let d = done (goal.at.note-requires c).After-note-arg-2-1 in (
      zone_in c.self.inside.sound.part.bytes,
      replaced-changed d.0 (high (is_relocatable c.args.number)) c.hoist_block.new.part.bytes
          (slot_in c.self.inside.sound.part.bytes) d.1,
      c.self.invariant.marked,
    )

pub invariant_of-self-inside : goal.invariant_of-self-inside
invariant_of-self-inside c =
    let a = found (goal.at.invariant_of-self-inside c).After-self in
    let d = hoist-changed a.0 c.args.number a.1 c.read_word-place.result c.read_word-place.ensures
    (zone-once c.args.self.now) c.hoist_block.new.part.bytes c.hoist_block.ensures.hoisted in
    record { sound = d.made.sound }

pub invariant_of-self : goal.invariant_of-self
invariant_of-self c =
    let d = done (goal.at.invariant_of-self c).After-note-arg-2-1 in
    with-marks _ _ _ _ (kept-changed d.0 (high (is_relocatable c.args.number)) c.hoist_block.new.part.bytes
    (slot_in c.self.inside.sound.part.bytes) c.self.inside.free d.1 c.self.invariant.free_is) c.note.ensures
    (c.self.invariant.purgeable_is ∙ purgeable-changed d.0 (high (is_relocatable c.args.number))
    c.hoist_block.new.part.bytes (slot_in c.self.inside.sound.part.bytes) d.1)

pub returns-clause-zone : goal.returns-clause-zone
returns-clause-zone c =
    let d = done (goal.at.returns-clause-zone c).After-note-arg-2-1 in
    if-one (run_at c.args.run (zone_of c.args.self.now))
    (λ r. zone_in c.hoist_block.new.part.bytes ≡ tidy (with_run (high (is_relocatable c.args.number)) r)) d.0.spot
    d.0.is d.1.made.zone

pub returns-clause-rest : goal.returns-clause-rest
returns-clause-rest c =
    let d = done (goal.at.returns-clause-rest c).After-note-arg-2-1 in
    rest-placed _ c.hoist_block.new.part c.self.inside.sound.unused c.self.inside.moves c.self.inside.placings
    c.saturating_add-self-inside.result (rest-changed c.self.inside.sound.part c.hoist_block.new.part d.0 (high (is_relocatable
    c.args.number)) (rest_of c.args.self.now) c.self.inside.moves c.self.inside.placings d.1
    (subst (λ v. IsRest (rest_of c.args.self.now) (rest_of v)) (sym c.self.view_is) c.pack-packed.ensures.rest)
    c.hoist_block.ensures.same) (omega (arith, c.saturating_add-self-inside.ensures))
