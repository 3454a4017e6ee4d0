use Rattle.raw_zone.proofs.Cited.{◌≡◌, ◌∙◌, ◌+◌, Some, [], ap, refl, sym, subst, arith, IfSome, IsSome, sizes, tidy, RunSpot, run_at}
use Rattle.raw_zone.proofs.Cited.{movers, settle, with_run, IsRest, lowered_in_run, zone_in, AreEdges, AreOf, NoneGoes, slot_in, rest_in}
use Rattle.raw_zone.proofs.Cited.{lay_at, rest-made, kept-made, lay-is, lay-bytes, may-end, may-settle, a-spot, zone_of, rest_of}
use Rattle.raw_zone.proofs.Cited.{ChangedRun, if-one, settled-run, replaced-run, settled-edges, still, with-marks}
use Rattle.raw_zone.proofs.zone.RawZone.pack.Goals as goal
use Rattle.raw_zone.proofs.zone.RawZone.pack.Goals.{After-self, After-settle_run-packed}

-- the run
found : (c : After-self) → (r : RunSpot) × (run_at c.args.run (zone_in c.self.inside.sound.part.bytes) ≡ Some r)
found c = a-spot (run_at c.args.run (zone_in c.self.inside.sound.part.bytes))
    (subst (λ v. IsSome (run_at c.args.run (zone_of v))) (sym c.self.view_is) c.requires)

pub settle_run-packed-requires : goal.settle_run-packed-requires
settle_run-packed-requires c =
    let xs = c.self.inside.sound.part.bytes in
    let a = found (goal.at.settle_run-packed-requires c).After-self in
    let l = lay-is _ _ _ c.self.inside.sound.sound c.args.run a.0 a.1 in (
      lay-bytes _ _ _ c.self.inside.sound.sound c.args.run a.0 a.1,
      (
        may-settle _ _ _ c.self.inside.sound.sound c.args.run a.0 a.1
            (c.args.run + sizes (lay_at xs c.args.run).run) (sym (ap (λ z. c.args.run + sizes z.run) l)),
        may-end _ _ _ c.self.inside.sound.sound c.args.run a.0 a.1,
      ),
    )

-- the zone afterwards
done : (c : After-settle_run-packed) → (r : RunSpot) × (run_at c.args.run (zone_in c.self.inside.sound.part.bytes) ≡ Some r)
    × ChangedRun settle (zone_in c.self.inside.sound.part.bytes) r c.settle_run-packed.new.part.bytes c.self.inside.sound.first
    c.self.inside.sound.unused (slot_in c.self.inside.sound.part.bytes)
    × (c.settle_run-packed.result.lowered ≡ lowered_in_run r.run)
    × (c.settle_run-packed.result.stop ≡ c.args.run + sizes r.run)
    × (c.settle_run-packed.result.top ≡ c.args.run + sizes (movers r.run))
done c =
    let xs = c.self.inside.sound.part.bytes in
    let i = c.self.inside.sound.sound in
    let a = a-spot (run_at c.args.run (zone_in xs)) (subst (λ v. IsSome (run_at c.args.run (zone_of v)))
    (sym c.self.view_is) c.requires) in
    let l = lay-is _ _ _ i c.args.run a.0 a.1 in
    let d = settled-run _ _ _ i c.args.run a.0 a.1 (c.args.run + sizes a.0.run) refl
    c.settle_run-packed.result.lowered c.settle_run-packed.new.part.bytes c.settle_run-packed.ensures.settled in (
      a.0,
      a.1,
      d.0,
      d.1,
      c.settle_run-packed.ensures.stop ∙ ap (λ z. c.args.run + sizes z.run) l,
      c.settle_run-packed.ensures.top ∙ ap (λ z. c.args.run + sizes (movers z.run)) l,
    )

pub note_settled-requires-clause-marks : goal.note_settled-requires-clause-marks
note_settled-requires-clause-marks c =
    let d = done (goal.at.note_settled-requires-clause-marks c).After-settle_run-packed in (
      zone_in c.self.inside.sound.part.bytes,
      replaced-run c.args.run c.settle_run-packed.result.stop c.self.inside.sound.sound.tidied d.1 d.4 d.2,
      c.self.invariant.marked,
    )

pub invariant_of-self-inside : goal.invariant_of-self-inside
invariant_of-self-inside c = record { sound = (done (goal.at.invariant_of-self-inside c).After-settle_run-packed).2.made.sound }

pub invariant_of-self : goal.invariant_of-self
invariant_of-self c =
    let d = done (goal.at.invariant_of-self c).After-settle_run-packed in
    let p = d.2.purgeable in
    let b = c.self.invariant.purgeable_is in
    with-marks _ _ _ _ (kept-made _ _ _ _ _ _ d.2.made (c.self.invariant.free_is ∙ sym d.2.free))
    c.note_settled.ensures (omega (arith, p, b))

pub returns-clause-zone : goal.returns-clause-zone
returns-clause-zone c =
    let d = done (goal.at.returns-clause-zone c).After-settle_run-packed in
    subst (λ v. IfSome (run_at c.args.run (zone_of v)) (λ r. zone_in c.settle_run-packed.new.part.bytes ≡ tidy
    (with_run settle r))) c.self.view_is (if-one (run_at c.args.run (zone_in c.self.inside.sound.part.bytes))
    (λ r. zone_in c.settle_run-packed.new.part.bytes ≡ tidy (with_run settle r)) d.0 d.1 d.2.made.zone)

pub returns-clause-rest : goal.returns-clause-rest
returns-clause-rest c =
    let d = done (goal.at.returns-clause-rest c).After-settle_run-packed in
    subst (λ v. IsRest (rest_of v) (rest_in c.settle_run-packed.new.part c.self.inside.sound.unused c.self.inside.moves
    c.self.inside.placings)) c.self.view_is (rest-made c.self.inside.sound.part c.settle_run-packed.new.part
    (slot_in c.self.inside.sound.part.bytes) c.self.inside.sound.unused c.self.inside.moves c.self.inside.placings d.2.made.slots
    d.2.masters c.settle_run-packed.ensures.same)

pub returns-clause-lowered : goal.returns-clause-lowered
returns-clause-lowered c =
    let d = done (goal.at.returns-clause-lowered c).After-settle_run-packed in
    subst (λ v. IfSome (run_at c.args.run (zone_of v)) (λ r. c.settle_run-packed.result.lowered ≡ lowered_in_run r.run))
    c.self.view_is (if-one (run_at c.args.run (zone_in c.self.inside.sound.part.bytes))
    (λ r. c.settle_run-packed.result.lowered ≡ lowered_in_run r.run) d.0 d.1 d.3)

pub returns-clause-stop : goal.returns-clause-stop
returns-clause-stop c =
    let d = done (goal.at.returns-clause-stop c).After-settle_run-packed in
    subst (λ v. IfSome (run_at c.args.run (zone_of v)) (λ r. c.settle_run-packed.result.stop ≡ c.args.run + sizes r.run))
    c.self.view_is (if-one (run_at c.args.run (zone_in c.self.inside.sound.part.bytes))
    (λ r. c.settle_run-packed.result.stop ≡ c.args.run + sizes r.run) d.0 d.1 d.4)

pub returns-clause-top : goal.returns-clause-top
returns-clause-top c =
    let d = done (goal.at.returns-clause-top c).After-settle_run-packed in
    subst (λ v. IfSome (run_at c.args.run (zone_of v))
    (λ r. c.settle_run-packed.result.top ≡ c.args.run + sizes (movers r.run))) c.self.view_is
    (if-one (run_at c.args.run (zone_in c.self.inside.sound.part.bytes))
    (λ r. c.settle_run-packed.result.top ≡ c.args.run + sizes (movers r.run)) d.0 d.1 d.5)

pub note_settled-requires-clause-edges : goal.note_settled-requires-clause-edges
note_settled-requires-clause-edges c =
    let d = done (goal.at.note_settled-requires-clause-edges c).After-settle_run-packed in
    let l = lay-is _ _ _ c.self.inside.sound.sound c.args.run d.0 d.1 in
    settled-edges c.args.run c.settle_run-packed.new.edges d.1 d.2 (subst
    (λ z. AreEdges c.settle_run-packed.new.edges c.args.run (movers z.run)) l
    (c.settle_run-packed.ensures.edges c.args.run [] (omega arith) (c.await_edges.ensures c.args.run)))

pub note_settled-requires-clause-lowest : goal.note_settled-requires-clause-lowest
note_settled-requires-clause-lowest c =
    let d = done (goal.at.note_settled-requires-clause-lowest c).After-settle_run-packed in
    subst (NoneGoes c.lowest_packed-lowest.result) (sym d.2.is)
    (c.lowest_packed-lowest.ensures (zone_in c.self.inside.sound.part.bytes) d.0 c.self.invariant.marked d.1
    c.self.invariant.free_is)

pub note_settled-requires-clause-still : goal.note_settled-requires-clause-still
note_settled-requires-clause-still c = λ z.
    let d = done (goal.at.note_settled-requires-clause-still c).After-settle_run-packed in
    subst (AreOf c.self.inside.marks) (sym (d.2.made.zone
    ∙ still c.args.run (zone_in c.self.inside.sound.part.bytes) d.0 c.self.inside.sound.sound.tidied d.1 (sym d.3 ∙ z)))
    c.self.invariant.marked
