use Rattle.raw_zone.proofs.Cited.{◌≡◌, ◌∙◌, ◌+◌, IsTrue, Some, ap, sym, subst, arith, IfSome, IsSomeAnd, Free, sizes, tidy, RunSpot, run_at}
use Rattle.raw_zone.proofs.Cited.{has_free, movers, with_run, lifted, zone_in, AreEdges, slot_in, rest-made, rest-placed, kept-made, lay-is}
use Rattle.raw_zone.proofs.Cited.{lay-bytes, may-end, ChangedRun, if-one, replaced-run, room-run, may-lift, lifted-run, lifted-zone}
use Rattle.raw_zone.proofs.Cited.{free_span-le, lifted-edges, with-marks, zone_of}
use Rattle.block_store.specs.Run.{low}
use Rattle.raw_zone.proofs.zone.RawZoneBlockStore.raise.Goals as goal
use Rattle.raw_zone.proofs.zone.RawZoneBlockStore.raise.Goals.{After-raise_run-stop}

pub raise_run-stop-requires : goal.raise_run-stop-requires
raise_run-stop-requires c =
    let xs = c.self.inside.sound.part.bytes in
    let a = room-run (zone_in xs) c.args.run c.args.bytes (subst (λ v. IsSomeAnd (run_at c.args.run (zone_of v))
    (λ r. IsTrue (has_free c.args.bytes r.run))) (sym c.self.view_is) c.requires.run) in (
      lay-bytes _ _ _ c.self.inside.sound.sound c.args.run a.0 a.1,
      may-lift _ _ _ c.self.inside.sound.sound c.args.run a.0 a.1 c.args.bytes c.requires.some a.2 c.requires.even,
      may-end _ _ _ c.self.inside.sound.sound c.args.run a.0 a.1,
    )

-- the zone afterwards
done : (c : After-raise_run-stop) → (r : RunSpot) × (run_at c.args.run (zone_in c.self.inside.sound.part.bytes) ≡ Some r)
    × ChangedRun (lifted c.args.bytes) (zone_in c.self.inside.sound.part.bytes) r c.raise_run-stop.new.part.bytes
    c.self.inside.sound.first c.self.inside.sound.unused (slot_in c.self.inside.sound.part.bytes)
    × (c.raise_run-stop.result ≡ c.args.run + sizes r.run)
    × (tidy (with_run (lifted c.args.bytes) r) ≡ tidy (with_run (low (Free c.args.bytes)) r))
done c =
    let xs = c.self.inside.sound.part.bytes in
    let i = c.self.inside.sound.sound in
    let a = room-run (zone_in xs) c.args.run c.args.bytes (subst (λ v. IsSomeAnd (run_at c.args.run (zone_of v))
    (λ r. IsTrue (has_free c.args.bytes r.run))) (sym c.self.view_is) c.requires.run) in
    let l = lay-is _ _ _ i c.args.run a.0 a.1 in (
      a.0,
      a.1,
      lifted-run _ _ _ i c.args.run a.0 a.1 c.args.bytes c.requires.some a.2
          c.raise_run-stop.new.part.bytes c.raise_run-stop.ensures.lifted,
      c.raise_run-stop.ensures.stop ∙ ap (λ z. c.args.run + sizes z.run) l,
      lifted-zone _ _ _ i c.args.run a.0 a.1 c.args.bytes c.requires.some a.2,
    )

pub note_packed-requires-clause-marks : goal.note_packed-requires-clause-marks
note_packed-requires-clause-marks c =
    let d = done (goal.at.note_packed-requires-clause-marks c).After-raise_run-stop in (
      zone_in c.self.inside.sound.part.bytes,
      replaced-run c.args.run c.raise_run-stop.result c.self.inside.sound.sound.tidied d.1 d.3 d.2,
      c.self.invariant.marked,
    )

pub invariant_of-self-inside : goal.invariant_of-self-inside
invariant_of-self-inside c = record { sound = (done (goal.at.invariant_of-self-inside c).After-raise_run-stop).2.made.sound }

pub invariant_of-self : goal.invariant_of-self
invariant_of-self c =
    let d = done (goal.at.invariant_of-self c).After-raise_run-stop in
    let p = d.2.purgeable in
    let b = c.self.invariant.purgeable_is in
    with-marks _ _ _ _ (kept-made _ _ _ _ _ _ d.2.made (c.self.invariant.free_is ∙ sym d.2.free)) c.note_packed.ensures
    (omega (arith, p, b))

pub returns-clause-ok : goal.returns-clause-ok
returns-clause-ok c =
    let d = done (goal.at.returns-clause-ok c).After-raise_run-stop in
    subst (λ v. IfSome (run_at c.args.run (zone_of v))
    (λ r. zone_in c.raise_run-stop.new.part.bytes ≡ tidy (with_run (low (Free c.args.bytes)) r))) c.self.view_is
    (if-one (run_at c.args.run (zone_in c.self.inside.sound.part.bytes))
    (λ r. zone_in c.raise_run-stop.new.part.bytes ≡ tidy (with_run (low (Free c.args.bytes)) r)) d.0 d.1
    (d.2.made.zone ∙ d.4))

pub returns-clause-rest : goal.returns-clause-rest
returns-clause-rest c =
    let d = done (goal.at.returns-clause-rest c).After-raise_run-stop in
    rw (← c.self.view_is) (rest-placed _ c.raise_run-stop.new.part c.self.inside.sound.unused c.self.inside.moves
    c.self.inside.placings c.saturating_add-self-inside.result
    (rest-made c.self.inside.sound.part c.raise_run-stop.new.part (slot_in c.self.inside.sound.part.bytes) c.self.inside.sound.unused
    c.self.inside.moves c.self.inside.placings d.2.made.slots d.2.masters c.raise_run-stop.ensures.same)
    (omega (arith, c.saturating_add-self-inside.ensures)))

pub note_packed-requires-clause-edges : goal.note_packed-requires-clause-edges
note_packed-requires-clause-edges c =
    let d = done (goal.at.note_packed-requires-clause-edges c).After-raise_run-stop in
    let l = lay-is _ _ _ c.self.inside.sound.sound c.args.run d.0 d.1 in
    lifted-edges c.args.run c.raise_run-stop.new.edges d.1 c.args.bytes c.requires.some d.2 (subst
    (λ z. AreEdges c.raise_run-stop.new.edges (c.args.run + c.args.bytes) (movers z.run)) l
    (c.raise_run-stop.ensures.edges (c.await_edges.ensures (c.args.run + c.args.bytes))))

pub overflow_add-run : goal.overflow_add-run
overflow_add-run c =
    let a = room-run (zone_in c.self.inside.sound.part.bytes) c.args.run c.args.bytes (subst
    (λ v. IsSomeAnd (run_at c.args.run (zone_of v)) (λ r. IsTrue (has_free c.args.bytes r.run))) (sym c.self.view_is)
    c.requires.run) in
    let l = lay-is _ _ _ c.self.inside.sound.sound c.args.run a.0 a.1 in
    let f = free_span-le a.0.run in
    let e = a.2 in
    let s = c.raise_run-stop.ensures.stop ∙ ap (λ z. c.args.run + sizes z.run) l in
    let t = c.raise_run-stop.type_inv in
    omega (arith, f, e, s, t)

pub note_packed-requires-clause-lowest : goal.note_packed-requires-clause-lowest
note_packed-requires-clause-lowest c =
    let d = done (goal.at.note_packed-requires-clause-lowest c).After-raise_run-stop in
    c.lowest_under-lowest.ensures c.raise_run-stop.result (zone_in c.self.inside.sound.part.bytes)
    (zone_in c.raise_run-stop.new.part.bytes) c.self.invariant.marked
    (replaced-run c.args.run c.raise_run-stop.result c.self.inside.sound.sound.tidied d.1 d.3 d.2)
