use Rattle.raw_zone.proofs.Cited.{◌≡◌, ◌+◌, Some, None, ap, sym, subst, arith, IfSome, IsSome, sizes, next_run, RunSpot, run_at, zone_of}
use Rattle.raw_zone.proofs.Cited.{zone_in, run-way, left-fits, a-spot, if-spot, next-fits, next-none, next-some}
use Rattle.raw_zone.proofs.zone.RawZoneBlockStore.next_run.Goals as goal

pub walk_from-requires : goal.walk_from-requires
walk_from-requires c =
    let z = c.self.inside in
    let a = a-spot (run_at c.args.run (zone_in z.sound.part.bytes))
    (subst (λ v. IsSome (run_at c.args.run (zone_of v))) (sym c.self.view_is) c.requires) in
    run-way _ _ _ c.self.inside.sound.sound c.args.run a.0 a.1

pub next_run_in-requires : goal.next_run_in-requires
next_run_in-requires c =
    let z = c.self.inside in
    let a = a-spot (run_at c.args.run (zone_in z.sound.part.bytes))
    (subst (λ v. IsSome (run_at c.args.run (zone_of v))) (sym c.self.view_is) c.requires) in
    let f = left-fits _ _ _ c.self.inside.sound.sound c.args.run a.0 a.1 in
    let e = ap sizes c.walk_from.ensures in
    omega (arith, f, e)

pub overflow_add-result : goal.overflow_add-result
overflow_add-result c =
    let z = c.self.inside in
    let a = a-spot (run_at c.args.run (zone_in z.sound.part.bytes))
    (subst (λ v. IsSome (run_at c.args.run (zone_of v))) (sym c.self.view_is) c.requires) in
    let f = next-fits _ _ _ c.self.inside.sound.sound c.args.run a.0 a.1 c.walk_from.result
    c.walk_from.ensures c.in-Some.bytes c.in-Some.ensures in
    omega (arith, f)

pub returns-in-Some : goal.returns-in-Some
returns-in-Some c =
    let z = c.self.inside in
    let is = λ (r : RunSpot). Some (c.args.run + c.in-Some.bytes) ≡ next_run r in
    subst (λ v. IfSome (run_at c.args.run (zone_of v)) is) c.self.view_is
    (if-spot (run_at c.args.run (zone_in z.sound.part.bytes)) is (λ r e.
    next-some _ _ _ c.self.inside.sound.sound c.args.run r e c.walk_from.result
    c.walk_from.ensures c.in-Some.bytes c.in-Some.ensures))

pub returns-in-None : goal.returns-in-None
returns-in-None c =
    let z = c.self.inside in
    let is = λ (r : RunSpot). None ≡ next_run r in
    subst (λ v. IfSome (run_at c.args.run (zone_of v)) is) c.self.view_is
    (if-spot (run_at c.args.run (zone_in z.sound.part.bytes)) is (λ r e.
    next-none _ _ _ c.self.inside.sound.sound c.args.run r e c.walk_from.result c.walk_from.ensures c.in-None.ensures))
