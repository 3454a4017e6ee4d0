use Rattle.raw_zone.proofs.Cited.{◌≡◌, None, subst, arith, free_sum, has_free, run_spot, zone_of, zone_in, no-run, le-back}
use Rattle.raw_zone.proofs.zone.RawZoneBlockStore.find_run.Goals as goal

pub returns-then-self-bytes : goal.returns-then-self-bytes
returns-then-self-bytes c =
    let f = c.self.invariant.free_is in
    let l = c.if-self-bytes.true in
    subst (λ v. run_spot (has_free c.args.bytes) (zone_of v) ≡ None) c.self.view_is
    (no-run (has_free c.args.bytes) c.args.bytes (λ run k. le-back c.args.bytes (free_sum run) k)
    (zone_in c.self.inside.sound.part.bytes) (omega (arith, f, l)))
