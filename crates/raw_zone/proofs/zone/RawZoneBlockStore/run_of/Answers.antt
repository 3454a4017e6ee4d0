use Rattle.raw_zone.proofs.Cited.{◌≡◌, ◌&&◌, None, arith, subst, and_parts, free_sum, is_relocatable, FindsLowestRun, has, has_free}
use Rattle.raw_zone.proofs.Cited.{run_spot, zone_of, zone_in, no-run, le-back}
use Rattle.raw_zone.proofs.zone.RawZoneBlockStore.run_of.Goals as goal

pub returns-then-self-bytes : goal.returns-then-self-bytes
returns-then-self-bytes c =
    let f = c.self.invariant.free_is in
    let l = c.if-self-bytes.true in
    subst (λ v. run_spot (λ run. has (is_relocatable c.args.number) run && has_free c.args.bytes run) (zone_of v) ≡ None)
    c.self.view_is
    (no-run (λ run. has (is_relocatable c.args.number) run && has_free c.args.bytes run) c.args.bytes
    (λ run f. le-back c.args.bytes (free_sum run)
    (and_parts (has (is_relocatable c.args.number) run) (has_free c.args.bytes run) f).1)
    (zone_in c.self.inside.sound.part.bytes) (omega (arith, f, l)))

pub returns : goal.returns
returns c = subst (λ v. FindsLowestRun (λ run. has (is_relocatable c.args.number) run && has_free c.args.bytes run)
    (zone_of v) c.run_of.result) c.self.view_is c.run_of.ensures
