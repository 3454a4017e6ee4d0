use Rattle.raw_zone.proofs.Cited.{◌≡◌, ℕ, MatchOption, ap, arith, false, is_some, subst, sym, ◌∙◌, free_sum, serves, IsFewest, has_free}
use Rattle.raw_zone.proofs.Cited.{purged, zone_of, all-given, no-run, le-back}
use Rattle.raw_zone.proofs.zone.RawZoneBlockStore.fewest_purges.Goals as goal

pub returns-then-has_run : goal.returns-then-has_run
returns-then-has_run c = record {
  there = sym c.has_run.ensures ∙ c.if-has_run.true;
  below = λ k l. absurd (omega (arith, l));
}

pub returns-then-falls_short : goal.returns-then-falls_short
returns-then-falls_short c = λ k.
    let zone = zone_of c.args.self.now in
    ap is_some (no-run (has_free c.args.bytes) c.args.bytes (λ run f. le-back c.args.bytes (free_sum run) f)
    (purged k c.args.sparing zone)
    (c.falls_short.ensures c.if-falls_short.true zone k (c.free_if_purged.ensures ∙ all-given zone)))

pub fewest_purges-requires-clause-unserved : goal.fewest_purges-requires-clause-unserved
fewest_purges-requires-clause-unserved c =
    subst (λ v. serves c.args.bytes c.args.sparing (zone_of v) 0 ≡ false) (sym c.self.view_is)
    (sym c.has_run.ensures ∙ c.if-has_run.false)

pub returns : goal.returns
returns c =
    subst (λ v. MatchOption c.fewest_purges.result
    ((purges : ℕ) → serves c.args.bytes c.args.sparing (zone_of v) purges ≡ false)
    (λ fewest. IsFewest (serves c.args.bytes c.args.sparing (zone_of v)) fewest)) c.self.view_is c.fewest_purges.ensures
