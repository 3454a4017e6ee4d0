use Rattle.raw_zone.proofs.Cited.{◌≡◌, ◌≤◌, ◌∙◌, ◌&&◌, ℕ, MatchOption, ap, false, is_some, subst, sym, and_parts, count, free_sum}
use Rattle.raw_zone.proofs.Cited.{is_relocatable, serves_block, IsFewest, has, has_free, purged, zone_of, zone-once, all-given, no-run}
use Rattle.raw_zone.proofs.Cited.{le-back}
use Rattle.raw_zone.proofs.zone.RawZoneBlockStore.fewest_for_block.Goals as goal

pub returns-then-falls_short : goal.returns-then-falls_short
returns-then-falls_short c = λ k.
    let zone = zone_of c.args.self.now in
    ap is_some (no-run (λ run. has (is_relocatable c.args.number) run && has_free c.args.bytes run) c.args.bytes
    (λ run f. le-back c.args.bytes (free_sum run)
    (and_parts (has (is_relocatable c.args.number) run) (has_free c.args.bytes run) f).1)
    (purged k c.args.sparing zone)
    (c.falls_short.ensures c.if-falls_short.true zone k (c.free_if_purged.ensures ∙ all-given zone)))

pub fewest_for_block-requires-clause-once : goal.fewest_for_block-requires-clause-once
fewest_for_block-requires-clause-once c =
    subst (λ v. count (is_relocatable c.args.number) (zone_of v) ≤ 1) (sym c.self.view_is)
    (zone-once c.args.self.now c.args.number)

pub returns : goal.returns
returns c =
    subst (λ v. MatchOption c.fewest_for_block.result
    ((purges : ℕ) → serves_block c.args.number c.args.bytes c.args.sparing (zone_of v) purges ≡ false)
    (λ fewest. IsFewest (serves_block c.args.number c.args.bytes c.args.sparing (zone_of v)) fewest)) c.self.view_is
    c.fewest_for_block.ensures
