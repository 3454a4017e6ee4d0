use Rattle.raw_zone.proofs.Cited.{◌∙◌, ap, sym, subst, ◌<◌, ◌≤◌, ◌^◌, arith, sizes, tidy, FindsLowest, may_be_purged, opened, spared}
use Rattle.raw_zone.proofs.Cited.{zone_of, left-zone, on-way, sizes-fit, zone_in, purgeable_sum, none-next}
use Rattle.raw_zone.proofs.zone.RawZoneBlockStore.next_purgeable.Goals as goal

pub returns-then-self-eq0 : goal.returns-then-self-eq0
returns-then-self-eq0 c =
    let b = c.self.invariant.purgeable_is in
    let z = c.if-self-eq0.true in
    none-next c.args.sparing 0 (zone_of c.args.self.now)
    (subst (λ v. purgeable_sum (zone_of v) ≤ 0) c.self.view_is (omega (arith, b, z)))

pub walk_from-requires : goal.walk_from-requires
walk_from-requires c = let z = c.self.inside in on-way _ _ _ c.self.inside.sound.sound

pub next_purgeable_in-requires : goal.next_purgeable_in-requires
next_purgeable_in-requires c =
    subst (λ l. sizes l < 2 ^ 32) (sym c.walk_from.ensures) (sizes-fit _ _ _ c.self.inside.sound.sound)

pub returns-then-frees_one : goal.returns-then-frees_one
returns-then-frees_one c =
    subst (λ l. FindsLowest (may_be_purged (spared c.args.sparing))
    (tidy (opened c.args.sparing l)) c.next_purgeable_in.result)
    (c.walk_from.ensures ∙ left-zone c.self.inside.sound.part.bytes ∙ ap zone_of c.self.view_is) c.next_purgeable_in.ensures

pub next_purgeable-requires-clause-begins : goal.next_purgeable-requires-clause-begins
next_purgeable-requires-clause-begins c =
    c.start.ensures.begins (zone_in c.self.inside.sound.part.bytes) c.self.invariant.marked

pub next_purgeable-requires-clause-none : goal.next_purgeable-requires-clause-none
next_purgeable-requires-clause-none c =
    c.start.ensures.none (zone_in c.self.inside.sound.part.bytes) c.self.invariant.marked

pub returns : goal.returns
returns c =
    subst (λ v. FindsLowest (may_be_purged (spared c.args.sparing))
    (tidy (opened c.args.sparing (zone_of v))) c.next_purgeable.result) c.self.view_is c.next_purgeable.ensures
