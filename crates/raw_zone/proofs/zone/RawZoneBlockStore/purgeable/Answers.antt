use Rattle.raw_zone.proofs.Cited.{◌∙◌, ap, sym, subst, ◌<◌, ◌≤◌, ◌^◌, arith, sizes, most_purges, zone_of, left-zone, on-way, sizes-fit}
use Rattle.raw_zone.proofs.Cited.{zone_in, purgeable_sum, none-goes}
use Rattle.raw_zone.proofs.zone.RawZoneBlockStore.purgeable.Goals as goal

pub returns-then-self-eq0 : goal.returns-then-self-eq0
returns-then-self-eq0 c =
    let b = c.self.invariant.purgeable_is in
    let z = c.if-self-eq0.true in
    sym (none-goes c.args.sparing (zone_of c.args.self.now)
    (subst (λ v. purgeable_sum (zone_of v) ≤ 0) c.self.view_is (omega (arith, b, z))))

pub walk_from-requires : goal.walk_from-requires
walk_from-requires c = let z = c.self.inside in on-way _ _ _ c.self.inside.sound.sound

pub purgeable_in-requires : goal.purgeable_in-requires
purgeable_in-requires c =
    subst (λ l. sizes l < 2 ^ 32) (sym c.walk_from.ensures) (sizes-fit _ _ _ c.self.inside.sound.sound)

pub returns-then-frees_one : goal.returns-then-frees_one
returns-then-frees_one c =
    c.purgeable_in.ensures
    ∙ ap (most_purges c.args.sparing) (c.walk_from.ensures ∙ left-zone c.self.inside.sound.part.bytes ∙ ap zone_of c.self.view_is)

pub count_purgeable-requires-clause-begins : goal.count_purgeable-requires-clause-begins
count_purgeable-requires-clause-begins c =
    c.start.ensures.begins (zone_in c.self.inside.sound.part.bytes) c.self.invariant.marked

pub count_purgeable-requires-clause-none : goal.count_purgeable-requires-clause-none
count_purgeable-requires-clause-none c =
    c.start.ensures.none (zone_in c.self.inside.sound.part.bytes) c.self.invariant.marked

pub returns : goal.returns
returns c = c.count_purgeable.ensures ∙ ap (λ v. most_purges c.args.sparing (zone_of v)) c.self.view_is
