use Rattle.raw_zone.proofs.Cited.{rules, ◌≡◌, ◌∙◌, ap, lies-kept, written, within, got-written_outside}
use Rattle.raw_zone.proofs.region_zones.RegionZonesZoneMaker.close.Goals as goal

pub returns-clause-left : goal.returns-clause-left
returns-clause-left c =
    lies-kept c.into_part.result.at c.into_part.result.bytes c.args.self.now.region.bytes c.join.new.self.bytes
    c.args._window (search rules) (search rules)
    (within 0 _ c.args.self.now.region.out c.args._window c.join.ensures.was_in_order c.requires.open)
    c.join.ensures.bytes

pub returns-clause-outside : goal.returns-clause-outside
returns-clause-outside c =
    let at : c.into_part.result.at ≡ c.args._window.at = search rules in
    got-written_outside c.args._window c.into_part.result.bytes c.args.self.now.region.bytes c.join.new.self.bytes
    (search rules)
    (within 0 _ c.args.self.now.region.out c.args._window c.join.ensures.was_in_order c.requires.open)
    (c.join.ensures.bytes ∙ ap (λ n. written n c.into_part.result.bytes c.args.self.now.region.bytes) at)
