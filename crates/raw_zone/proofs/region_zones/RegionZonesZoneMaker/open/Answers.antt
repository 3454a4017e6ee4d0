use Rattle.raw_zone.proofs.Cited.{rules, ℕ, length-replicate, lies-kept, got-written_outside}
use Rattle.raw_zone.proofs.region_zones.RegionZonesZoneMaker.open.Goals as goal

pub returns-clause-left : goal.returns-clause-left
returns-clause-left c =
    lies-kept c.args.window.at _ c.args.self.now.region.bytes c.cut-part.new.self.bytes c.args.window (search rules)
    (length-replicate {A = ℕ} c.args.window.len 0) c.requires.inside c.cut-part.ensures.bytes

pub returns-clause-outside : goal.returns-clause-outside
returns-clause-outside c =
    got-written_outside c.args.window _ c.args.self.now.region.bytes c.cut-part.new.self.bytes
    (length-replicate {A = ℕ} c.args.window.len 0) c.requires.inside c.cut-part.ensures.bytes
