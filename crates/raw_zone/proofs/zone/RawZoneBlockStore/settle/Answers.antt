use Rattle.raw_zone.proofs.Cited.{◌≡◌, sym, subst, IfSome, tidy, run_at, settle, with_run, none-rises, settle-counted, zone_in, zone_of}
use Rattle.raw_zone.proofs.Cited.{zone-once, zone-tidied}
use Rattle.raw_zone.proofs.zone.RawZoneBlockStore.settle.Goals as goal
use Rattle.raw_zone.proofs.zone.RawZoneBlockStore.settle.Goals.{After-self}

after : (c : After-self) → IfSome (run_at c.args.run (zone_of c.args.self.now))
    (λ r. zone_in c.self.inside.sound.part.bytes ≡ tidy (with_run settle r))
after c =
    subst (λ v. IfSome (run_at c.args.run (zone_of c.args.self.now)) (λ r. zone_of v ≡ tidy (with_run settle r)))
    (sym c.self.view_is)
    c.pack-packed.ensures.zone

pub returns-clause-counted : goal.returns-clause-counted
returns-clause-counted c =
    settle-counted (zone_of c.args.self.now) (zone_in c.self.inside.sound.part.bytes) c.args.run (zone-once c.args.self.now)
    (zone-tidied c.args.self.now)
    (after (goal.at.returns-clause-counted c).After-self)

pub returns-clause-lower : goal.returns-clause-lower
returns-clause-lower c =
    none-rises (zone_of c.args.self.now) (zone_in c.self.inside.sound.part.bytes) c.args.run c.requires
    (after (goal.at.returns-clause-lower c).After-self)
