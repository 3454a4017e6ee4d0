use Rattle.raw_zone.proofs.Cited.{◌∙◌, ap, largest_run, zone_of}
use Rattle.raw_zone.proofs.zone.RawZoneBlockStore.largest_run.Goals as goal

pub returns : goal.returns
returns c = c.largest_run.ensures ∙ ap (λ v. largest_run (zone_of v)) c.self.view_is
