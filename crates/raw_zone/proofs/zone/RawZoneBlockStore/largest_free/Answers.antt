use Rattle.raw_zone.proofs.Cited.{◌∙◌, ap, largest_free, zone_of}
use Rattle.raw_zone.proofs.zone.RawZoneBlockStore.largest_free.Goals as goal

pub returns : goal.returns
returns c = c.largest_free.ensures ∙ ap (λ v. largest_free (zone_of v)) c.self.view_is
