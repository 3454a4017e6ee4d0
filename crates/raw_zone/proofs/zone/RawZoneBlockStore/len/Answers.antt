use Rattle.raw_zone.proofs.Cited.{sym, ap, ◌∙◌, zone_of, sizes, sizes-length}
use Rattle.raw_zone.proofs.zone.RawZoneBlockStore.len.Goals as goal

pub returns : goal.returns
returns c = let i = c.self.inside.sound.sound in c.len.ensures.count ∙ sym (sizes-length _ _ _ _ i.lays)
    ∙ ap (λ v. sizes (zone_of v)) c.self.view_is
