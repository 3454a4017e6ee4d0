use Rattle.raw_zone.proofs.Cited.{◌∙◌, ap, sym, subst, ◌<◌, ◌^◌, sizes, packed_stretches, runs, zone_of, left-zone, on-way, sizes-fit}
use Rattle.raw_zone.proofs.zone.RawZoneBlockStore.packed_runs.Goals as goal

pub walk_from-requires : goal.walk_from-requires
walk_from-requires c = let z = c.self.inside in on-way _ _ _ c.self.inside.sound.sound

pub packed_runs_in-requires : goal.packed_runs_in-requires
packed_runs_in-requires c =
    subst (λ l. sizes l < 2 ^ 32) (sym c.walk_from.ensures) (sizes-fit _ _ _ c.self.inside.sound.sound)

pub returns : goal.returns
returns c = c.packed_runs_in.ensures ∙ ap (λ l. packed_stretches (runs l))
    (c.walk_from.ensures ∙ left-zone c.self.inside.sound.part.bytes ∙ ap zone_of c.self.view_is)
