use Rattle.raw_zone.proofs.Cited.{◌≡◌, ◌<◌, ◌^◌, ◌∙◌, List, Option, Some, None, ap, is_some, subst, sym, ℕ, Block, sizes, FindsLowestRun}
use Rattle.raw_zone.proofs.Cited.{has_free, run_spot, purged, zone_of, zone-tidied, left-zone, on-way, sizes-fit}
use Rattle.raw_zone.proofs.zone.RawZone.has_run.Goals as goal

-- a run is found where there is one
found : (bytes : ℕ) (zone : List Block) (o : Option ℕ) → FindsLowestRun (has_free bytes) zone o
    → is_some o ≡ is_some (run_spot (has_free bytes) zone)
found bytes zone None f = sym (ap is_some f)
found bytes zone (Some place) f = sym (ap is_some f.1)

pub returns-then-is_as_it_stands : goal.returns-then-is_as_it_stands
returns-then-is_as_it_stands c =
    let zone = zone_of c.args.self.now in
    c.is_some.ensures ∙ found c.args.bytes zone c.find_run.result c.find_run.ensures
    ∙ ap (λ z. is_some (run_spot (has_free c.args.bytes) z))
    (sym (c.is_as_it_stands.ensures c.if-is_as_it_stands.true zone (zone-tidied c.args.self.now)))

pub walk_from-requires : goal.walk_from-requires
walk_from-requires c = let z = c.self.inside in on-way _ _ _ c.self.inside.sound.sound

pub find_run_in-requires : goal.find_run_in-requires
find_run_in-requires c =
    subst (λ l. sizes l < 2 ^ 32) (sym c.walk_from.ensures) (sizes-fit _ _ _ c.self.inside.sound.sound)

pub returns : goal.returns
returns c =
    c.is_some-2.ensures
    ∙ found c.args.bytes (purged 0 c.args.sparing (zone_of c.args.self.now)) c.find_run_in.result
    (subst (λ z. FindsLowestRun (has_free c.args.bytes) (purged 0 c.args.sparing z) c.find_run_in.result)
    (c.walk_from.ensures ∙ left-zone c.self.inside.sound.part.bytes ∙ ap zone_of c.self.view_is) c.find_run_in.ensures)
