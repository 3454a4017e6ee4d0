use Rattle.raw_zone.proofs.Cited.{◌≡◌, sym, subst, option_map, IsEdge, Spot, spot_at, seen, Tells, zone_of, edge-way, edge-tells}
use Rattle.raw_zone.proofs.zone.RawZoneBlockStore.block_at.Goals as goal

pub walk_from-requires : goal.walk_from-requires
walk_from-requires c =
    edge-way _ _ _ c.self.inside.sound.sound c.args.place
    (subst (λ v. IsEdge c.args.place (zone_of v)) (sym c.self.view_is) c.requires)

pub returns : goal.returns
returns c =
    subst (λ v. c.next_block.result ≡ option_map (λ (s : Spot). seen s.here) (spot_at c.args.place (zone_of v)))
    c.self.view_is (edge-tells _ _ _ c.self.inside.sound.sound c.args.place
    (subst (λ v. IsEdge c.args.place (zone_of v)) (sym c.self.view_is) c.requires)
    c.next_block.result c.next_block.new.self
    (subst (λ l. Tells l c.next_block.result c.next_block.new.self) c.walk_from.ensures c.next_block.ensures))
