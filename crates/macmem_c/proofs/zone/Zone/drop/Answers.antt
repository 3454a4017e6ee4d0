use Rattle.macmem_c.proofs.Cited.{◌∙◌, [], ap, length, refl, Site, whole_home, whole_there}
use Rattle.macmem_c.proofs.zone.Zone.drop.Goals as goal

-- the window of the zone's part is out
pub join-requires-clause-out : goal.join-requires-clause-out
join-requires-clause-out c =
    whole_there c.into_part.result.at (length c.into_part.result.bytes) [] c.self.inside.region.out _ _ refl c.self.inside.out
    (ap (λ p. p.at) c.into_part.ensures.part ∙ ap (λ (s : Site). s.window.at) c.into_store.ensures.window)
    (ap (λ p. length p.bytes) c.into_part.ensures.part ∙ ap (λ (s : Site). s.window.len) c.into_store.ensures.window)

-- no other is
pub close-requires : goal.close-requires
close-requires c =
    whole_home c.into_part.result.at (length c.into_part.result.bytes) [] c.self.inside.region.out c.join.new.self.out _ _ refl
    c.self.inside.out
    (ap (λ p. p.at) c.into_part.ensures.part ∙ ap (λ (s : Site). s.window.at) c.into_store.ensures.window)
    (ap (λ p. length p.bytes) c.into_part.ensures.part ∙ ap (λ (s : Site). s.window.len) c.into_store.ensures.window)
    c.join.ensures.out
