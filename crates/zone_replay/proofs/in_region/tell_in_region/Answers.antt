use Rattle.zone_replay.proofs.Cited.{◌≡◌, ◌∙◌, ℕ, ap, sym, subst, length, arith, IfOk, zone_of, fresh, sizes, Site, sizes-fresh, whole_home}
use Rattle.zone_replay.proofs.Cited.{whole_there, telling_text}
use Rattle.zone_replay.proofs.in_region.tell_in_region.Goals as goal

-- the zone is fresh, and fills the region
pub tell-told-requires-clause-zone : goal.tell-told-requires-clause-zone
tell-told-requires-clause-zone c =
    let low = c.requires.low in
    let long : length c.cut.result.bytes ≡ length c.args.region.bytes = c.cut.ensures.part_length ∙ c.len-len.ensures in
    let whole : sizes (zone_of c.new-zone.result) ≡ length c.cut.result.bytes =
    ap sizes c.new-zone.ensures.zone ∙ sizes-fresh (length c.cut.result.bytes) (omega (arith, low, long)) in
    c.new-zone.ensures.zone ∙ ap fresh (sym whole)

-- the window of the zone's part is out
pub join-requires-clause-out : goal.join-requires-clause-out
join-requires-clause-out c =
    let site = c.tell-told.ensures.window ∙ c.new-zone.ensures.window in
    whole_there c.into_part.result.at (length c.into_part.result.bytes) c.args.region.out c.cut.new.self.out _ _
    c.requires.home c.cut.ensures.out
    (ap (λ p. p.at) c.into_part.ensures.part ∙ ap (λ (s : Site). s.window.at) site ∙ c.cut.ensures.part_place)
    (ap (λ p. length p.bytes) c.into_part.ensures.part ∙ ap (λ (s : Site). s.window.len) site
    ∙ c.cut.ensures.part_length)

pub returns-clause-told : goal.returns-clause-told
returns-clause-told c =
    let low = c.requires.low in
    let long : length c.cut.result.bytes ≡ length c.args.region.bytes = c.cut.ensures.part_length ∙ c.len-len.ensures in
    let whole : sizes (zone_of c.new-zone.result) ≡ length c.args.region.bytes =
    ap sizes c.new-zone.ensures.zone ∙ sizes-fresh (length c.cut.result.bytes) (omega (arith, low, long)) ∙ long in
    subst (λ (n : ℕ). IfOk c.tell-told.result.0
    (λ out. out.items ≡ telling_text c.args.telling c.args.resources n c.args.script.now c.args.text.now)) whole
    c.tell-told.ensures.told

pub returns-clause-home : goal.returns-clause-home
returns-clause-home c =
    let site = c.tell-told.ensures.window ∙ c.new-zone.ensures.window in
    whole_home c.into_part.result.at (length c.into_part.result.bytes) c.args.region.out c.cut.new.self.out
    c.join.new.self.out _ _ c.requires.home c.cut.ensures.out
    (ap (λ p. p.at) c.into_part.ensures.part ∙ ap (λ (s : Site). s.window.at) site ∙ c.cut.ensures.part_place)
    (ap (λ p. length p.bytes) c.into_part.ensures.part ∙ ap (λ (s : Site). s.window.len) site
    ∙ c.cut.ensures.part_length)
    c.join.ensures.out
