use Rattle.desk.proofs.Cited.{◌≡◌, ◌∙◌, ℕ, ap, sym, subst, length, arith, IfOk, zone_of, fresh, sizes, Site, alone, heap_alone, sizes-fresh}
use Rattle.applications.specs.Alone as gives
use Rattle.desk.proofs.WholeRegion.{whole_laid, whole_lies}
use Rattle.desk.proofs.Cited.{whole_home, whole_there}
use Rattle.desk.proofs.giving.give_in_region.Goals as goal

-- the zone is fresh, and fills the region
pub give_in-given-requires-clause-zone : goal.give_in-given-requires-clause-zone
give_in-given-requires-clause-zone g c =
    let low = c.requires.low in
    let long : length c.cut.result.bytes ≡ length c.args.region.bytes = c.cut.ensures.part_length ∙ c.len-len.ensures in
    let whole : sizes (zone_of c.new-zone.result) ≡ length c.cut.result.bytes =
    ap sizes c.new-zone.ensures.zone ∙ sizes-fresh (length c.cut.result.bytes) (omega (arith, low, long)) in
    c.new-zone.ensures.zone ∙ ap fresh (sym whole)

-- the window of the zone's part is out
pub join-requires-clause-out : goal.join-requires-clause-out
join-requires-clause-out g c =
    let site = c.give_in-given.ensures.window ∙ c.new-zone.ensures.window in
    whole_there c.into_part.result.at (length c.into_part.result.bytes) c.args.region.out c.cut.new.self.out _ _
    c.requires.home c.cut.ensures.out
    (ap (λ p. p.at) c.into_part.ensures.part ∙ ap (λ (s : Site). s.window.at) site ∙ c.cut.ensures.part_place)
    (ap (λ p. length p.bytes) c.into_part.ensures.part ∙ ap (λ (s : Site). s.window.len) site
    ∙ c.cut.ensures.part_length)

pub returns-clause-given : goal.returns-clause-given
returns-clause-given g c =
    let low = c.requires.low in
    let long : length c.cut.result.bytes ≡ length c.args.region.bytes = c.cut.ensures.part_length ∙ c.len-len.ensures in
    let whole : sizes (zone_of c.new-zone.result) ≡ length c.args.region.bytes =
    ap sizes c.new-zone.ensures.zone ∙ sizes-fresh (length c.cut.result.bytes) (omega (arith, low, long)) ∙ long in
    subst (λ (n : ℕ). IfOk c.give_in-given.result.0
    (λ (given : gives.Alone). given ≡ alone c.args.resources n c.args.script.now c.args.steps c.args.quit)) whole
    c.give_in-given.ensures.given

pub returns-clause-lies : goal.returns-clause-lies
returns-clause-lies g c =
    let low = c.requires.low in
    let long : length c.cut.result.bytes ≡ length c.args.region.bytes = c.cut.ensures.part_length ∙ c.len-len.ensures in
    let whole : sizes (zone_of c.new-zone.result) ≡ length c.args.region.bytes =
    ap sizes c.new-zone.ensures.zone ∙ sizes-fresh (length c.cut.result.bytes) (omega (arith, low, long)) ∙ long in
    let site = c.give_in-given.ensures.window ∙ c.new-zone.ensures.window in
    let at = ap (λ (s : Site). s.window.at) site in
    let len = ap (λ (s : Site). s.window.len) site in
    whole_lies c.give_in-given.result.0 _ _ _
    (λ (n : ℕ). heap_alone c.args.resources n c.args.script.now c.args.steps c.args.quit) whole
    c.into_part.result.at c.into_part.result.bytes c.cut.new.self.bytes c.join.new.self.bytes _
    (ap (λ p. p.at) c.into_part.ensures.part ∙ at ∙ c.cut.ensures.part_place)
    (ap (λ p. length p.bytes) c.into_part.ensures.part ∙ len ∙ long ∙ sym c.cut.ensures.same_length)
    c.join.ensures.bytes c.give_in-given.ensures.stored c.into_part.ensures.laid

pub returns-clause-laid : goal.returns-clause-laid
returns-clause-laid g c =
    let long : length c.cut.result.bytes ≡ length c.args.region.bytes = c.cut.ensures.part_length ∙ c.len-len.ensures in
    let site = c.give_in-given.ensures.window ∙ c.new-zone.ensures.window in
    let at = ap (λ (s : Site). s.window.at) site in
    let len = ap (λ (s : Site). s.window.len) site in
    whole_laid _ c.into_part.result.at c.into_part.result.bytes c.cut.new.self.bytes c.join.new.self.bytes _
    (ap (λ p. p.at) c.into_part.ensures.part ∙ at ∙ c.cut.ensures.part_place)
    (ap (λ p. length p.bytes) c.into_part.ensures.part ∙ len ∙ long ∙ sym c.cut.ensures.same_length)
    c.join.ensures.bytes c.into_part.ensures.laid

pub returns-clause-home : goal.returns-clause-home
returns-clause-home g c =
    let site = c.give_in-given.ensures.window ∙ c.new-zone.ensures.window in
    whole_home c.into_part.result.at (length c.into_part.result.bytes) c.args.region.out c.cut.new.self.out
    c.join.new.self.out _ _ c.requires.home c.cut.ensures.out
    (ap (λ p. p.at) c.into_part.ensures.part ∙ ap (λ (s : Site). s.window.at) site ∙ c.cut.ensures.part_place)
    (ap (λ p. length p.bytes) c.into_part.ensures.part ∙ ap (λ (s : Site). s.window.len) site
    ∙ c.cut.ensures.part_length)
    c.join.ensures.out
