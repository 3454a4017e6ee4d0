use Rattle.fork_rules.proofs.Cited.{◌-◌, ℕ, ◌∷◌, [], ◌∙◌, ap, sym, refl, arith, length, map_end, bytes_of}
use Rattle.fork_rules.proofs.Columns.{one_place, all_the_rest}
use Rattle.fork_rules.proofs.comparing.fields_of.Goals as goal

pub returns-in-Area : goal.returns-in-Area
returns-in-Area c =
    let e = c.each_place-in-Area.ensures in
    one_place _ 240 _ 16 0 16 _ c.args.bytes.now e.size e.distance (e.places ∙ c.requires.header) refl
    ∙ ap (λ r. bytes_of r c.args.bytes.now) (sym c.in-Area.is)

pub returns-in-Rest : goal.returns-in-Rest
returns-in-Rest c =
    let e = c.each_place-in-Rest.ensures in
    let m : ℕ = map_end c.args.bytes.now in
    let size = e.size in
    let end = c.requires.parts.map_end in
    one_place _ (length c.args.bytes.now - m) _ 0 m m _ c.args.bytes.now (omega (arith, size, end)) e.distance
    (e.places ∙ c.requires.map_end) (omega arith)
    ∙ ap (λ l. l ∷ []) (all_the_rest m c.args.bytes.now) ∙ ap (λ r. bytes_of r c.args.bytes.now) (sym c.in-Rest.is)
