use Rattle.zone_marks.proofs.Cited.{arith, rules, zone_in, given-became, given-small, became-inside, became-left, became-way}
use Rattle.zone_marks.proofs.purgeable.purgeable_with.Goals as goal

pub overflow_sub-result : goal.overflow_sub-result
overflow_sub-result c =
    let r = c.requires in
    omega (arith, (given-became c.args.place r.0 (zone_in c.args.sound.now.part.bytes) r.1).1)

pub purgeable_at-requires-clause-way : goal.purgeable_at-requires-clause-way
purgeable_at-requires-clause-way c = search (rules, became-way)

pub purgeable_at-requires-clause-some : goal.purgeable_at-requires-clause-some
purgeable_at-requires-clause-some c = search (rules, became-inside)

pub overflow_add-result : goal.overflow_add-result
overflow_add-result c =
    let i = c.args.sound.now.sound in
    let xs = c.args.sound.now.part.bytes in
    let r = c.requires in
    let b = r.1 in
    let g = given-became c.args.place r.0 (zone_in xs) b in
    omega (arith, (c.purgeable_at.ensures b.there b.above (became-left _ _ _ i c.args.place r.0 b)), given-small)

pub returns : goal.returns
returns c = λ old b e p. let g = given-became c.args.place old (zone_in c.args.sound.now.part.bytes) b in
    omega (arith, e, p, c.purgeable_at.ensures b.there b.above (search (rules, became-left)))
