use Rattle.res_map.proofs.Cited.{◌≡◌, ◌∙◌, ◌+◌, sym, subst, ap, rules, ℕ, ◌≤◌, Option, Some, None, arith, length, ℤ, option_map, insert}
use Rattle.res_map.proofs.Cited.{IsIndex, IsRowOf, is_held, place_in, raised, row_weights, weight, Row}
use Rattle.res_map.proofs.Rows.{index-entered, index-passed, index-within}
use Rattle.res_map.proofs.holding.enter_held.Goals as goal

pub returns-in-Some-clause-index : goal.returns-in-Some-clause-index
returns-in-Some-clause-index c = λ room references x len inside own index.
    let row = c.in-Some.row in
    let some : c.args.row ≡ Some row = search rules in
    let there : row.place ≡ c.args.place = search rules in
    let rising = c.open_gap.ensures.rising index.rising in
    let tells = c.open_gap.ensures.tells (index-within is_held c.args.rows.now.items references c.args.len len index) in
    subst (λ n. IsIndex is_held c.put_sooner.new.rows.items (insert references n x)) there
    (index-entered is_held c.args.rows.now.items c.open_gap.new.rows.items c.put_sooner.new.rows.items row references x
    (subst (λ (n : ℕ). n ≤ length references) (sym there) (subst (λ (n : ℕ). c.args.place ≤ n) (sym len) inside))
    (subst (λ (o : Option Row). IsRowOf is_held o x) some own) index
    (subst (λ n. (k : ℕ) (i : ℤ) → place_in k i c.open_gap.new.rows.items ≡ option_map (raised n) (place_in k i c.args.rows.now.items))
    (sym there) tells)
    (c.put_sooner.ensures.rising rising) (c.put_sooner.ensures.tells (c.open_gap.ensures.room room) rising))

pub returns-in-Some-clause-weights : goal.returns-in-Some-clause-weights
returns-in-Some-clause-weights c = λ room f.
    let some : c.args.row ≡ Some c.in-Some.row = search rules in
    c.put_sooner.ensures.weights (c.open_gap.ensures.room room) f
    ∙ ap (λ n. n + f c.in-Some.row.kind c.in-Some.row.key) (c.open_gap.ensures.weights f)
    ∙ ap (λ o. row_weights f c.args.rows.now.items + weight f o) (sym some)

pub returns-in_default-clause-index : goal.returns-in_default-clause-index
returns-in_default-clause-index c = λ room references x len inside own index.
    let none : c.args.row ≡ None = search rules in
    index-passed is_held c.args.rows.now.items c.open_gap.new.rows.items c.args.place references x
    (subst (λ (n : ℕ). c.args.place ≤ n) (sym len) inside)
    (subst (λ (o : Option Row). IsRowOf is_held o x) none own) index
    (c.open_gap.ensures.tells (index-within is_held c.args.rows.now.items references c.args.len len index))
    (c.open_gap.ensures.rising index.rising)

pub returns-in_default-clause-weights : goal.returns-in_default-clause-weights
returns-in_default-clause-weights c = λ room f.
    let none : c.args.row ≡ None = search rules in
    let own = ap (weight f) none in
    let all = c.open_gap.ensures.weights f in
    omega (arith, own, all)
