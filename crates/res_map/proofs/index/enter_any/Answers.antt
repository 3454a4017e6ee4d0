use Rattle.res_map.proofs.Cited.{sym, subst, rules, ℕ, ◌≤◌, Option, Some, None, ◌≡◌, insert, IsIndex, IsRowOf, Row}
use Rattle.res_map.proofs.Rows.{index-passed, index-within}
use Rattle.res_map.proofs.index.enter_any.Goals as goal

pub returns-in-None : goal.returns-in-None
returns-in-None c = λ room test references x len inside own index.
    let none : c.args.row ≡ None = search rules in
    index-passed test c.args.rows.now.items c.open_gap.new.rows.items c.args.place references x
    (subst (λ (n : ℕ). c.args.place ≤ n) (sym len) inside)
    (subst (λ (o : Option Row). IsRowOf test o x) none own) index
    (c.open_gap.ensures.tells (index-within test c.args.rows.now.items references c.args.len len index))
    (c.open_gap.ensures.rising index.rising)

pub returns-in-Some : goal.returns-in-Some
returns-in-Some c = λ room test references x len inside own index.
    let some : c.args.row ≡ Some c.in-Some.row = search rules in
    let there : c.in-Some.row.place ≡ c.args.place = search rules in
    subst (λ n. IsIndex test c.enter.new.rows.items (insert references n x)) there
    (c.enter.ensures room test references x len (subst (λ (n : ℕ). n ≤ c.args.len) (sym there) inside)
    (subst (λ (o : Option Row). IsRowOf test o x) some own) index)
