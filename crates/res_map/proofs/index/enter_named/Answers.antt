use Rattle.res_map.proofs.Cited.{◌≡◌, sym, subst, rules, Option, Some, None, IfSome, w32, SFits, ℕ, to_z-of_z, IsRowOf, IsAt, is_printed}
use Rattle.res_map.proofs.Cited.{Row}
use Rattle.res_map.proofs.Rows.{index-found}
use Rattle.res_map.proofs.index.enter_named.Goals as goal

pub returns-in-None : goal.returns-in-None
returns-in-None c = λ room references was x there alike old own with index.
    let none : c.args.old ≡ None = search rules in
    index-found is_printed c.args.rows.now.items c.tell_sooner.new.rows.items c.args.row references was x there
    (subst (λ (o : Option Row). IsRowOf is_printed o was) none old) own index
    (c.tell_sooner.ensures.rising index.rising) (c.tell_sooner.ensures.tells room index.rising)

pub returns-in-Some : goal.returns-in-Some
returns-in-Some c = λ room references was x there alike old own with index.
    let row = c.in-Some.old in
    let some : c.args.old ≡ Some row = search rules in
    let kind : row.kind ≡ c.args.row.kind = subst (λ (o : Option Row). IfSome o (λ r. r.kind ≡ c.args.row.kind)) some alike in
    let fits : SFits w32 row.key = search rules in
    c.enter_printed.ensures room references was x there
    (subst (λ i. IsAt is_printed c.args.row.kind i was) (sym (to_z-of_z w32 row.key fits))
    (subst (λ (k : ℕ). IsAt is_printed k row.key was) kind
    (subst (λ (o : Option Row). IsRowOf is_printed o was) some old))) own with index
