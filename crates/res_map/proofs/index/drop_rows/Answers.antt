use Rattle.res_map.proofs.Cited.{sym, subst, rules, not, filter_same, IsNonDecreasingBy-filter, IsRising, IsToldAs, is_row, rank_of}
use Rattle.std.specs.Prelude.{None}
use Rattle.res_map.proofs.Rows.{place-dropped}
use Rattle.res_map.proofs.index.drop_rows.Goals as goal

pub returns-clause-rising : goal.returns-clause-rising
returns-clause-rising c = λ rising.
    let is = filter_same _ (λ r. not (is_row c.args.kind c.args.key r)) _ (λ x b f' k. search rules) _ _
    c.retain.ensures.filtered in
    subst IsRising (sym is) (IsNonDecreasingBy-filter rank_of _ _ rising)

pub returns-clause-tells : goal.returns-clause-tells
returns-clause-tells c =
    let is = filter_same _ (λ r. not (is_row c.args.kind c.args.key r)) _ (λ x b f' k. search rules) _ _
    c.retain.ensures.filtered in
    subst (IsToldAs c.args.kind c.args.key None c.args.rows.now.items) (sym is)
    (place-dropped c.args.kind c.args.key c.args.rows.now.items)
