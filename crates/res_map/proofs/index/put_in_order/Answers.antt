use Rattle.res_map.proofs.Cited.{rules, nat_cmp, is_lt, nat_cmp_total, IsNonDecreasingBy-from_sort_by, ranks_by, answers_always, rank_of}
use Rattle.res_map.proofs.Rows.{place-sorted}
use Rattle.res_map.proofs.index.put_in_order.Goals as goal

pub returns-clause-rising : goal.returns-clause-rising
returns-clause-rising c = IsNonDecreasingBy-from_sort_by rank_of _ c.in_ok-sort_by.ensures.sorted (λ a r q k. search rules)

pub returns-clause-tells : goal.returns-clause-tells
returns-clause-tells c = place-sorted c.args.rows.now.items c.sort_by.new.self.items
    (c.sort_by.ensures.stable (λ x y. is_lt (nat_cmp (rank_of x) (rank_of y))) (ranks_by nat_cmp_total rank_of)
    (answers_always _ _ _ (λ f a r g h. search rules)))
