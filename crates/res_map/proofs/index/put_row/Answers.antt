use Rattle.res_map.proofs.Cited.{rules, is_ok}
use Rattle.res_map.proofs.Rows.{put-rising, put-told}
use Rattle.res_map.proofs.Weights.{put-weights}
use Rattle.res_map.proofs.index.put_row.Goals as goal

pub returns-clause-rising : goal.returns-clause-rising
returns-clause-rising c = put-rising c.args.rows.now.items c.as_slice.result.now c.insert-done.new.self.items
    c.rows_below-at.result c.args.row (is_ok c.insert-done.result) c.as_slice.ensures.value c.insert-done.ensures.items
    c.rows_below-at.ensures.inside (search rules)

pub returns-clause-tells : goal.returns-clause-tells
returns-clause-tells c = λ room. put-told c.args.rows.now.items c.as_slice.result.now c.insert-done.new.self.items
    c.rows_below-at.result c.args.row (is_ok c.insert-done.result) c.as_slice.ensures.value c.insert-done.ensures.items
    c.rows_below-at.ensures.inside (search rules) (search rules)

pub returns-clause-weights : goal.returns-clause-weights
returns-clause-weights c = λ room. put-weights c.args.rows.now.items c.insert-done.new.self.items
    c.rows_below-at.result c.args.row (is_ok c.insert-done.result) c.insert-done.ensures.items (search rules)
