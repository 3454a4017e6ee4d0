use Rattle.res_map.proofs.Cited.{◌∙◌, ap, rules, place_in}
use Rattle.res_map.proofs.Rows.{told-more}
use Rattle.res_map.proofs.index.rows_of.Goals as goal

pub loop-i-preserved : goal.loop-i-preserved
loop-i-preserved c = λ kind id. ap (place_in kind id) c.in_ok-push.ensures.items
    ∙ told-more c.args.refs.now c.loop-i.i c.loop-i.rows.items c.row_at.result (search rules) c.row_at.ensures
    c.loop-i.invariant kind id
