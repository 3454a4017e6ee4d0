use Rattle.res_map.proofs.Cited.{◌∙◌, ap, rules, place_in}
use Rattle.res_map.proofs.Rows.{named-more}
use Rattle.res_map.proofs.index.named_rows_of.Goals as goal

pub loop-i-preserved : goal.loop-i-preserved
loop-i-preserved c = λ kind id. ap (place_in kind id) c.in_ok-note.ensures
    ∙ named-more c.args.refs.now c.loop-i.i c.loop-i.rows.items c.named_row_at.result (search rules) c.named_row_at.ensures
    c.loop-i.invariant kind id
