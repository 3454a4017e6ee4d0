use Rattle.res_map.proofs.Cited.{◌∙◌, ◌+◌, subst, sym, ap, rules, w32, SFits, to_z-of_z, get_or_default, IsRising, place_in, rank, rank_of}
use Rattle.res_map.proofs.Cited.{row_weights}
use borrow.Author.Tests.{both_ways}
use Rattle.res_map.proofs.Rows.{never-there}
use Rattle.res_map.proofs.Weights.{others-taken, taken-rising, taken-weights}
use Rattle.res_map.proofs.index.take_row.Goals as goal
use Rattle.res_map.proofs.index.take_row.Goals.{else-at-len-via-then-at-len+else-is_at, else-at-len-via-else-at-len}

pub returns-then-is_at-clause-rising : goal.returns-then-is_at-clause-rising
returns-then-is_at-clause-rising c = λ rising.
    subst IsRising (sym c.remove-gone.ensures.items) (taken-rising c.args.rows.now.items c.rows_below-at.result (search rules) rising)

pub returns-then-is_at-clause-others : goal.returns-then-is_at-clause-others
returns-then-is_at-clause-others c = λ k i other. ap (place_in k i) c.remove-gone.ensures.items
    ∙ others-taken c.args.rows.now.items c.rows_below-at.result c.args.row c.index.result.now (search rules)
    c.index.ensures (search rules) k i other

pub returns-then-is_at-clause-weights : goal.returns-then-is_at-clause-weights
returns-then-is_at-clause-weights c = λ some rising f.
    ap (λ l. row_weights f l + f c.args.row.kind c.args.row.key) c.remove-gone.ensures.items
    ∙ taken-weights c.args.rows.now.items c.rows_below-at.result c.args.row c.index.result.now (search rules)
    c.index.ensures (search rules) f

pub returns-else-at-len-clause-weights : goal.returns-else-at-len-clause-weights
returns-else-at-len-clause-weights c =
    let fits : SFits w32 c.args.row.key = search rules in
    let is = to_z-of_z w32 c.args.row.key fits in
    elim c.else-at-len.branch [
      | else-at-len-via-then-at-len+else-is_at w ↦ λ some rising f. absurd (never-there c.args.rows.now.items c.as_slice.result.now
          c.rows_below-at.result c.args.row c.as_slice.ensures.value (search rules)
          (λ less row read same. both_ways w.is_at.result w.if-is_at.false (w.is_at.ensures.rank
          (ap rank_of (w.index.ensures ∙ get_or_default c.args.rows.now.items c.rows_below-at.result _ row less ∙ sym read)
          ∙ same ∙ ap (rank c.args.row.kind) (sym is))))
          c.rows_below-at.ensures.inside some rising)
      | else-at-len-via-else-at-len w ↦ λ some rising f. absurd (never-there c.args.rows.now.items c.as_slice.result.now
          c.rows_below-at.result c.args.row c.as_slice.ensures.value (search rules)
          (λ less row read same. search rules) c.rows_below-at.ensures.inside some rising)
    ]
