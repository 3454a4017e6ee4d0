use Rattle.res_map.proofs.Cited.{◌∙◌, sym, ap, rules, w32, SFits, to_z-of_z, get_or_default, rank, rank_of}
use borrow.Author.Tests.{both_ways}
use Rattle.res_map.proofs.Rows.{set-rising, set-told, never-there}
use Rattle.res_map.proofs.Weights.{set-weights}
use Rattle.res_map.proofs.index.set_row.Goals as goal
use Rattle.res_map.proofs.index.set_row.Goals.{else-at-len-via-then-at-len+else-is_at, else-at-len-via-else-at-len}

pub returns-then-is_at-clause-rising : goal.returns-then-is_at-clause-rising
returns-then-is_at-clause-rising c = set-rising c.args.rows.now.items c.rows_below-at.result c.args.row
    c.index.result.now (search rules) c.index.ensures (search rules)

pub returns-then-is_at-clause-tells : goal.returns-then-is_at-clause-tells
returns-then-is_at-clause-tells c = λ some. set-told c.args.rows.now.items c.as_slice.result.now c.rows_below-at.result
    c.args.row c.index.result.now c.as_slice.ensures.value (search rules) c.index.ensures (search rules) (search rules)

pub returns-else-at-len-clause-tells : goal.returns-else-at-len-clause-tells
returns-else-at-len-clause-tells c =
    let fits : SFits w32 c.args.row.key = search rules in
    let is = to_z-of_z w32 c.args.row.key fits in
    elim c.else-at-len.branch [
      | else-at-len-via-then-at-len+else-is_at w ↦ λ some rising. absurd (never-there c.args.rows.now.items c.as_slice.result.now
          c.rows_below-at.result c.args.row c.as_slice.ensures.value (search rules)
          (λ less row read same. both_ways w.is_at.result w.if-is_at.false (w.is_at.ensures.rank
          (ap rank_of (w.index.ensures ∙ get_or_default c.args.rows.now.items c.rows_below-at.result _ row less ∙ sym read)
          ∙ same ∙ ap (rank c.args.row.kind) (sym is))))
          c.rows_below-at.ensures.inside some rising)
      | else-at-len-via-else-at-len w ↦ λ some rising. absurd (never-there c.args.rows.now.items c.as_slice.result.now
          c.rows_below-at.result c.args.row c.as_slice.ensures.value (search rules)
          (λ less row read same. search rules) c.rows_below-at.ensures.inside some rising)
    ]

pub returns-then-is_at-clause-weights : goal.returns-then-is_at-clause-weights
returns-then-is_at-clause-weights c = set-weights c.args.rows.now.items c.rows_below-at.result c.args.row
    c.index.result.now (search rules) c.index.ensures (search rules)
