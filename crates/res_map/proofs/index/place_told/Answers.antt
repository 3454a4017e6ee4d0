use Rattle.res_map.proofs.Cited.{◌∙◌, rules, sym, ap, subst, get_or, pos, w32, to_z-of_z, get_or_default, rank, rank_of}
use borrow.Author.Tests.{both_ways}
use Rattle.res_map.proofs.Rows.{Below, place-found, clear-below, told-none}
use Rattle.res_map.proofs.index.place_told.Goals as goal
use Rattle.res_map.proofs.index.place_told.Goals.{else-at-rows-via-then-at-rows+else-is_at, else-at-rows-via-else-at-rows}

pub returns-then-is_at : goal.returns-then-is_at
returns-then-is_at c = λ rising.
    let at = c.rows_below-at.result in
    let row = get_or c.args.rows.now at (record { kind = 0; key = pos 0; place = 0 }) in
    let is = to_z-of_z w32 c.args.key c.ranges.key in
    sym (place-found c.args.kind c.args.key c.args.rows.now at row (search rules)
    (clear-below c.args.kind c.args.key c.args.rows.now at
    (subst (λ i. Below c.args.kind i c.args.rows.now at) is (c.rows_below-at.ensures.point rising)))
    (get_or_default c.args.rows.now at _ row (search rules)) (search rules))

pub returns : goal.returns
returns c = λ rising.
    let at = c.rows_below-at.result in
    let is = to_z-of_z w32 c.args.key c.ranges.key in
    let point = subst (λ i. Below c.args.kind i c.args.rows.now at) is (c.rows_below-at.ensures.point rising) in
    elim c.else-at-rows.branch [
      | else-at-rows-via-then-at-rows+else-is_at w ↦
          sym (told-none c.args.kind c.args.key c.args.rows.now at rising point
          (λ less row read same. both_ways w.is_at.result w.if-is_at.false (w.is_at.ensures.rank
          (ap rank_of (get_or_default c.args.rows.now at _ row less ∙ sym read) ∙ same
          ∙ ap (rank c.args.kind) (sym is)))) c.rows_below-at.ensures.inside)
      | else-at-rows-via-else-at-rows w ↦
          sym (told-none c.args.kind c.args.key c.args.rows.now at rising point
          (λ less row read same. search rules) c.rows_below-at.ensures.inside)
    ]
