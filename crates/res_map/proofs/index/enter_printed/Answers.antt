use Rattle.res_map.proofs.Cited.{◌≡◌, ◌∙◌, sym, subst, ap, rules, w32, to_z-of_z, IsAt, first_place, is_printed}
use Rattle.res_map.proofs.Rows.{index-alike}
use Rattle.res_map.proofs.index.enter_printed.Goals as goal

pub returns-then-row-key : goal.returns-then-row-key
returns-then-row-key c = λ room references old x there was own with index.
    let is = to_z-of_z w32 c.args.key c.ranges.key in
    c.enter_renamed.ensures room is_printed references old x there
    (subst (λ i. IsAt is_printed c.args.row.kind i old) (sym is) was) own
    (c.place_printed-first.ensures ∙ ap (first_place (is_printed c.args.row.kind _)) with) index

pub returns-else-row-key : goal.returns-else-row-key
returns-else-row-key c = λ room references old x there was own with index.
    let same : c.args.row.key ≡ c.args.key = search rules in
    index-alike is_printed c.args.rows.now.items references c.args.row.place old x there
    (λ k i. subst (λ j. IsAt is_printed c.args.row.kind j x) same own k i ∙ sym (was k i)) index
