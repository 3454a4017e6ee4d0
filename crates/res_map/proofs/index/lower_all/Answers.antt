use Rattle.res_map.proofs.Cited.{◌∙◌, rules, ap, length, map, length-map, moved, lowered}
use Rattle.res_map.proofs.Rows.{written_back}
use Rattle.res_map.proofs.index.lower_all.Goals as goal

pub returns-clause-items : goal.returns-clause-items
returns-clause-items c =
    let is = c.lower.ensures ∙ ap (map (moved (lowered c.args.from))) c.as_mut_slice.ensures.value in
    written_back _ _ _ (search rules) (ap length is ∙ length-map _ _) ∙ is
