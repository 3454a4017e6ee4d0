use Rattle.res_map.proofs.Cited.{◌∙◌, rules, ap, length, map, length-map, moved, raised_within}
use Rattle.res_map.proofs.Rows.{written_back}
use Rattle.res_map.proofs.index.raise_all.Goals as goal

pub returns-clause-items : goal.returns-clause-items
returns-clause-items c =
    let is = c.raise.ensures ∙ ap (map (moved (raised_within c.args.from))) c.as_mut_slice.ensures.value in
    written_back _ _ _ (search rules) (ap length is ∙ length-map _ _) ∙ is
