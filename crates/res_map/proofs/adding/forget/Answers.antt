use Rattle.res_map.proofs.Cited.{rules, filter_same}
use Rattle.res_map.proofs.adding.forget.Goals as goal

pub returns : goal.returns
returns c = filter_same _ _ _ (λ x b f' k. search rules) _ _ c.retain.ensures.filtered
