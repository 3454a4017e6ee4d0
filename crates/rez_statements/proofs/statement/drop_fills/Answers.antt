use Rattle.rez_statements.proofs.Cited.{rules, map, ap, ◌∙◌, filter_same, Token, token_of, is_said}
use Rattle.rez_statements.proofs.Fills.{map-filter}
use Rattle.rez_statements.proofs.statement.drop_fills.Goals as goal

pub returns : goal.returns
returns c =
    ap (map token_of) (filter_same _ (λ (t : Token). is_said (token_of t)) _ (λ x b f' k. search rules) _ _ c.retain.ensures.filtered)
    ∙ map-filter token_of is_said c.args.tokens.now.items
