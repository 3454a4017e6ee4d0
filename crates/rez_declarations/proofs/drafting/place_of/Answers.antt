use Rattle.rez_declarations.proofs.Cited.{◌∙◌, ℕ, sym, rules, tests, YieldsList-from_slice, position_from_yields_List, Vec, Global, is_name}
use Rattle.rez_declarations.proofs.Cited.{position_map}
use Rattle.rez_declarations.proofs.drafting.place_of.Goals as goal

pub returns : goal.returns
returns c =
    let xs = c.args.names.now in
    let by_call = position_from_yields_List (λ (n : Vec ℕ Global). is_name c.args.name.now n.items) _ _ _ c.position.ensures.ran
    (YieldsList-from_slice xs cc) (λ x b q k. search (rules, tests)) in
    by_call ∙ sym (position_map (λ (n : Vec ℕ Global). n.items) (is_name c.args.name.now) xs)
