use Rattle.rez_declarations.proofs.Cited.{◌∙◌, map, sym, rules, tests, YieldsList-from_slice, any_from_yields_List, Case, case_of, is_name}
use Rattle.rez_declarations.proofs.Cited.{any_map}
use Rattle.rez_types.specs.declared.declaration.Case.{Case as Held}
use Rattle.rez_declarations.proofs.twins.is_among_cases.Goals as goal

pub returns : goal.returns
returns c =
    let xs = c.args.cases.now in
    let by_call = any_from_yields_List (λ (n : Held). is_name c.args.name.now n.name.items) _ _ _ c.any.ensures.ran
    (YieldsList-from_slice xs cc) (λ x b q k. search (rules, tests)) in
    by_call ∙ sym (any_map case_of (λ (n : Case). is_name c.args.name.now n.name) xs)
    ∙ sym (any_map (λ (n : Case). n.name) (is_name c.args.name.now) (map case_of xs))
