use Rattle.rez_declarations.proofs.Cited.{◌∙◌, sym, rules, tests, YieldsList-from_slice, any_from_yields_List, case_of, has_key, any_map}
use Rattle.rez_types.specs.declared.declaration.Case.{Case as Held}
use Rattle.rez_declarations.proofs.twins.is_key_among.Goals as goal

pub returns : goal.returns
returns c =
    let xs = c.args.cases.now in
    let by_call = any_from_yields_List (λ (d : Held). has_key c.args.pattern (case_of d)) _ _ _ c.any.ensures.ran
    (YieldsList-from_slice xs cc) (λ x b q k. search (rules, tests)) in
    by_call ∙ sym (any_map case_of (has_key c.args.pattern) xs)
