use Rattle.rez_declarations.proofs.Cited.{◌∙◌, map, sym, rules, tests, YieldsList-from_slice, any_from_yields_List, NamedText, text_of}
use Rattle.rez_declarations.proofs.Cited.{is_name, any_map}
use Rattle.rez_types.specs.declared.declaration.NamedText.{NamedText as Held}
use Rattle.rez_declarations.proofs.twins.is_among_texts.Goals as goal

pub returns : goal.returns
returns c =
    let xs = c.args.constants.now in
    let by_call = any_from_yields_List (λ (n : Held). is_name c.args.name.now n.name.items) _ _ _ c.any.ensures.ran
    (YieldsList-from_slice xs cc) (λ x b q k. search (rules, tests)) in
    by_call ∙ sym (any_map text_of (λ (n : NamedText). is_name c.args.name.now n.name) xs)
    ∙ sym (any_map (λ (n : NamedText). n.name) (is_name c.args.name.now) (map text_of xs))
