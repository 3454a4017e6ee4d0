use Rattle.rez_values.proofs.Cited.{◌∙◌, sym, rules, tests, YieldsList-from_slice, position_from_yields_List, text_of, position_map}
use Rattle.rez_values.proofs.Cited.{is_text_named}
use Rattle.rez_types.specs.declared.declaration.NamedText.{NamedText as Held}
use Rattle.rez_values.proofs.naming.place_of_text.Goals as goal

pub returns : goal.returns
returns c =
    let xs = c.args.constants.now in
    let by_call = position_from_yields_List (λ (d : Held). is_text_named c.args.word.now (text_of d)) _ _ _ c.position.ensures.ran
    (YieldsList-from_slice xs cc) (λ x b q k. search (rules, tests)) in
    by_call ∙ sym (position_map text_of (is_text_named c.args.word.now) xs)
