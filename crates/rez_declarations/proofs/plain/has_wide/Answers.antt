use Rattle.rez_declarations.proofs.Cited.{◌∙◌, sym, rules, tests, YieldsList-from_slice, any_from_yields_List, NamedNumber, number_of}
use Rattle.rez_declarations.proofs.Cited.{is_wide, any_map}
use Rattle.rez_types.specs.declared.declaration.NamedNumber.{NamedNumber as Held}
use Rattle.rez_declarations.proofs.plain.has_wide.Goals as goal

pub returns : goal.returns
returns c =
    let xs = c.args.constants.now in
    let by_call = any_from_yields_List (λ (n : Held). is_wide c.args.width n.pattern) _ _ _ c.any.ensures.ran
    (YieldsList-from_slice xs cc) (λ x b q k. search (rules, tests)) in
    by_call ∙ sym (any_map number_of (λ (n : NamedNumber). is_wide c.args.width n.pattern) xs)
