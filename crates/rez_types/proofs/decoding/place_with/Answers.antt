use Rattle.rez_types.proofs.Cited.{◌∙◌, sym, rules, tests, YieldsList-from_slice, position_from_yields_List, case_of, has_key}
use Rattle.rez_types.specs.declared.declaration.Case.{Case as Held}
use Rattle.rez_types.proofs.Mapped.{position_map}
use Rattle.rez_types.proofs.decoding.place_with.Goals as goal

pub returns : goal.returns
returns c =
    let xs = c.args.cases.now in
    let by_call = position_from_yields_List (λ (d : Held). has_key c.args.pattern (case_of d)) _ _ _ c.position.ensures.ran
    (YieldsList-from_slice xs cc) (λ x b q k. search (rules, tests)) in
    by_call ∙ sym (position_map case_of (has_key c.args.pattern) xs)
