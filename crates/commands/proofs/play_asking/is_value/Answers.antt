use Rattle.commands.proofs.Cited.{◌≡◌, ◌++◌, ◌∙◌, Some, sym, ap, rules, codes, strip_prefix_is, Decides-eqb}
use Rattle.commands.proofs.Asked.{same_text}
use Rattle.commands.proofs.play_asking.is_value.Goals as goal

pub returns-in-Some : goal.returns-in-Some
returns-in-Some c =
    let begun : c.args.bytes.now ≡ c.as_slice.result.now ++ c.in-Some.rest.now =
    strip_prefix_is Decides-eqb c.args.bytes.now c.as_slice.result.now (Some c.in-Some.rest) c.in-Some.ensures.cases in
    let sign : c.as_slice.result.now ≡ codes "=" = search rules in
    λ same. begun ∙ ap (λ s. s ++ c.in-Some.rest.now) sign
    ∙ ap (λ r. codes "=" ++ r) (same_text _ _ (sym same ∙ c.eq.ensures))
