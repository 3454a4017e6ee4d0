use Rattle.commands.proofs.Cited.{◌≡◌, ◌++◌, ◌∙◌, Some, sym, ap, strip_prefix_is, Decides-eqb}
use Rattle.commands.proofs.Asked.{same_text}
use Rattle.commands.proofs.asking.ends_in.Goals as goal

pub returns-in-Some : goal.returns-in-Some
returns-in-Some c =
    let begun : c.as_bytes.result.now ≡ c.as_bytes-2.result.now ++ c.in-Some.rest.now =
    strip_prefix_is Decides-eqb c.as_bytes.result.now c.as_bytes-2.result.now (Some c.in-Some.rest) c.in-Some.ensures.cases in
    λ same.
    let rest : c.in-Some.rest.now ≡ c.as_bytes-in-Some.result.now = same_text _ _ (sym same ∙ c.eq.ensures) in
    sym c.as_bytes.ensures.value ∙ begun ∙ ap (λ b. b ++ c.in-Some.rest.now) c.as_bytes-2.ensures.value
    ∙ ap (λ r. c.args.begin.now ++ r) (rest ∙ c.as_bytes-in-Some.ensures.value)
