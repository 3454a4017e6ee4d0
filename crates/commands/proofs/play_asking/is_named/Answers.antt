use Rattle.commands.proofs.Cited.{◌≡◌, ◌++◌, ◌∙◌, Some, sym, ap, append_assoc, codes, strip_prefix_is, Decides-eqb}
use Rattle.commands.proofs.play_asking.is_named.Goals as goal

pub returns-in-Some : goal.returns-in-Some
returns-in-Some c =
    let begun : c.args.bytes.now ≡ c.args.name.now ++ c.in-Some.rest.now =
    strip_prefix_is Decides-eqb c.args.bytes.now c.args.name.now (Some c.in-Some.rest) c.in-Some.ensures.cases in
    λ yes. begun ∙ ap (λ r. c.args.name.now ++ r) (c.is_value.ensures yes)
    ∙ sym (append_assoc c.args.name.now (codes "=") c.args.path.now)
