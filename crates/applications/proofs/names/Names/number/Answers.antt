use Rattle.applications.proofs.Cited.{◌∙◌, ap, refl, bound_to}
use Rattle.applications.proofs.Binding.{lookup-bound}
use Rattle.applications.proofs.names.Names.number.Goals as goal

pub returns : goal.returns
returns c =
    c.copied.ensures ∙ c.get.ensures.value
    ∙ lookup-bound _ (λ a b. refl) c.args.name.now c.self.inside.bound.entries
    ∙ ap (bound_to c.args.name.now.0.items) c.self.view_is
