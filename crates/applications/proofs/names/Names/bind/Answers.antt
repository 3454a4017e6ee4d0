use Rattle.applications.proofs.Cited.{◌∙◌, ap, refl, map, bind, binding}
use Rattle.applications.proofs.Binding.{insert-bound}
use Rattle.applications.proofs.names.Names.bind.Goals as goal

pub returns-clause-bound : goal.returns-clause-bound
returns-clause-bound c =
    ap (map binding) c.in_ok-insert.ensures.entries
    ∙ insert-bound _ (λ a b. refl) c.copy_of.result c.args.number c.self.inside.bound.entries
    ∙ ap (λ l. bind l c.args.number (map binding c.self.inside.bound.entries)) c.copy_of.ensures
    ∙ ap (bind c.args.name.now.0.items c.args.number) c.self.view_is
