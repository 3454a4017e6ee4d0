use Rattle.script_text.proofs.Cited.{◌≡◌, ap, refl, sym, ◌∙◌, false, rules, bytes_eq, ◌||◌, has_name}
use Rattle.script_text.proofs.JobKnown.{has_file}
use Rattle.script_text.proofs.owners.Owner.has.Goals as goal

pub returns-else-is_named : goal.returns-else-is_named
returns-else-is_named c =
    let name = c.args.name.now.0.items in
    let other : bytes_eq name c.args.self.now.name ≡ false = search rules in
    c.contains.ensures ∙ has_file _ (λ a b. refl) c.args.name.now c.self.inside.files.keys
    ∙ ap (λ k. has_name name k.files) c.self.view_is
    ∙ ap (λ t. t || has_name name c.args.self.now.files) (sym other)
