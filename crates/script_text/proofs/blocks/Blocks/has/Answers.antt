use Rattle.script_text.proofs.Cited.{ap, refl, ◌∙◌, has_block}
use Rattle.script_text.proofs.Naming.{has_named}
use Rattle.script_text.proofs.blocks.Blocks.has.Goals as goal

pub returns : goal.returns
returns c =
    c.contains_key.ensures ∙ has_named (λ v. v.items) _ (λ a b. refl) c.args.name.now c.self.inside.lines.entries
    ∙ ap (has_block c.args.name.now.0.items) c.self.view_is
