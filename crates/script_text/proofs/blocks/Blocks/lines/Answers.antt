use Rattle.script_text.proofs.Cited.{None, Some, ap, refl, ◌∙◌, block_of}
use Rattle.script_text.proofs.Naming.{block_named}
use Rattle.script_text.proofs.blocks.Blocks.lines.Goals as goal

pub returns-in-Some : goal.returns-in-Some
returns-in-Some c =
    c.deref.ensures.value
    ∙ block_named (λ v. v.items) _ (λ a b. refl) c.args.name.now c.self.inside.lines.entries (Some c.in-Some.lines.now)
    c.in-Some.ensures.value ∙ ap (block_of c.args.name.now.0.items) c.self.view_is

pub returns-in-None : goal.returns-in-None
returns-in-None c =
    block_named (λ v. v.items) _ (λ a b. refl) c.args.name.now c.self.inside.lines.entries None c.in-None.ensures.value
    ∙ ap (block_of c.args.name.now.0.items) c.self.view_is
