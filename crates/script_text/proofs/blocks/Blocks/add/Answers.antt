use Rattle.script_text.proofs.Cited.{ap, refl, ◌∙◌, put_named}
use Rattle.script_text.proofs.Naming.{named, insert_named}
use Rattle.script_text.proofs.blocks.Blocks.add.Goals as goal

pub returns-clause-added : goal.returns-clause-added
returns-clause-added c =
    ap (named (λ v. v.items)) c.in_ok-insert.ensures.entries
    ∙ insert_named (λ v. v.items) _ (λ a b. refl) c.args.name c.args.lines c.self.inside.lines.entries
    ∙ ap (put_named c.args.name.0.items c.args.lines.items) c.self.view_is
