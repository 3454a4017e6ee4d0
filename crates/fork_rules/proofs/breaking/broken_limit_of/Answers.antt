use Rattle.fork_rules.proofs.Cited.{◌∙◌, ap, sym, Some, Broken}
use Rattle.fork_rules.specs.declared.rules.Rule.TheVariants as rule
use Rattle.fork_rules.proofs.Keeping.{limit_broken}
use Rattle.fork_rules.proofs.breaking.broken_limit_of.Goals as goal

pub returns-else-is_resource_fork : goal.returns-else-is_resource_fork
returns-else-is_resource_fork c =
    let fault = limit_broken c.args.bytes.now c.requires.whole c.requires.list c.requires.types
    (sym c.is_resource_fork.ensures ∙ c.if-is_resource_fork.false) in
    let said = c.new.ensures in
    let place = c.requires.parts.type_list in
    ap (λ (b : Broken). Some b) said ∙ ap (λ k. Some (let b : Broken = record { rule = rule.TooMuchData; at = k } in b)) place
    ∙ fault
