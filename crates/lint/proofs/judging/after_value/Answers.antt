use Rattle.lint.proofs.Cited.{◌≡◌, ◌∙◌, true, false, is_some, sym, ap, rules, value, token_at, kind}
use Rattle.lint.proofs.Stepping.{argument_there, argument_not}
use Rattle.lint.proofs.judging.after_value.Goals as goal

pub returns-then-branch : goal.returns-then-branch
returns-then-branch c =
    let there : is_some (value (kind c.args.role) c.in-Ok.found.now) ≡ true = search rules in
    argument_there (kind c.args.role) c.args.text.now c.in-Ok.found.now c.in-Ok.rest.now
    (ap token_at (sym c.trim.ensures) ∙ c.in-Ok.ensures) there

pub returns-else-branch : goal.returns-else-branch
returns-else-branch c =
    let there : is_some (value (kind c.args.role) c.in-Ok.found.now) ≡ false = search rules in
    argument_not (kind c.args.role) c.args.text.now c.in-Ok.found.now c.in-Ok.rest.now
    (ap token_at (sym c.trim.ensures) ∙ c.in-Ok.ensures) there
