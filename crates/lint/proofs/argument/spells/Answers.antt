use Rattle.lint.proofs.Cited.{◌∙◌}
use Rattle.lint.proofs.Stepping.{found_some}
use Rattle.lint.proofs.argument.spells.Goals as goal

pub returns : goal.returns
returns g c = c.is_some.ensures ∙ found_some _ _ _ c.in_ok-found.ensures
