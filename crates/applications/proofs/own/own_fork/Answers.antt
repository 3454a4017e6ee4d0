use Rattle.applications.proofs.Cited.{◌∙◌, ap, canon}
use Rattle.applications.proofs.own.own_fork.Goals as goal

pub returns-in-Ok : goal.returns-in-Ok
returns-in-Ok c = c.in-Ok.ensures.fork ∙ ap canon c.empty_content-content.ensures
