use Rattle.job_tasks.proofs.Cited.{◌∙◌, ap, canon}
use Rattle.job_tasks.proofs.loading.bare_fork.Goals as goal

pub returns-in-Ok : goal.returns-in-Ok
returns-in-Ok c = c.in-Ok.ensures.fork ∙ ap canon c.empty_content-content.ensures
