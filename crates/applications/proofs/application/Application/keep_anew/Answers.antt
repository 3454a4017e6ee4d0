use Rattle.applications.proofs.Cited.{rules}
use Rattle.applications.proofs.application.Application.keep_anew.Goals as goal

pub returns-in-Resource : goal.returns-in-Resource
returns-in-Resource g c = let kept = c.keep_error.ensures c.args.self.now.memory in search rules
