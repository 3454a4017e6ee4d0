use Rattle.fork_commands.proofs.Cited.{view}
use Rattle.fork_commands.proofs.Contents.{fitting}
use Rattle.fork_commands.proofs.work.canonical.Goals as goal

pub returns-in-Ok-clause-made : goal.returns-in-Ok-clause-made
returns-in-Ok-clause-made c = fitting (view c.args.content.now) _ c.in-Ok.ensures.fits c.in-Ok.ensures.fork
