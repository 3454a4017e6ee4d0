use Rattle.std.proofs.Common.{[], refl}
use Rattle.worked_commands.proofs.disk.DiskHost.print.Goals as goal

-- nothing is claimed of what is printed, before and after

pub returns-in_err-works-clause-front : goal.returns-in_err-works-clause-front
returns-in_err-works-clause-front c = (c.args.bytes.now, ([], refl, refl))

pub returns-then-not-branch-clause-front : goal.returns-then-not-branch-clause-front
returns-then-not-branch-clause-front c = (c.args.bytes.now, ([], refl, refl))
