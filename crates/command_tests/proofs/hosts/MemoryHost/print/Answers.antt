use Rattle.std.proofs.Common.{[], refl}
use Rattle.command_tests.proofs.hosts.MemoryHost.print.Goals as goal

-- nothing is claimed of what is printed, before and after
pub returns-then-self-eq0-clause-front : goal.returns-then-self-eq0-clause-front
returns-then-self-eq0-clause-front c = (c.args.bytes.now, ([], refl, refl))
