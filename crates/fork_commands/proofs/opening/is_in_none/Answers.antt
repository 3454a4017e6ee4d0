use Rattle.fork_commands.proofs.Cited.{sym}
use Rattle.fork_commands.proofs.Opens.{damaged_wrapper}
use Rattle.fork_commands.proofs.opening.is_in_none.Goals as goal

pub returns-in-Err : goal.returns-in-Err
returns-in-Err c = sym (damaged_wrapper c.args.bytes.now c.in-Err.field-0 c.in-Err.ensures.fault)
