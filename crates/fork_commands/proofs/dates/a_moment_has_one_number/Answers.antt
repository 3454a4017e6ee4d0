use Rattle.fork_commands.proofs.Calendar.{numbered, is_moment}
use Rattle.fork_commands.proofs.dates.a_moment_has_one_number.Goals as goal

pub returns-clause-number : goal.returns-clause-number
returns-clause-number c = numbered

pub returns-clause-calendar : goal.returns-clause-calendar
returns-clause-calendar c = is_moment
