use Rattle.fork_commands.proofs.PrintedAgain.{printed_again, source_again}
use Rattle.fork_commands.proofs.laws.what_is_printed_is_read_again.Goals as goal

pub returns : goal.returns
returns c = λ form s tried. printed_again form s tried (source_again form)
