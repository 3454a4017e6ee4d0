use Rattle.bin_hex.proofs.PutAgain.{file_is_read, opening_stays, closing_stays, own_fork}
use Rattle.bin_hex.proofs.laws.a_fork_that_was_put_is_read_again.Goals as goal

pub returns-clause-file : goal.returns-clause-file
returns-clause-file c = file_is_read

pub returns-clause-opening : goal.returns-clause-opening
returns-clause-opening c = opening_stays

pub returns-clause-closing : goal.returns-clause-closing
returns-clause-closing c = closing_stays

pub returns-clause-same : goal.returns-clause-same
returns-clause-same c = own_fork
