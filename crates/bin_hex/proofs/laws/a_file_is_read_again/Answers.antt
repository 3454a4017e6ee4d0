use Rattle.bin_hex.proofs.Again.{again}
use Rattle.bin_hex.proofs.laws.a_file_is_read_again.Goals as goal

pub returns : goal.returns
returns c = again
