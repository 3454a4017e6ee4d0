use Rattle.bin_hex.proofs.Again.{laid_out}
use Rattle.bin_hex.proofs.laws.a_file_is_read_from_any_lines.Goals as goal

pub returns : goal.returns
returns c = laid_out
