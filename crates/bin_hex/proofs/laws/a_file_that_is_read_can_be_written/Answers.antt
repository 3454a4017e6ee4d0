use Rattle.bin_hex.proofs.DecodedBytes.{decoded_read}
use Rattle.bin_hex.proofs.laws.a_file_that_is_read_can_be_written.Goals as goal

pub returns-clause-bytes : goal.returns-clause-bytes
returns-clause-bytes c = λ bytes file is. (decoded_read bytes file is).of_bytes

pub returns-clause-fits : goal.returns-clause-fits
returns-clause-fits c = λ bytes file is. (decoded_read bytes file is).fits
