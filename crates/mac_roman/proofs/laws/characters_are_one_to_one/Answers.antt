use Rattle.mac_roman.proofs.Lookups.{byte_again, char_again, bytes_apart}
use Rattle.mac_roman.proofs.laws.characters_are_one_to_one.Goals as goal

pub returns-clause-bytes : goal.returns-clause-bytes
returns-clause-bytes c = byte_again

pub returns-clause-characters : goal.returns-clause-characters
returns-clause-characters c = char_again

pub returns-clause-apart : goal.returns-clause-apart
returns-clause-apart c = bytes_apart
