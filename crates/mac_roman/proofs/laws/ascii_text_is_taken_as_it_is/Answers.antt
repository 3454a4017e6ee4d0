use Rattle.mac_roman.proofs.PlainText.{taken, printed_whole}
use Rattle.mac_roman.proofs.laws.ascii_text_is_taken_as_it_is.Goals as goal

pub returns-clause-taken : goal.returns-clause-taken
returns-clause-taken c = taken

pub returns-clause-whole : goal.returns-clause-whole
returns-clause-whole c = printed_whole
