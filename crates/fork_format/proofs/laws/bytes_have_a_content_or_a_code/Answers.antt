use Rattle.fork_format.proofs.Codes.{spelled, unspelled}
use Rattle.fork_format.proofs.laws.bytes_have_a_content_or_a_code.Goals as goal

pub returns-clause-content : goal.returns-clause-content
returns-clause-content c = spelled

pub returns-clause-damaged : goal.returns-clause-damaged
returns-clause-damaged c = unspelled
