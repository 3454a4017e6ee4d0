use Rattle.fork_edits.proofs.PlainWords.{plain_name, plain_type}
use Rattle.fork_edits.proofs.laws.ascii_words_are_taken_as_they_are.Goals as goal

pub returns-clause-names : goal.returns-clause-names
returns-clause-names c = plain_name

pub returns-clause-types : goal.returns-clause-types
returns-clause-types c = plain_type
