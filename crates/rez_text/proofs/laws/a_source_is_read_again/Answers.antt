use Rattle.rez_text.proofs.Cited.{spelled_clear, spelled_types, spelled_references}
use Rattle.rez_text.proofs.Again.{source_again, same_again}
use Rattle.rez_text.proofs.laws.a_source_is_read_again.Goals as goal

pub returns-clause-again : goal.returns-clause-again
returns-clause-again c = source_again

pub returns-clause-same : goal.returns-clause-same
returns-clause-same c = same_again

pub returns-clause-spelled : goal.returns-clause-spelled
returns-clause-spelled c = λ types files set bytes x limits of_bytes spells.
    same_again types files set x limits of_bytes (spelled_references bytes x spells) (spelled_types bytes x spells)
    (spelled_clear bytes x spells)
