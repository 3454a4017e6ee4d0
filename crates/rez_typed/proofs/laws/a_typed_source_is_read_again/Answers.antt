use Rattle.rez_typed.proofs.Cited.{spelled_clear, spelled_types, spelled_references}
use Rattle.rez_typed.proofs.TypedAgain.{typed_again, typed_same_again}
use Rattle.rez_typed.proofs.laws.a_typed_source_is_read_again.Goals as goal

pub returns-clause-again : goal.returns-clause-again
returns-clause-again c = typed_again

pub returns-clause-same : goal.returns-clause-same
returns-clause-same c = typed_same_again

pub returns-clause-spelled : goal.returns-clause-spelled
returns-clause-spelled c = λ types tried files style bytes x limits of_bytes spells.
    typed_same_again types tried files style x limits of_bytes (spelled_references bytes x spells) (spelled_types bytes x spells)
    (spelled_clear bytes x spells)
