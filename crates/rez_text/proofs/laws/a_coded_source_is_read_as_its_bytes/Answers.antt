use Rattle.rez_text.proofs.Coded.{coded_again, read_coded}
use Rattle.rez_text.proofs.Plain.{read_uncoded}
use Rattle.rez_text.proofs.laws.a_coded_source_is_read_as_its_bytes.Goals as goal

pub returns-clause-coded : goal.returns-clause-coded
returns-clause-coded c = coded_again

pub returns-clause-content : goal.returns-clause-content
returns-clause-content c = read_coded

pub returns-clause-others : goal.returns-clause-others
returns-clause-others c = read_uncoded
