use Rattle.desk.proofs.Cited.{sym, ◌∙◌, refused}
use Rattle.desk.proofs.system.read_system.Goals as goal

pub returns-in-Some-code-clause-system : goal.returns-in-Some-code-clause-system
returns-in-Some-code-clause-system c =
    rw (c.in-Some.is, ← c.deref.ensures.value) (refused c.deref.result.now c.read_fork.result c.in-Err.fault c.in-Some-code.code
    c.read_fork.ensures.empty c.read_fork.ensures.bad_map c.in-Err.is (sym c.code.ensures ∙ c.in-Some-code.is))
