use Rattle.std.specs.Prelude.{ℕ}
use Rattle.script_text.specs.declared.fault.FaultKind.{FaultKind}
use Rattle.lint.specs.declared.wrong.Fault.{Fault}
use Rattle.lint.specs.Judging.{kind_of}

-- The values of the code, as the definitions see them.

-- A faulty line, by its number and its fault.
abbrev pub seen : Fault → ℕ × FaultKind
seen fault = (fault.line, kind_of fault.wrong)
