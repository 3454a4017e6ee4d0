use Rattle.std.specs.Prelude.{ℕ}
use Rattle.script_text.specs.declared.fault.FaultKind.{FaultKind}
use Rattle.script_text.specs.declared.fault.FaultKind.TheVariants as kinds

-- The number by which an error line names a fault.
abbrev pub number_of : FaultKind → ℕ
number_of kinds.UnknownCall = 1
number_of kinds.BadArgument = 2
number_of kinds.NotAllowed = 3
number_of kinds.LongLine = 4
number_of kinds.HostMemory = 5

-- The number of the line that an error line names with a fault of line n: 0 where the host is out of memory.
-- See decision 118 (one enum holds every kind of fault).
abbrev pub line_of : ℕ → FaultKind → ℕ
line_of n kinds.HostMemory = 0
line_of n kinds.UnknownCall = n
line_of n kinds.BadArgument = n
line_of n kinds.NotAllowed = n
line_of n kinds.LongLine = n
