use Rattle.std.specs.Prelude.{◌≡◌, ℕ, Option, Some, None, Result, Ok, Err, List, [], ◌∷◌}
use Rattle.script_text.specs.declared.fault.FaultKind.{FaultKind}
use Rattle.script_text.specs.declared.fault.FaultKind.TheVariants.{BadArgument}
use Rattle.script_text.specs.Job.{Above, with_line}
use Rattle.lint.specs.declared.halt.Halt.{Halt}
use Rattle.lint.specs.declared.halt.Halt.TheVariants as halt
use Rattle.lint.specs.declared.role.Role.{Role}
use Rattle.lint.specs.Judging.{argument_of, kind_of}

-- A function is halted by the fault of a reading; where the host is out of memory nothing is said about the line.
abbrev pub Halts : {Y : Type 0} → Halt → Result Y FaultKind → Type 0
Halts halt.HostMemory read = Unit {0}
Halts (halt.Wrong found) read = read ≡ Err (kind_of found.wrong)

-- The result of a function, seen by `view`, is that of a reading, unless the host is out of memory.
abbrev pub Reads : {X Y : Type 0} → (X → Y) → Result X Halt → Result Y FaultKind → Type 0
Reads view (Ok x) read = read ≡ Ok (view x)
Reads view (Err halt) read = Halts halt read

-- What is said of a fault is of its kind, unless the host is out of memory.
abbrev pub Says : FaultKind → Halt → Type 0
Says kind halt.HostMemory = Unit {0}
Says kind (halt.Wrong found) = kind_of found.wrong ≡ kind

-- What is said of a fault is that this argument is wrong, unless the host is out of memory.
abbrev pub Names : Option (ℕ × Role) → Halt → Type 0
Names argument halt.HostMemory = Unit {0}
Names argument (halt.Wrong found) = argument_of found.wrong ≡ argument

-- What holds where something is wrong with a line.
abbrev pub OnWrong : {X : Type 0} → Result X Halt → Type 0 → Type 0
OnWrong (Ok x) holds = Unit {0}
OnWrong (Err halt.HostMemory) holds = Unit {0}
OnWrong (Err (halt.Wrong found)) holds = holds

-- What a line of a job leaves: what it states; or, where it is faulty, what stood above it.
abbrev pub after_line : Above → Result Above FaultKind → Above
after_line above (Ok next) = next
after_line above (Err kind) = above

-- The fault of the n-th line, if it has one.
abbrev pub line_fault : ℕ → Result Above FaultKind → List (ℕ × FaultKind)
line_fault n (Ok next) = []
line_fault n (Err kind) = (n, kind) ∷ []

-- What lines leave.
abbrev pub left_by : Above → List (List ℕ) → Above
left_by above [] = above
left_by above (line ∷ more) = left_by (after_line above (with_line above line)) more

-- That a memory is stated, or the fault where none is.
abbrev pub memory_stated : Option ℕ → Result (Unit {0}) (ℕ × FaultKind)
memory_stated None = Err (1, BadArgument)
memory_stated (Some n) = Ok tt
