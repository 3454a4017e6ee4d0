use Rattle.std.specs.Prelude.{ℕ, Result, Ok, Err, List, []}
use Rattle.rez_statements.specs.Types.{Declared}
use Rattle.rez_text.specs.declared.fault.FaultKind.{FaultKind}
use Rattle.rez_text.specs.Reading.{read_declarations}
use Rattle.rez_table.specs.declared.TheConstants.{TABLE}
use Rattle.fork_commands.specs.declared.fault.FileFault.{FileFault}
use Rattle.fork_commands.specs.declared.fault.FileFault.TheVariants.{Source}

-- The types that are declared before the first line of a source.

-- Those of the table that the program brings along, or none where it can't be read.
abbrev pub or_none : Result (List Declared) (ℕ × FaultKind) → List Declared
or_none (Ok types) = types
or_none (Err e) = []

unfoldable pub built_in : List Declared
built_in = or_none (read_declarations [] TABLE.now)

-- Types that were read, or the line that can't be read as a fault.
abbrev pub types_or_fault : Result (List Declared) (ℕ × FaultKind) → Result (List Declared) FileFault
types_or_fault (Ok types) = Ok types
types_or_fault (Err (line, kind)) = Err (Source (record { line = line; kind = kind }))

-- The types with those that a text declares.
abbrev pub types_with : List Declared → List ℕ → Result (List Declared) FileFault
types_with types text = types_or_fault (read_declarations types text)
