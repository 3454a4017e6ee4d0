use Rattle.std.specs.Prelude.{◌≡◌, ℕ, ℤ, pos, Option, Some, None, Result, Ok, Err}
use Rattle.mac_words.specs.declared.code.OsErr.{OsErr}
use Rattle.fork_commands.specs.declared.fault.FileFault.{FileFault}
use Rattle.fork_commands.specs.declared.fault.FileFault.TheVariants.{Code, Wrapper, BinHex, Unfit, TakenId, InBoth, Source, ReadsFiles}
use Rattle.fork_commands.specs.declared.fault.FileFault.TheVariants.{Contents}
use Rattle.fork_commands.specs.declared.fault.WorkFault.{WorkFault}
use Rattle.fork_commands.specs.declared.fault.WorkFault.TheVariants.{File, HostMemory}

-- Faults of the bytes of files.

-- The fault for a result code; with no code, that the host is out of memory.
abbrev pub of_code : Option OsErr → WorkFault
of_code None = HostMemory
of_code (Some code) = File (Code code)

-- The number of a fault: the result code, if it has one.
abbrev pub number_of : FileFault → ℤ
number_of (Code code) = code.0
number_of (Wrapper fault) = pos 0
number_of (BinHex fault) = pos 0
number_of (Unfit fault) = pos 0
number_of TakenId = pos 0
number_of (InBoth twin) = pos 0
number_of (Source fault) = pos 0
number_of ReadsFiles = pos 0
number_of (Contents line why) = pos 0

-- The line of a source that can't be read.
abbrev pub line_of : FileFault → ℕ
line_of (Code code) = 0
line_of (Wrapper fault) = 0
line_of (BinHex fault) = 0
line_of (Unfit fault) = 0
line_of TakenId = 0
line_of (InBoth twin) = 0
line_of (Source fault) = fault.line
line_of ReadsFiles = 0
line_of (Contents line why) = line

-- What follows something that was made; a fault stays.
abbrev pub made_then : {A B F : Type 0} → Result A F → (A → Result B F) → Result B F
made_then (Ok made) next = next made
made_then (Err fault) next = Err fault

-- The fault is what stands in place of a result; nothing is said if the host is out of memory.
abbrev pub Stops : {A : Type 0} → WorkFault → Result A FileFault → Type 0
Stops HostMemory made = Unit {0}
Stops (File fault) made = made ≡ Err fault
