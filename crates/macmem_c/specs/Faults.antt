use Rattle.std.specs.Prelude.{◌≡◌, ℤ, pos, Bool, true, false}
use Rattle.fork_commands.specs.declared.fault.FileFault.{FileFault}
use Rattle.fork_commands.specs.declared.fault.WorkFault.{WorkFault}
use Rattle.fork_commands.specs.declared.fault.WorkFault.TheVariants as work
use Rattle.fork_commands.specs.declared.pair.PairFault.{PairFault}
use Rattle.fork_commands.specs.declared.pair.PairFault.TheVariants as pair
use Rattle.fork_commands.specs.declared.pair.Place.{Place}
use Rattle.fork_commands.specs.declared.pair.Place.TheVariants.{First, Second}
use Rattle.fork_commands.specs.Faults.{number_of, line_of}
use Rattle.macmem_c.specs.Codes.{host_memory}
use Rattle.macmem_c.specs.declared.faults.Fault.{Fault}

-- What C gets where nothing is made of the bytes of files.

-- The code where the bytes of a file are at fault. No result code has it: those have 16 bits.
abbrev pub file_fault : ℤ
file_fault = pos 65537

-- This is a fault as C has it.
pub record IsFault (fault : FileFault) (second : Bool) (has : Fault) : Type 0 where
  pub code_is : has.code ≡ number_of fault
  pub line_is : has.line ≡ line_of fault
  pub second_is : has.second ≡ second

-- The code, and the fault that C has after the call.
abbrev pub Tells : WorkFault → Fault → Fault → ℤ → Type 0
Tells (work.File fault) before after code = (code ≡ file_fault) × IsFault fault false after
Tells work.HostMemory before after code = (code ≡ host_memory) × (after ≡ before)

abbrev pub is_second : Place → Bool
is_second First = false
is_second Second = true

-- The same of two files.
abbrev pub TellsPair : PairFault → Fault → Fault → ℤ → Type 0
TellsPair (pair.File place fault) before after code = (code ≡ file_fault) × IsFault fault (is_second place) after
TellsPair pair.HostMemory before after code = (code ≡ host_memory) × (after ≡ before)
