use Rattle.std.specs.Prelude.{Result, Ok, Err, List, ℕ, if◌then◌else◌}
use Rattle.bin_hex.specs.Putting.{with_resource_fork}
use Rattle.bin_hex.specs.declared.fault.PutFault.{PutFault}
use Rattle.bin_hex.specs.declared.fault.PutFault.TheVariants as put_fault
use Rattle.fork_wrappers.specs.declared.fault.RewrapFault.{RewrapFault}
use Rattle.fork_wrappers.specs.declared.fault.RewrapFault.TheVariants as rewrap_fault
use Rattle.fork_wrappers.specs.Rewrapped.{rewrapped}
use Rattle.fork_commands.specs.declared.fault.FileFault.{FileFault}
use Rattle.fork_commands.specs.declared.fault.FileFault.TheVariants.{BinHex, Unfit}
use Rattle.fork_commands.specs.declared.fault.WorkFault.{WorkFault}
use Rattle.fork_commands.specs.declared.fault.WorkFault.TheVariants.{File, HostMemory}
use Rattle.fork_commands.specs.declared.packaging.Packaging.{Packaging}
use Rattle.fork_commands.specs.declared.packaging.Packaging.TheVariants.{Bare, AsRead}
use Rattle.fork_commands.specs.Faults.{made_then}
use Rattle.fork_commands.specs.Opening.{is_encoded}

-- How a fork that was made is written.

-- A file that was wrapped, or why the fork doesn't fit its wrapper.
abbrev pub wrapped_or_fault : Result (List ℕ) RewrapFault → Result (List ℕ) FileFault
wrapped_or_fault (Ok file) = Ok file
wrapped_or_fault (Err fault) = Err (Unfit fault)

-- A BinHex file that was made, if it is taken for one.
abbrev pub recognized : List ℕ → Result (List ℕ) FileFault
recognized file = if is_encoded file then Ok file else Err (Unfit rewrap_fault.Unrecognized)

-- A BinHex file that was given a fork, or why the fork was not put into it.
abbrev pub put_or_fault : Result (List ℕ) PutFault → Result (List ℕ) FileFault
put_or_fault (Ok file) = recognized file
put_or_fault (Err (put_fault.Damaged damage)) = Err (BinHex damage)
put_or_fault (Err put_fault.TooLong) = Err (Unfit rewrap_fault.TooLong)
put_or_fault (Err put_fault.HostMemory) = Err (Unfit rewrap_fault.HostMemory)

-- The file with the fork in the place of its own.
abbrev pub with_fork : List ℕ → List ℕ → Result (List ℕ) FileFault
with_fork file fork =
    if is_encoded file then put_or_fault (with_resource_fork file fork) else wrapped_or_fault (rewrapped file fork)

-- The fork alone, or the file with the fork in the place of its own.
unfoldable pub packed : Packaging → List ℕ → List ℕ → Result (List ℕ) FileFault
packed Bare file fork = Ok fork
packed AsRead file fork = with_fork file fork

-- Why a fork was not put into a file, as the fault of a work.
abbrev pub of_rewrap : RewrapFault → WorkFault
of_rewrap rewrap_fault.HostMemory = HostMemory
of_rewrap why = File (Unfit why)

-- Why a fork was not put into a BinHex file, likewise.
abbrev pub of_put : PutFault → WorkFault
of_put put_fault.HostMemory = HostMemory
of_put put_fault.TooLong = File (Unfit rewrap_fault.TooLong)
of_put (put_fault.Damaged damage) = File (BinHex damage)

-- A fork that was made, written so.
abbrev pub then_packed : Packaging → List ℕ → Result (List ℕ) FileFault → Result (List ℕ) FileFault
then_packed packaging file made = made_then made (packed packaging file)
