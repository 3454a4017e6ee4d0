use Rattle.std.specs.Prelude.{ℕ, ℤ, pos, List, [], string_bytes, ◌≡◌, Result, Err, Option}
use Rattle.script_text.specs.Fault as script
use Rattle.script_text.specs.declared.fault.FaultKind.{FaultKind}
use Rattle.fork_commands.specs.declared.fault.FileFault.{FileFault}
use Rattle.fork_commands.specs.Faults as file
use Rattle.real_zone_view.specs.declared.dump.DumpFault.{DumpFault}
use Rattle.fork_tasks.specs.declared.host.ReadError.{ReadError}
use Rattle.fork_tasks.specs.declared.host.ReadError.TheVariants as read_error
use Rattle.fork_tasks.specs.declared.host.WriteError.{WriteError}
use Rattle.fork_tasks.specs.declared.host.WriteError.TheVariants as write_error
use Rattle.fork_tasks.specs.declared.fault.ToolFault.{ToolFault}
use Rattle.fork_tasks.specs.declared.fault.ToolFault.TheVariants as fault
use Rattle.fork_commands.specs.declared.fault.WorkFault.{WorkFault}
use Rattle.fork_commands.specs.declared.fault.WorkFault.TheVariants as work_fault

-- What a fault says.

-- The message of a fault: a fault without the places where its texts lie.
pub data Message : Type 0 where
  Usage : (text : List ℕ) → Message
  CannotRead : (path : List ℕ) → Message
  Script : (path : List ℕ) → (line : ℕ) → (kind : FaultKind) → Message
  Fork : (path : List ℕ) → (fault : FileFault) → Message
  CannotWrite : (path : List ℕ) → Message
  HostMemory : Message
  NotLaunched : (path : List ℕ) → (app : List ℕ) → Message
  Dump : (path : List ℕ) → (fault : DumpFault) → Message

abbrev pub message_of : ToolFault → Message
message_of (fault.Usage text) = Usage (string_bytes text)
message_of (fault.CannotRead path) = CannotRead (string_bytes path)
message_of (fault.Script path line kind) = Script (string_bytes path) line kind
message_of (fault.Fork path why) = Fork (string_bytes path) why
message_of (fault.CannotWrite path) = CannotWrite (string_bytes path)
message_of fault.HostMemory = HostMemory
message_of (fault.NotLaunched path app) = NotLaunched (string_bytes path) (string_bytes app)
message_of (fault.Dump path why) = Dump (string_bytes path) why

-- The fault of an input that could not be read, and of output that could not be written, with its path.
abbrev pub read_message : List ℕ → ReadError → Message
read_message path read_error.CannotRead = CannotRead path
read_message path read_error.HostMemory = HostMemory

abbrev pub write_message : List ℕ → WriteError → Message
write_message path write_error.CannotWrite = CannotWrite path
write_message path write_error.HostMemory = HostMemory

-- The fault of words that make no request.
abbrev pub IsUsage : Message → Type 0
IsUsage (Usage text) = Unit {0}
IsUsage (CannotRead path) = ⊥
IsUsage (Script path line kind) = ⊥
IsUsage (Fork path why) = ⊥
IsUsage (CannotWrite path) = ⊥
IsUsage HostMemory = Unit {0}
IsUsage (NotLaunched path app) = ⊥
IsUsage (Dump path why) = ⊥

-- The number of the line that is printed: 0 for usage and help, 1 to 7 for the lines.
abbrev pub kind_of : ToolFault → ℕ
kind_of (fault.Usage text) = 0
kind_of (fault.CannotRead path) = 1
kind_of (fault.Script path line kind) = 2
kind_of (fault.Fork path why) = 3
kind_of (fault.CannotWrite path) = 4
kind_of fault.HostMemory = 5
kind_of (fault.NotLaunched path app) = 6
kind_of (fault.Dump path why) = 7

-- The status with which the program ends.
abbrev pub status_of : ToolFault → ℕ
status_of (fault.Usage text) = 2
status_of (fault.CannotRead path) = 1
status_of (fault.Script path line kind) = 1
status_of (fault.Fork path why) = 1
status_of (fault.CannotWrite path) = 1
status_of fault.HostMemory = 1
status_of (fault.NotLaunched path app) = 1
status_of (fault.Dump path why) = 1

-- The path that the line names.
abbrev pub path_of : ToolFault → List ℕ
path_of (fault.Usage text) = []
path_of (fault.CannotRead path) = string_bytes path
path_of (fault.Script path line kind) = string_bytes path
path_of (fault.Fork path why) = string_bytes path
path_of (fault.CannotWrite path) = string_bytes path
path_of fault.HostMemory = []
path_of (fault.NotLaunched path app) = string_bytes path
path_of (fault.Dump path why) = string_bytes path

-- The line of the script, or of the source.
abbrev pub line_of : ToolFault → ℕ
line_of (fault.Usage text) = 0
line_of (fault.CannotRead path) = 0
line_of (fault.Script path line kind) = line
line_of (fault.Fork path why) = file.line_of why
line_of (fault.CannotWrite path) = 0
line_of fault.HostMemory = 0
line_of (fault.NotLaunched path app) = 0
line_of (fault.Dump path why) = 0

-- The number of the script's fault, or of the fault of a file's bytes.
abbrev pub number_of : ToolFault → ℤ
number_of (fault.Usage text) = pos 0
number_of (fault.CannotRead path) = pos 0
number_of (fault.Script path line kind) = pos (script.number_of kind)
number_of (fault.Fork path why) = file.number_of why
number_of (fault.CannotWrite path) = pos 0
number_of fault.HostMemory = pos 0
number_of (fault.NotLaunched path app) = pos 0
number_of (fault.Dump path why) = pos 0

-- The text of usage and help.
abbrev pub text_of : ToolFault → List ℕ
text_of (fault.Usage text) = string_bytes text
text_of (fault.CannotRead path) = []
text_of (fault.Script path line kind) = []
text_of (fault.Fork path why) = []
text_of (fault.CannotWrite path) = []
text_of fault.HostMemory = []
text_of (fault.NotLaunched path app) = []
text_of (fault.Dump path why) = []

-- The fault of the bytes of a file, with the file's path.
abbrev pub fork_message : List ℕ → WorkFault → Message
fork_message path work_fault.HostMemory = HostMemory
fork_message path (work_fault.File fault) = Fork path fault

-- The fault of the bytes of a file on which a work is done; if the host is out of memory nothing is said of them.
abbrev pub IsForkFault : {A : Type 0} → List ℕ → Result A FileFault → Message → Type 0
IsForkFault path made HostMemory = Unit {0}
IsForkFault path made (Fork named fault) = (named ≡ path) × (made ≡ Err fault)
IsForkFault path made (Usage message) = ⊥
IsForkFault path made (CannotRead named) = ⊥
IsForkFault path made (Script named line kind) = ⊥
IsForkFault path made (CannotWrite named) = ⊥
IsForkFault path made (NotLaunched named app) = ⊥
IsForkFault path made (Dump named why) = ⊥

-- Nothing is printed if the fault is not one of printing.
abbrev pub IsQuiet : Option (List ℕ) → Option (List ℕ) → Message → Type 0
IsQuiet old new (CannotWrite named) = Unit {0}
IsQuiet old new HostMemory = Unit {0}
IsQuiet old new message = new ≡ old
