use Rattle.std.specs.Prelude.{◌≡◌, ℕ, Some, None, List}
use Rattle.real_zone_view.specs.declared.dump.DumpView.{DumpView}
use Rattle.real_zone_view.specs.declared.dump.ViewFault.{ViewFault}
use Rattle.real_zone_view.specs.declared.dump.ViewFault.TheVariants as view
use Rattle.real_zone_view.specs.Answers.{answer_text, dump_fault}
use Rattle.fork_tasks.specs.Fault.{Message, Usage, CannotRead, Script, Fork, CannotWrite, HostMemory, NotLaunched, Dump}

-- What is printed of a memory dump, and what is printed on the standard error where there is no answer.

-- What is printed of a dump: the text of the answer, where there is one.
abbrev pub IsAnswer : DumpView → List ℕ → List ℕ → Type 0
IsAnswer asked dump out = (dump_fault asked dump ≡ None) × (out ≡ answer_text asked dump)

-- The fault of a dump, with its path.
abbrev pub dump_message : List ℕ → ViewFault → Message
dump_message path view.HostMemory = HostMemory
dump_message path (view.Dump fault) = Dump path fault

-- The fault of a dump is why there is no answer; if the host is out of memory nothing is said of the dump.
abbrev pub IsDumpFault : List ℕ → DumpView → List ℕ → Message → Type 0
IsDumpFault path asked dump HostMemory = Unit {0}
IsDumpFault path asked dump (Dump named fault) = (named ≡ path) × (dump_fault asked dump ≡ Some fault)
IsDumpFault path asked dump (Usage message) = ⊥
IsDumpFault path asked dump (CannotRead named) = ⊥
IsDumpFault path asked dump (Script named line kind) = ⊥
IsDumpFault path asked dump (Fork named fault) = ⊥
IsDumpFault path asked dump (CannotWrite named) = ⊥
IsDumpFault path asked dump (NotLaunched named app) = ⊥
