use Rattle.std.specs.Prelude.{◌≡◌, Result, Ok, Err}
use Rattle.mac_words.specs.declared.code.OsErr.{OsErr}
use Rattle.heap_calls.specs.declared.refusal.Refusal.{Refusal}
use Rattle.heap_calls.specs.declared.refusal.Refusal.TheVariants.{Code, HostMemory}
use Rattle.res_calls.specs.Files.{Resources}
use Rattle.desk.specs.declared.preparing.Ready.{Ready}
use Rattle.desk.specs.declared.sizes.PartitionSizes.{PartitionSizes}
use Rattle.desk.specs.Sizes.{Sizes}

-- What an application is launched with, as the code holds it; nothing is said if the host was out of memory.
abbrev pub IsReady : Result Resources OsErr → Result Ready Refusal → Type 0
IsReady start (Ok ready) = start ≡ Ok ready.resources
IsReady start (Err (Code code)) = start ≡ Err code
IsReady start (Err HostMemory) = Unit {0}

-- This holds, unless the host was out of memory.
abbrev pub UnlessHostMemory : {T : Type 0} → Result T Refusal → Type 0 → Type 0
UnlessHostMemory (Ok value) P = P
UnlessHostMemory (Err (Code code)) P = P
UnlessHostMemory (Err HostMemory) P = Unit {0}

abbrev pub sizes_seen : PartitionSizes → Sizes
sizes_seen sizes = record { preferred = sizes.preferred; minimum = sizes.minimum }
