use Rattle.std.specs.Prelude.{◌≡◌, ℕ, true, false, Option, Some, None, Result, Ok, Err, List, Vec, map}
use Rattle.std.specs.declared.alloc.Global.{Global}
use Rattle.mac_words.specs.declared.code.TheConstants.OsErr.{DISK_FULL}
use Rattle.fork_format.specs.Content.{Content}
use Rattle.fork_format.specs.Fork.{Spells}
use Rattle.fork_format.specs.Canonical.{canon, fits, clear}
use Rattle.heap_calls.specs.State.{State}
use Rattle.heap_calls.specs.declared.refusal.Refusal.{Refusal}
use Rattle.heap_calls.specs.declared.refusal.Refusal.TheVariants.{Code, HostMemory}
use Rattle.res_map.specs.Map.{Map, content}
use Rattle.res_map.specs.View.{view_all}
use Rattle.res_calls.specs.declared.files.File.{File as StoredFile}
use Rattle.res_calls.specs.declared.files.OpenFile.{OpenFile as StoredOpenFile}
use Rattle.res_calls.specs.declared.updating.Anew.{Anew}
use Rattle.res_calls.specs.Files.{Resources}
use Rattle.res_calls.specs.Update.{fresh, updated_map}
use Rattle.res_calls.specs.View.{view_file, view_open}

-- How the results of an update's functions correspond to the definitions.

-- The resources with the given files and open files, and the resources with the given files.
abbrev pub stored_in : List StoredFile → List StoredOpenFile → Resources → Resources
stored_in files chain r = record r { files = map view_file files; chain = map view_open chain }

abbrev pub filed_in : List StoredFile → Resources → Resources
filed_in files r = record r { files = map view_file files }

-- The bytes are the canonical fork of a content that fits the format, and are read again as that content.
pub record IsWritten (c : Content) (bytes : List ℕ) : Type 0 where
  pub fork : bytes ≡ canon c
  pub read_again : Spells bytes (clear c)
  pub fits : fits c ≡ true

-- The result is the fork of a content, or -34 (dskFulErr) where the content does not fit the format.
abbrev pub IsFork : Content → Result (Vec ℕ Global) Refusal → Type 0
IsFork c (Ok fork) = IsWritten c fork.items
IsFork c (Err (Code code)) = (code ≡ DISK_FULL) × (fits c ≡ false)
IsFork c (Err HostMemory) = Unit {0}

-- The result is the stored data and the fork that an update of a resource map makes, or -34 (dskFulErr) where the
-- content does not fit the format.
abbrev pub IsAnew : State → Map → Result Anew Refusal → Type 0
IsAnew heap m (Ok anew) =
    (view_all anew.stored.items ≡ map (fresh heap) m.references)
    × IsWritten (content (updated_map heap m)) anew.fork.items
IsAnew heap m (Err (Code code)) = (code ≡ DISK_FULL) × (fits (content (updated_map heap m)) ≡ false)
IsAnew heap m (Err HostMemory) = Unit {0}

-- The resources after an update are the given ones, or the code is -34 (dskFulErr) where the update has no result.
abbrev pub IsUpdated : {T : Type 0} → Option Resources → Result T Refusal → Resources → Type 0
IsUpdated r (Ok done) after = r ≡ Some after
IsUpdated r (Err (Code code)) after = (code ≡ DISK_FULL) × (r ≡ None)
IsUpdated r (Err HostMemory) after = Unit {0}
