use Rattle.std.specs.Prelude.{ℕ, Option, Some, None, Result, Ok, Err, List, if◌then◌else◌}
use Rattle.byteorder.specs.Endian.{big_number}
use Rattle.mac_words.specs.declared.code.TheConstants.OsErr.{DISK_FULL, RES_NOT_FOUND}
use Rattle.fork_format.specs.Content.{Ref, Content}
use Rattle.fork_format.specs.Canonical.{canon, fits}
use Rattle.fork_edits.specs.Resources.{found}
use Rattle.fork_commands.specs.declared.fault.FileFault.{FileFault}
use Rattle.fork_commands.specs.declared.fault.FileFault.TheVariants.{Code}
use Rattle.fork_commands.specs.declared.work.ForkWork.{ForkWork}
use Rattle.fork_commands.specs.declared.work.ForkWork.TheVariants.{Rewrite, Get, Change}
use Rattle.fork_commands.specs.declared.work.ResourceKey.{ResourceKey}
use Rattle.fork_commands.specs.Editing.{edited}
use Rattle.fork_commands.specs.Faults.{made_then}
use Rattle.fork_commands.specs.Packaging.{then_packed}
use Rattle.fork_commands.specs.Reading.{content_in}

-- What the works make of the bytes of one file.

-- The canonical fork of a content, or -34 (dskFulErr) where the content doesn't fit the format of a fork.
abbrev pub canonical : Content → Result (List ℕ) FileFault
canonical c = if fits c then Ok (canon c) else Err (Code DISK_FULL)

-- A resource that was found, or -192 (resNotFound).
abbrev pub found_or_fault : Option Ref → Result Ref FileFault
found_or_fault None = Err (Code RES_NOT_FOUND)
found_or_fault (Some r) = Ok r

-- The first resource of a type and an ID.
abbrev pub resource_at : ResourceKey → Content → Result Ref FileFault
resource_at key c = found_or_fault (found (big_number 4 key.ty.0) key.id c)

-- Its stored data.
abbrev pub datum_at : ResourceKey → Content → Result (List ℕ) FileFault
datum_at key c = made_then (resource_at key c) (λ r. Ok r.datum)

-- What a work makes of the bytes.
abbrev pub made : ForkWork → List ℕ → Result (List ℕ) FileFault
made (Rewrite packaging) bytes = then_packed packaging bytes (made_then (content_in bytes) canonical)
made (Change edit packaging) bytes =
    then_packed packaging bytes (made_then (made_then (content_in bytes) (edited edit)) canonical)
made (Get key) bytes = made_then (content_in bytes) (datum_at key)
