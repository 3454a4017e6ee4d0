use Rattle.std.specs.Prelude.{Option, Some, None, Result, Ok, Err, is_some, if◌then◌else◌, option_map}
use Rattle.byteorder.specs.Endian.{big_number}
use Rattle.mac_words.specs.declared.attributes.Attrs.{Attrs}
use Rattle.mac_words.specs.declared.code.TheConstants.OsErr.{RES_NOT_FOUND}
use Rattle.fork_format.specs.Content.{Content}
use Rattle.fork_edits.specs.declared.renaming.RenameFault.{RenameFault}
use Rattle.fork_edits.specs.declared.renaming.RenameFault.TheVariants.{NotFound, Taken}
use Rattle.fork_edits.specs.Resources.{found}
use Rattle.fork_edits.specs.Removing.{without_resource}
use Rattle.fork_edits.specs.Renaming.{Renaming, with_renamed, refusal}
use Rattle.fork_edits.specs.RomanNames.{name_bytes}
use Rattle.fork_commands.specs.declared.editing.Naming.{Naming}
use Rattle.fork_commands.specs.declared.editing.Edit.{Edit}
use Rattle.fork_commands.specs.declared.editing.Edit.TheVariants.{Remove, Rename}
use Rattle.fork_commands.specs.declared.fault.FileFault.{FileFault}
use Rattle.fork_commands.specs.declared.fault.FileFault.TheVariants.{Code, TakenId}

-- Edits of one resource of a content. More Macintosh Toolbox, chapter 1, "Resource Files".

-- What a resource gets, as a value.
abbrev pub view_naming : Naming → Renaming
view_naming new = record {
  id = new.id;
  name = option_map (option_map name_bytes) new.name;
  attrs = option_map (λ (a : Attrs). a.0) new.attrs;
}

-- Why a resource was not renamed, as a fault of the file: -192 (resNotFound) where there is no such resource.
abbrev pub rename_fault : RenameFault → FileFault
rename_fault NotFound = Code RES_NOT_FOUND
rename_fault Taken = TakenId

-- A content, unless there is a reason against it.
abbrev pub unless_refused : Option RenameFault → Content → Result Content FileFault
unless_refused None c = Ok c
unless_refused (Some fault) c = Err (rename_fault fault)

-- The content after an edit, or why it can't be made.
unfoldable pub edited : Edit → Content → Result Content FileFault
edited (Remove key) c =
    if is_some (found (big_number 4 key.ty.0) key.id c) then Ok (without_resource (big_number 4 key.ty.0) key.id c)
    else Err (Code RES_NOT_FOUND)
edited (Rename key new) c =
    unless_refused (refusal (big_number 4 key.ty.0) key.id (view_naming new) c)
    (with_renamed (big_number 4 key.ty.0) key.id (view_naming new) c)
