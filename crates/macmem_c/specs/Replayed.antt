use Rattle.std.specs.Prelude.{◌≡◌, ℕ, ℤ, pos, false, Some, List, Ok, Err}
use Rattle.zone_drawing.specs.declared.choice.Choice.TheVariants.{All}
use Rattle.zone_drawing.specs.declared.digits.Digits.TheVariants.{Decimal}
use Rattle.zone_drawing.specs.declared.svg.Part.{Part}
use Rattle.script_text.specs.Script.{ScriptParts, script_of, spelled}
use Rattle.script_text.specs.Reading.{FailsAt}
use Rattle.script_text.specs.declared.fault.FaultKind.{FaultKind}
use Rattle.script_text.specs.declared.fault.FaultKind.TheVariants as kind
use Rattle.script_text.specs.declared.fault.ScriptFault.{ScriptFault}
use Rattle.applications.specs.Alone.{script_alone}
use Rattle.applications.specs.Trying.{own_resources}
use Rattle.zone_replay.specs.Behind.{steps_at}
use Rattle.zone_replay.specs.Sight.{sight_text}
use Rattle.zone_replay.specs.declared.form.Details.{Details}
use Rattle.zone_replay.specs.declared.form.Form.TheVariants.{Columns, Picture}
use Rattle.zone_replay.specs.declared.form.Only.TheVariants.{Blocks}
use Rattle.zone_replay.specs.declared.sight.Sight.{Sight}
use Rattle.zone_replay.specs.declared.sight.Sight.TheVariants as sight
use Rattle.macmem_c.specs.Codes.{host_memory}
use Rattle.macmem_c.specs.Faults.{file_fault}
use Rattle.macmem_c.specs.declared.faults.Fault.{Fault}
use Rattle.macmem_c.specs.declared.replaying.Showing.{Showing}
use Rattle.macmem_c.specs.declared.replaying.Showing.TheVariants as showing

-- What C gets of a script in a fresh partition.

-- The transcript of a script's text in a partition of so many bytes.
pub record IsTranscript (size : ℕ) (text out : List ℕ) : Type 0 where
  pub script : ScriptParts
  pub spells : script_of text ≡ Ok (spelled script)
  pub transcript_is : out ≡ (script_alone size script).transcript

-- A picture is of the whole zone.
abbrev pub whole : Part
whole = record { from = 0; to = 4294967295 }

-- A list is of all blocks, with its numbers in decimal.
abbrev pub listed : Details
listed = record { digits = Decimal; only = Blocks All }

-- What is shown, in steps of the script.
abbrev pub sight_of : Showing → ScriptParts → Sight
sight_of (showing.List line) script = sight.Zone (steps_at (Some line) script.steps) (Columns listed)
sight_of (showing.Picture line) script = sight.Zone (steps_at (Some line) script.steps) (Picture whole)
sight_of (showing.Steps from to) script =
    sight.Moments (steps_at (Some from) script.steps) (steps_at (Some to) script.steps)
    (record { part = whole; all = false; inside = false })

-- What is shown of a script's application in a partition of so many bytes.
pub record IsShowing (size : ℕ) (showing : Showing) (text out : List ℕ) : Type 0 where
  pub script : ScriptParts
  pub spells : script_of text ≡ Ok (spelled script)
  pub shown_is : out ≡ sight_text (sight_of showing script) own_resources size script text

-- The fault is that of the text's first faulty line, or the host is out of memory.
abbrev pub IsUnread : List ℕ → ScriptFault → Type 0
IsUnread text fault = FailsAt fault.line fault.kind (script_of text)

-- The number of a kind of fault, as C has it.
abbrev pub kind_number : FaultKind → ℤ
kind_number kind.UnknownCall = pos 1
kind_number kind.BadArgument = pos 2
kind_number kind.NotAllowed = pos 3
kind_number kind.LongLine = pos 4
kind_number kind.HostMemory = pos 0

-- C has the line and the kind of a faulty script.
pub record IsFaulty (line : ℕ) (kind : FaultKind) (has : Fault) : Type 0 where
  pub line_is : has.line ≡ line
  pub kind_is : has.code ≡ kind_number kind
  pub second_is : has.second ≡ false

-- The code, and the fault that C has after the call.
abbrev pub TellsKind : FaultKind → ℕ → Fault → Fault → ℤ → Type 0
TellsKind kind.HostMemory line before after code = (code ≡ host_memory) × (after ≡ before)
TellsKind kind.UnknownCall line before after code = (code ≡ file_fault) × IsFaulty line kind.UnknownCall after
TellsKind kind.BadArgument line before after code = (code ≡ file_fault) × IsFaulty line kind.BadArgument after
TellsKind kind.NotAllowed line before after code = (code ≡ file_fault) × IsFaulty line kind.NotAllowed after
TellsKind kind.LongLine line before after code = (code ≡ file_fault) × IsFaulty line kind.LongLine after

-- The script's first faulty line, with what is wrong there, is what C has.
pub record IsScriptFault (text : List ℕ) (has : Fault) : Type 0 where
  pub line : ℕ
  pub kind : FaultKind
  pub is_faulty : script_of text ≡ Err (line, kind)
  pub is_told : IsFaulty line kind has
