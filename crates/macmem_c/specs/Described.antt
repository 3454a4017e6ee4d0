use Rattle.std.specs.Prelude.{◌≡◌, ◌-◌, ℕ, Some, List, [], ◌∷◌, ◌++◌, map, codes, decimal, Result, Ok, Err}
use Rattle.std.specs.List.{flat_map}
use Rattle.fork_edits.specs.Lines.{row_text, compressed_text}
use Rattle.fork_edits.specs.Resources.{rows}
use Rattle.fork_edits.specs.Resources as edits
use Rattle.mac_roman.specs.declared.charset.Charset.TheVariants.{Utf8}
use Rattle.fork_commands.specs.BuiltIn.{built_in}
use Rattle.fork_commands.specs.Faults.{made_then}
use Rattle.fork_commands.specs.Reading.{content_in}
use Rattle.fork_commands.specs.declared.fault.FileFault.{FileFault}
use Rattle.lint.specs.Faults.{script_faults}
use Rattle.rez_text.specs.Reading.{ReadFault, Wrong, Lacking, read}
use Rattle.script_text.specs.Script.{ScriptParts, script_of, spelled}
use Rattle.applications.specs.Trying.{own_resources}
use Rattle.zone_replay.specs.Behind.{steps_at}
use Rattle.zone_replay.specs.Words.{telling_text}
use Rattle.zone_replay.specs.declared.words.Telling.{Telling}
use Rattle.zone_replay.specs.declared.words.Telling.TheVariants as telling

-- What C gets of files and scripts for people, in lines.

-- The line of a resource: its type, ID, attributes, length and name, in UTF-8.
abbrev pub listed_line : edits.Row → List ℕ
listed_line row = row_text Utf8 row ++ compressed_text row.resource.attrs ++ codes "\n"

-- The lines of the resources of the fork in the bytes of a file.
abbrev pub listing : List ℕ → Result (List ℕ) FileFault
listing file = made_then (content_in file) (λ content. Ok (flat_map listed_line (rows content.groups)))

-- The calls of a script from a line to another.
abbrev pub telling_of : ℕ → ℕ → ScriptParts → Telling
telling_of from to script = telling.Steps (steps_at (Some (from - 1)) script.steps) (steps_at (Some to) script.steps)

-- The calls from a line to another in words, of a script's application in a partition of so many bytes.
pub record IsTold (size from to : ℕ) (text out : List ℕ) : Type 0 where
  pub script : ScriptParts
  pub spells : script_of text ≡ Ok (spelled script)
  pub told_is : out ≡ telling_text (telling_of from to script) own_resources size script text

-- The line of a faulty line: its number, and words, of which no more is said.
abbrev pub faulty_line : ℕ → List ℕ → List ℕ
faulty_line n words = decimal n ++ codes ":" ++ words ++ codes "\n"

-- The lines of the faulty lines of these numbers, one for each, in their order.
abbrev pub AreLines : List ℕ → List ℕ → Type 0
AreLines [] out = out ≡ []
AreLines (n ∷ more) out = (words : List ℕ) × (rest : List ℕ) × (out ≡ faulty_line n words ++ rest) × AreLines more rest

-- Those of a script.
abbrev pub AreFaulty : List ℕ → List ℕ → Type 0
AreFaulty text out = AreLines (map (λ fault. fault.0) (script_faults text)) out

-- The number of the line where a source can't go on, if there is one. A source that lacks files alone has none.
abbrev pub stopped_at : {A : Type 0} → Result A ReadFault → List ℕ
stopped_at (Ok content) = []
stopped_at (Err (Wrong line kind)) = line ∷ []
stopped_at (Err (Lacking names)) = []

-- That of a source of Rez, by the types of the table.
abbrev pub IsUnstated : List ℕ → List ℕ → Type 0
IsUnstated source out = AreLines (stopped_at (read built_in [] source)) out
